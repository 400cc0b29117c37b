use Rattle.std.proofs.Common.{◌≡◌, ◌++◌, drop}
use Rattle.ndc_event.specs.Sorted.{InOrder}
use Rattle.ndc_model_sets.specs.Origins.{origins_in}
use Rattle.ndc_state.specs.OriginList.{origin_before}
use Rattle.ndc_shard_runs.proofs.kept.rising_in.Given as goal

-- the origins so far, with those of the events that are left, are those of all, and they rise
abbrev pub invariant-loop-event : goal.invariant-loop-event
invariant-loop-event l = record {
  all : l.list.items ++ origins_in l.run (drop l.event-index l.events) ≡ origins_in l.run l.events;
  rise : InOrder origin_before l.list.items;
}
