use Rattle.std.proofs.Common.{◌≡◌, ◌++◌, map, drop}
use Rattle.ndc_shard_runs.specs.Settled.{origins_seen, unsettled_in}
use Rattle.ndc_shard_runs.proofs.stray.push_unsettled.Given as goal

-- the signals so far, and those of the other events, are all
abbrev pub invariant-loop-event : goal.invariant-loop-event
invariant-loop-event l =
    l.list.items ++ unsettled_in (origins_seen (map (λ s. s.now) l.states)) l.run (drop l.event-index l.events) ≡ l.initial.list.items ++ unsettled_in (origins_seen (map (λ s. s.now) l.states)) l.run l.events
