use Rattle.std.proofs.Common.{◌≡◌, ◌||◌, drop}
use Rattle.ndc_model_sets.specs.Origins.{origins_in}
use Rattle.ndc_state.specs.Replay.{collected}
use Rattle.ndc_dump_causes.specs.Causes.{comes_again}
use Rattle.ndc_dump_causes.proofs.trail.Trail.list_all.Given as goal

-- what came again so far, or does among the events left after what is listed now, does among all events
abbrev pub invariant-loop-event : goal.invariant-loop-event
invariant-loop-event l = record {
  again : (l.again || comes_again l.self.listed (origins_in l.run (drop l.event-index l.events))) ≡ comes_again l.fn.self.listed (origins_in l.run l.events);
  listed : collected l.run l.self.listed (drop l.event-index l.events) ≡ collected l.run l.fn.self.listed l.events;
  opened : l.self.opened ≡ l.fn.self.opened;
}
