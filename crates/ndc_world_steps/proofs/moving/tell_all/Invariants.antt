use Rattle.std.proofs.Common.{◌≡◌, ◌++◌}
use Rattle.std.specs.List.{flat_map}
use Rattle.ndc_world_answers.specs.Tallies.{no_tally, with_notes}
use Rattle.ndc_model.specs.Steps.{seen_of}
use Rattle.ndc_world_replication.specs.Dones.{notes_in}
use Rattle.ndc_world_steps.proofs.moving.tell_all.Given as goal

-- what is counted and listed, with what is left, is the whole
abbrev pub invariant-loop-done : goal.invariant-loop-done
invariant-loop-done l = record {
  tally : with_notes (flat_map notes_in l.done-iterator.rest.items) l.tally ≡ with_notes (flat_map notes_in l.fn.dones.items) no_tally;
  seen : l.seen.items ++ seen_of (flat_map notes_in l.done-iterator.rest.items) ≡ seen_of (flat_map notes_in l.fn.dones.items);
}
