use Rattle.std.proofs.Common.{◌≡◌, ◌≤◌, take}
use Rattle.ndc_index.specs.Texts.{count_kinds}
use Rattle.ndc_index.specs.Told.{counts}
use Rattle.ndc_index.proofs.tally.counted.Given as goal

abbrev pub invariant-loop-event : goal.invariant-loop-event
invariant-loop-event l = (l.count ≡ count_kinds (counts l.sort) (take l.event-index l.events)) × (l.count ≤ l.event-index)
