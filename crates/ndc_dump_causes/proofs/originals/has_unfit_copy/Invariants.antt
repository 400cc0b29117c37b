use Rattle.std.proofs.Common.{◌≡◌, drop}
use Rattle.ndc_dump_causes.specs.Originals.{has_unfit_among}
use Rattle.ndc_dump_causes.proofs.originals.has_unfit_copy.Given as goal

abbrev pub invariant-loop-event : goal.invariant-loop-event
invariant-loop-event l = has_unfit_among l.known (drop l.event-index l.events) ≡ has_unfit_among l.known l.events
