use Rattle.std.proofs.Common.{◌≡◌, slice_get}
use Rattle.std.specs.Map.{values_of}
use Rattle.ndc_state.specs.Pendings.{remaining, values_from}
use Rattle.ndc_state.proofs.removed.remaining_at.Given as goal

abbrev pub invariant-loop-next : goal.invariant-loop-next
invariant-loop-next l = slice_get (values_from l.next l.removed.keys l.entries.entries) l.left ≡ slice_get (values_of (remaining l.removed.keys l.entries.entries)) l.fn.place
