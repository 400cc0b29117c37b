use Rattle.std.proofs.Common.{◌≡◌, ◌≤◌, ◌+◌, length}
use Rattle.std.specs.Map.{values_of}
use Rattle.ndc_state.specs.Pendings.{remaining, values_from}
use Rattle.ndc_state.proofs.removed.remaining_len.Given as goal

abbrev pub invariant-loop-place : goal.invariant-loop-place
invariant-loop-place l = (l.count ≤ l.place) × (l.count + length (values_from l.place l.removed.keys l.entries.entries) ≡ length (values_of (remaining l.removed.keys l.entries.entries)))
