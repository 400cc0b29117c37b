use Rattle.std.proofs.Common.{◌≡◌, ◌+◌, drop, length}
use Rattle.ndc_dump.specs.Lines.{without_end}
use Rattle.ndc_dump.proofs.cut.end_of.Given as goal

-- the bytes so far stand before the line end
abbrev pub invariant-loop-at : goal.invariant-loop-at
invariant-loop-at l = l.at + length (without_end (drop l.at l.bytes)) ≡ length (without_end l.bytes)
