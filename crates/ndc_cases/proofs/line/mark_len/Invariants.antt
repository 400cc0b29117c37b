use Rattle.std.proofs.Common.{◌≡◌, ◌+◌, drop}
use Rattle.ndc_cases.specs.Line.{mark_len}
use Rattle.ndc_cases.proofs.line.mark_len.Given as goal

-- the bytes so far are not space
abbrev pub invariant-loop-at : goal.invariant-loop-at
invariant-loop-at l = l.at + mark_len (drop l.at l.line) ≡ mark_len l.line
