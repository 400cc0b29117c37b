use Rattle.std.proofs.Common.{◌≡◌}
use Rattle.ndc_cases.specs.Case.{lines_of}
use Rattle.ndc_cases.proofs.case.lines_of.Given as goal

-- so many lines are there
abbrev pub invariant-loop-made : goal.invariant-loop-made
invariant-loop-made l = l.lines.items ≡ lines_of l._made l.line
