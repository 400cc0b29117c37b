use Rattle.std.proofs.Common.{◌≡◌, ◌++◌, length, map}
use Rattle.ndc_dump.specs.Lines.{lines_of}
use Rattle.ndc_dump.proofs.cut.lines_of.Given as goal

-- the lines so far, and those of the rest
abbrev pub invariant-loop-line : goal.invariant-loop-line
invariant-loop-line l = map (λ line. line.now) l.lines.items ++ lines_of l.rest ≡ lines_of l.bytes

abbrev pub decreases-loop-line : goal.decreases-loop-line
decreases-loop-line l = length l.rest
