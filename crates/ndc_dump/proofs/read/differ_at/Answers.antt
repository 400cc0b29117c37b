use Rattle.std.proofs.Common.{map}
use Rattle.ndc_dump.specs.Lines.{differ_at}
use Rattle.ndc_dump.proofs.ViewLines.{too-many}
use Rattle.ndc_dump.proofs.read.differ_at.Goals as goal

pub returns-in-empty : goal.returns-in-empty
returns-in-empty c =
    too-many (λ line. line.now) c.loop-line.number c.args.lines.now c.loop-line.left.now c.loop-line.line-index
    (differ_at c.args.number (map (λ line. line.now) c.args.lines.now) (map (λ line. line.now) c.args.wanted.now)) c.loop-line-test.true c.in-empty.len_below c.loop-line.invariant.rest
