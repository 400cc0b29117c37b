use Rattle.std.proofs.Common.{◌≡◌, ◌+◌, drop, map}
use Rattle.ndc_dump.specs.Lines.{differ_at}
use Rattle.ndc_dump.proofs.read.differ_at.Given as goal

abbrev pub invariant-loop-line : goal.invariant-loop-line
invariant-loop-line l = record {
  number : l.number ≡ l.fn.number + l.line-index;
  rest : differ_at l.number (map (λ line. line.now) (drop l.line-index l.lines)) (map (λ line. line.now) l.left) ≡ differ_at l.fn.number (map (λ line. line.now) l.lines) (map (λ line. line.now) l.wanted);
}
