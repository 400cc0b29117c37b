use Rattle.std.proofs.Common.{◌≡◌, map, None, ◌+◌, drop}
use Rattle.ndc_dump.specs.Batches.{batches_on, behind}
use Rattle.ndc_dump.proofs.batches.batches_to.Given as goal

-- the batches so far, and those of the lines that are left
abbrev pub invariant-loop-line : goal.invariant-loop-line
invariant-loop-line l = record {
  number : l.number ≡ l.line-index + 2;
  read : behind l.batches.items (batches_on l.heading l.number l.last (map (λ line. line.now) (drop l.line-index l.lines))) ≡ batches_on l.heading 2 None (map (λ line. line.now) l.lines);
}
