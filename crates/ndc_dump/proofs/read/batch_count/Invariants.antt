use Rattle.std.proofs.Common.{◌≡◌, ◌+◌, drop, map}
use Rattle.ndc_dump.specs.Batches.{batch_count}
use Rattle.ndc_dump.proofs.read.batch_count.Given as goal

abbrev pub invariant-loop-line : goal.invariant-loop-line
invariant-loop-line l = record {
  place : l.count ≡ l.line-index;
  rest : l.count + batch_count (map (λ line. line.now) (drop l.line-index l.lines)) ≡ batch_count (map (λ line. line.now) l.lines);
}
