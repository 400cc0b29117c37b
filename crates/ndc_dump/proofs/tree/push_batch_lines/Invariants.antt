use Rattle.std.proofs.Common.{◌≡◌, ◌++◌, drop, map}
use Rattle.ndc_dump.specs.Marks.{marked_lines}
use Rattle.ndc_dump.proofs.tree.push_batch_lines.Given as goal

abbrev pub invariant-loop-batch : goal.invariant-loop-batch
invariant-loop-batch l = l.text.items ++ marked_lines l.keys (map (λ b. b.now) (drop l.batch-index l.batches)) ≡ l.initial.text.items ++ marked_lines l.keys (map (λ b. b.now) l.batches)
