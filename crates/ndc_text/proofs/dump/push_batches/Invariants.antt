use Rattle.std.proofs.Common.{◌≡◌, ◌++◌, codes, drop}
use Rattle.std.specs.List.{flat_map}
use Rattle.ndc_text.specs.Text.{batch_text}
use Rattle.ndc_text.proofs.dump.push_batches.Given as goal

abbrev pub invariant-loop-batch : goal.invariant-loop-batch
invariant-loop-batch l = l.text.items ++ flat_map (λ b. batch_text b ++ codes "\n") (drop l.batch-index l.batches) ≡ l.initial.text.items ++ flat_map (λ b. batch_text b ++ codes "\n") l.batches
