use Rattle.std.proofs.Common.{◌≡◌, ◌++◌, codes, drop, map}
use Rattle.std.specs.List.{flat_map}
use Rattle.ndc_text.specs.Bare.{bare_text}
use Rattle.ndc_event.specs.declared.batch.Batch.{Batch}
use Rattle.ndc_text.specs.Text.{batch_text}
use Rattle.ndc_text.proofs.dump.bare_text.Given as goal

-- what is printed, with the lines of the batches that are left, is all of it
abbrev pub invariant-loop-batch : goal.invariant-loop-batch
invariant-loop-batch l = l.text.items ++ flat_map (λ (b : Batch). batch_text b ++ codes "\n") (map (λ b. b.now) (drop l.batch-index l.batches)) ≡ bare_text l.domain l.workflow (map (λ b. b.now) l.batches)
