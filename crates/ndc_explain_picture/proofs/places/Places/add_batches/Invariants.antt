use Rattle.std.proofs.Common.{◌≡◌, drop, map}
use Rattle.ndc_explain_picture.specs.Places.{with_batches}
use Rattle.ndc_explain_picture.proofs.places.Places.add_batches.Given as goal

abbrev pub invariant-loop-batch : goal.invariant-loop-batch
invariant-loop-batch l = with_batches l.place (map (λ b. b.now) (drop l.batch-index l.batches)) l.self ≡ with_batches l.place (map (λ b. b.now) l.batches) l.initial.self
