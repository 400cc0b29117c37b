use Rattle.std.proofs.Common.{◌≡◌, ◌++◌, drop, map}
use Rattle.ndc_explain_picture.specs.Blocks.{events_of}
use Rattle.ndc_explain_picture.proofs.blocks.events_of.Given as goal

abbrev pub invariant-loop-batch : goal.invariant-loop-batch
invariant-loop-batch l = map (λ event. event.now) l.list.items ++ events_of (map (λ b. b.now) (drop l.batch-index l.batches)) ≡ events_of (map (λ b. b.now) l.batches)
