use Rattle.std.proofs.Common.{◌≡◌, ◌++◌, drop, map}
use Rattle.ndc_tree.proofs.batches.add_all.Given as goal

-- the list so far, with the batches that are left, is the list with all of them
abbrev pub invariant-loop-batch : goal.invariant-loop-batch
invariant-loop-batch l = map (λ b. b.now) l.list.items ++ drop l.batch-index l.batches ≡ map (λ b. b.now) l.initial.list.items ++ l.batches
