use Rattle.std.proofs.Common.{◌≡◌, ◌++◌, drop, map}
use Rattle.ndc_tree.specs.Segments.{flat}
use Rattle.ndc_tree.proofs.batches.Batches.to_vec.Given as goal

-- the batches so far, and those of the segments that are left, are all
abbrev pub invariant-loop-segment : goal.invariant-loop-segment
invariant-loop-segment l = map (λ b. b.now) l.list.items ++ flat (drop l.segment-index l.segment-items) ≡ l.self
