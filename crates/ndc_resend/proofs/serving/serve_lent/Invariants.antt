use Rattle.std.proofs.Common.{◌≡◌, ◌++◌, drop, map}
use Rattle.ndc_resend.specs.Gaps.{served}
use Rattle.ndc_resend.proofs.serving.serve_lent.Given as goal

-- those gone over that lie in the gap, and those that are left and do, are all
abbrev pub invariant-loop-batch : goal.invariant-loop-batch
invariant-loop-batch l = map (λ b. b.now) l.list.items ++ served l.gap (map (λ b. b.now) (drop l.batch-index l.path)) ≡ served l.gap (map (λ b. b.now) l.path)
