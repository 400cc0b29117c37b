use Rattle.std.proofs.Common.{◌≡◌, drop, map}
use Rattle.ndc_explain_top.specs.Rows.{has_all}
use Rattle.ndc_explain_top.proofs.rows.has_all.Given as goal

abbrev pub invariant-loop-batch : goal.invariant-loop-batch
invariant-loop-batch l = has_all (map (λ b. b.now) (drop l.batch-index l.union)) l.taken ≡ has_all (map (λ b. b.now) l.union) l.taken
