use Rattle.std.proofs.Common.{◌≡◌, ◌++◌, drop, map}
use Rattle.std.specs.List.{flat_map}
use Rattle.ndc_explain_top.specs.Rows.{difference_at}
use Rattle.ndc_explain_top.proofs.rows.push_differences.Given as goal

abbrev pub invariant-loop-batch : goal.invariant-loop-batch
invariant-loop-batch l = l.text.items ++ flat_map (difference_at l.clusters l.taken) (map (λ b. b.now) (drop l.batch-index l.union)) ≡ l.initial.text.items ++ flat_map (difference_at l.clusters l.taken) (map (λ b. b.now) l.union)
