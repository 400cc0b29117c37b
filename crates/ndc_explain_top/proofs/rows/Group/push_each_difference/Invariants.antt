use Rattle.std.proofs.Common.{◌≡◌, ◌++◌, drop}
use Rattle.std.specs.List.{flat_map}
use Rattle.ndc_explain_top.specs.Rows.{differences_told}
use Rattle.ndc_explain_top.proofs.rows.Group.push_each_difference.Given as goal

abbrev pub invariant-loop-taken : goal.invariant-loop-taken
invariant-loop-taken l = l.text.items ++ flat_map (differences_told l.clusters l.self.union) (drop l.taken-index l.self.dumps) ≡ l.initial.text.items ++ flat_map (differences_told l.clusters l.self.union) l.self.dumps
