use Rattle.std.proofs.Common.{◌≡◌, drop}
use Rattle.std.specs.List.{list_all}
use Rattle.ndc_explain_top.specs.Rows.{are_of_one}
use Rattle.ndc_explain_union.specs.Unions.{are_same}
use Rattle.ndc_explain_top.proofs.rows.Group.are_of_one.Given as goal

abbrev pub invariant-loop-taken : goal.invariant-loop-taken
invariant-loop-taken l = list_all (λ taking. are_same taking.dump.view.batches l.self.union) (drop l.taken-index l.self.dumps) ≡ are_of_one l.self
