use Rattle.std.proofs.Common.{◌≡◌, drop}
use Rattle.std.specs.List.{list_all}
use Rattle.ndc_explain_top.specs.Rows.{has_all}
use Rattle.ndc_explain_top.proofs.rows.Group.are_whole.Given as goal

abbrev pub invariant-loop-taken : goal.invariant-loop-taken
invariant-loop-taken l = list_all (has_all l.self.union) (drop l.taken-index l.self.dumps) ≡ list_all (has_all l.self.union) l.self.dumps
