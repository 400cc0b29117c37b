use Rattle.std.proofs.Common.{◌≡◌, drop}
use Rattle.std.specs.List.{list_all}
use Rattle.ndc_explain_top.specs.Rows.{has_dump}
use Rattle.ndc_explain_top.proofs.rows.Group.have_dumps.Given as goal

abbrev pub invariant-loop-name : goal.invariant-loop-name
invariant-loop-name l = list_all (has_dump l.self.dumps) (drop l.name-index l.self.named) ≡ list_all (has_dump l.self.dumps) l.self.named
