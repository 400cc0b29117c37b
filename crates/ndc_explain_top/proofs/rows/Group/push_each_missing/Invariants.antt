use Rattle.std.proofs.Common.{◌≡◌, ◌++◌, drop}
use Rattle.std.specs.List.{flat_map}
use Rattle.ndc_explain_top.specs.Rows.{missing_told}
use Rattle.ndc_explain_top.proofs.rows.Group.push_each_missing.Given as goal

abbrev pub invariant-loop-name : goal.invariant-loop-name
invariant-loop-name l = l.text.items ++ flat_map (missing_told l.self.dumps) (drop l.name-index l.self.named) ≡ l.initial.text.items ++ flat_map (missing_told l.self.dumps) l.self.named
