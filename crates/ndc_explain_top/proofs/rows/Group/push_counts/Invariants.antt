use Rattle.std.proofs.Common.{◌≡◌, ◌++◌, drop}
use Rattle.std.specs.List.{flat_map}
use Rattle.ndc_explain_top.specs.Rows.{row_line}
use Rattle.std.proofs.Common.{length}
use Rattle.ndc_explain_top.proofs.rows.Group.push_counts.Given as goal

abbrev pub invariant-loop-taken : goal.invariant-loop-taken
invariant-loop-taken l = l.text.items ++ flat_map (row_line (length l.self.union)) (drop l.taken-index l.self.dumps) ≡ l.initial.text.items ++ flat_map (row_line (length l.self.union)) l.self.dumps
