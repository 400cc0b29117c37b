use Rattle.std.proofs.Common.{◌≡◌, ◌++◌, drop, false}
use Rattle.ndc_explain_picture.specs.Graph.{joint_line}
use Rattle.ndc_explain_picture.proofs.graph.push_joint_line.Given as goal

-- the text so far, with what is left, is the whole
abbrev pub invariant-loop-column : goal.invariant-loop-column
invariant-loop-column l = l.text.items ++ joint_line l.key l.parent l.inside (drop l.column-index l.columns) ≡ l.initial.text.items ++ joint_line l.key l.parent false l.columns
