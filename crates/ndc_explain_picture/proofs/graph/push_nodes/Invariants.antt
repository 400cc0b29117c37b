use Rattle.std.proofs.Common.{◌≡◌, ◌++◌, drop}
use Rattle.std.specs.List.{flat_map}
use Rattle.ndc_explain_picture.specs.Graph.{node_text}
use Rattle.ndc_explain_picture.proofs.graph.push_nodes.Given as goal

-- the text so far, with what is left, is the whole
abbrev pub invariant-loop-column : goal.invariant-loop-column
invariant-loop-column l = l.text.items ++ flat_map (node_text l.stands l.key) (drop l.column-index l.columns) ≡ l.initial.text.items ++ flat_map (node_text l.stands l.key) l.columns
