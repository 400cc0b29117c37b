use Rattle.std.proofs.Common.{◌≡◌, ◌++◌, map, drop}
use Rattle.ndc_node_shapes.specs.Bytes.{further}
use Rattle.ndc_node_shapes.specs.Text.{text_of}
use Rattle.ndc_node_shapes.proofs.framed.push_further.Given as goal

abbrev pub invariant-loop-item : goal.invariant-loop-item
invariant-loop-item g l =
    let t = g.T.Framed in
    l.text.items ++ further (text_of t.shape) (map t.value (drop l.item-index l.items)) ≡ l.initial.text.items ++ further (text_of t.shape) (map t.value l.items)
