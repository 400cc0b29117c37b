use Rattle.ndc_node_shapes.proofs.AllShapes.{one_value}
use Rattle.ndc_node_shapes.proofs.laws.one_value_of_a_text.Goals as goal

pub returns : goal.returns
returns c = one_value
