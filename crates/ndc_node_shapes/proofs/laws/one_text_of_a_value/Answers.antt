use Rattle.ndc_node_shapes.proofs.AllShapes.{one_text}
use Rattle.ndc_node_shapes.proofs.laws.one_text_of_a_value.Goals as goal

pub returns : goal.returns
returns c = one_text
