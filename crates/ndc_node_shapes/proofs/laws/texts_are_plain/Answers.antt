use Rattle.ndc_node_shapes.proofs.PlainTexts.{plain}
use Rattle.ndc_node_shapes.proofs.laws.texts_are_plain.Goals as goal

pub returns : goal.returns
returns c = plain
