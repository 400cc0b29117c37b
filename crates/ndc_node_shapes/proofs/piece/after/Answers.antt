use Rattle.ndc_node_shapes.proofs.Pieces.{stripped}
use Rattle.ndc_node_shapes.proofs.piece.after.Goals as goal

pub returns : goal.returns
returns c = stripped c.args.piece.now c.args.left.now c.strip_prefix.result c.strip_prefix.ensures.cases
