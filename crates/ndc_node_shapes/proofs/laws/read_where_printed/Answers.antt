use Rattle.ndc_node_shapes.proofs.AllShapes.{where_printed}
use Rattle.ndc_node_shapes.proofs.laws.read_where_printed.Goals as goal

pub returns : goal.returns
returns c = where_printed
