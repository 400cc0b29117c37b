use Rattle.uuid.specs.Text.{parsed}
use Rattle.ndc_node_shapes.proofs.Pieces.{no_run}
use Rattle.ndc_node_shapes.proofs.piece.run_from.Goals as goal

pub returns-in-Err : goal.returns-in-Err
returns-in-Err c = no_run c.args.text.now (parsed c.args.text.now) c.in-Err.ensures.ok.1
