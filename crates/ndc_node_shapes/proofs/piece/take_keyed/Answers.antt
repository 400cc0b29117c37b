use Rattle.std.proofs.Common.{rules, codes}
use Rattle.ndc_node_shapes.proofs.Pieces.{keyed}
use Rattle.ndc_node_shapes.proofs.piece.take_keyed.Goals as goal

pub returns-in_err-left : goal.returns-in_err-left
returns-in_err-left c = rw (keyed c.args.piece.now c.args.key.now (codes "\":") c.args.left.now) (search rules)

pub returns-in_err-left-2 : goal.returns-in_err-left-2
returns-in_err-left-2 c = rw (keyed c.args.piece.now c.args.key.now (codes "\":") c.args.left.now) (search rules)

pub returns : goal.returns
returns c = rw (keyed c.args.piece.now c.args.key.now (codes "\":") c.args.left.now) (search rules)
