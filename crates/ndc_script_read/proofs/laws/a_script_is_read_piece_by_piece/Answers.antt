use Rattle.ndc_script_read.proofs.Pieces.{script-apart}
use Rattle.ndc_script_read.proofs.laws.a_script_is_read_piece_by_piece.Goals as goal

pub returns : goal.returns
returns c = script-apart
