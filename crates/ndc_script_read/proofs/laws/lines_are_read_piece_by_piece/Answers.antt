use Rattle.ndc_script_read.proofs.Pieces.{read-apart}
use Rattle.ndc_script_read.proofs.laws.lines_are_read_piece_by_piece.Goals as goal

pub returns : goal.returns
returns c = read-apart
