use Rattle.std.proofs.Common.{sym}
use Rattle.ndc_explain_picture.specs.Picture.{run_named}
use Rattle.ndc_explain_picture.proofs.picture.push_run.Goals as goal

pub returns : goal.returns
unfolding run_named
returns c = rw (sym c.key_of_run-key.ensures) c.push_pieces.ensures
