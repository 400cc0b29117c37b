use Rattle.ndc_laws_jobs.proofs.AgainLemmas.{brought-of-workflow}
use Rattle.ndc_laws_jobs.proofs.again_laws.what_is_brought_is_sent_again.Goals as goal
use Rattle.ndc_model_cells.specs.Cells.{put_off_in}
use Rattle.ndc_model.specs.World.{cell_at}
use Rattle.ndc_model.proofs.ListLemmas.{is-among}

pub returns : goal.returns
returns c = λ header lines reader w shard b known is below among. brought-of-workflow header lines w is shard below reader known b (is-among (put_off_in (cell_at reader shard w)) b among)
