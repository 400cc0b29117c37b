use Rattle.ndc_shard_runs.proofs.FitLemmas.{fit-is-sound, sound-is-fit}
use Rattle.ndc_shard_runs.proofs.laws.what_fits_leaves_a_sound_set.Goals as goal

pub returns-clause-sound : goal.returns-clause-sound
returns-clause-sound c = fit-is-sound

pub returns-clause-fits : goal.returns-clause-fits
returns-clause-fits c = λ batches b sound next most own after. sound-is-fit batches b sound after next.fresh most own
