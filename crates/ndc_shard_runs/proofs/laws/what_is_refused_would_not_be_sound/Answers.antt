use Rattle.ndc_shard_runs.proofs.AdmitLemmas.{would-be-sound}
use Rattle.ndc_shard_runs.proofs.laws.what_is_refused_would_not_be_sound.Goals as goal

pub returns : goal.returns
returns c = would-be-sound
