use Rattle.ndc_domain.proofs.Faults.{built_is_sound, sound_is_built}
use Rattle.ndc_domain.proofs.cluster_laws.clusters_can_be_built_where_sound.Goals as goal

pub returns-clause-sound : goal.returns-clause-sound
returns-clause-sound c = built_is_sound

pub returns-clause-complete : goal.returns-clause-complete
returns-clause-complete c = sound_is_built
