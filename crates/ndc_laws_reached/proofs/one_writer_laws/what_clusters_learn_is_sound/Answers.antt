use Rattle.ndc_laws_reached.proofs.OneWriterLemmas.{learned_sound, origins_once}
use Rattle.ndc_laws_reached.proofs.one_writer_laws.what_clusters_learn_is_sound.Goals as goal

pub returns-clause-sound : goal.returns-clause-sound
returns-clause-sound c = learned_sound

pub returns-clause-origins : goal.returns-clause-origins
returns-clause-origins c = origins_once
