use Rattle.ndc_model_sets.proofs.WriteLaws.{below_keeps_parents}
use Rattle.ndc_model_sets.proofs.sound_laws.a_batch_below_the_tip_keeps_each_part.Goals as goal

-- src/sound_laws.rt:22:1
pub returns-clause-parents : goal.returns-clause-parents
returns-clause-parents c = below_keeps_parents
