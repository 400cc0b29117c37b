use Rattle.ndc_dump_causes.proofs.Soundness.{read_is_sound}
use Rattle.ndc_dump.proofs.dump_laws.a_set_without_a_cause_is_sound.Goals as goal

pub returns : goal.returns
returns c = read_is_sound
