use Rattle.ndc_dump_causes.proofs.Soundness.{read_is_sound}
use Rattle.ndc_dump.proofs.showing.runs_of.Goals as goal

pub learned-requires-clause-sound : goal.learned-requires-clause-sound
learned-requires-clause-sound c = read_is_sound c.args.batches.now c.requires.read c.requires.sound
