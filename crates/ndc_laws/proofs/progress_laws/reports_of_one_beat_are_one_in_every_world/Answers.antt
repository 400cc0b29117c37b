use Rattle.ndc_laws.proofs.ReachedLemmas.{reports_agree}
use Rattle.ndc_laws.proofs.progress_laws.reports_of_one_beat_are_one_in_every_world.Goals as goal

pub returns : goal.returns
returns c = reports_agree
