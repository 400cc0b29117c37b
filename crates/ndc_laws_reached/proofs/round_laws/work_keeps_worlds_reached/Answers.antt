use Rattle.ndc_laws_reached.proofs.LineLemmas.{work_kept}
use Rattle.ndc_laws_reached.proofs.round_laws.work_keeps_worlds_reached.Goals as goal

pub returns : goal.returns
returns c = work_kept
