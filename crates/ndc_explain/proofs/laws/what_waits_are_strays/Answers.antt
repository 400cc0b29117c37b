use Rattle.ndc_explain.proofs.WaitingLaws.{waits_where_stray}
use Rattle.ndc_explain.proofs.laws.what_waits_are_strays.Goals as goal

pub returns : goal.returns
returns c = λ batches sound origin. waits_where_stray origin batches sound
