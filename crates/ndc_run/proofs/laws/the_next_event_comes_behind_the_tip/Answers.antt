use Rattle.ndc_run.proofs.FactLemmas.{next_behind}
use Rattle.ndc_run.proofs.laws.the_next_event_comes_behind_the_tip.Goals as goal

pub returns : goal.returns
returns c = next_behind
