use Rattle.ndc_laws_reached.proofs.LaneLaws.{pulled_kept, pulled_some_kept}
use Rattle.ndc_laws_reached.proofs.lane_laws.pulls_keep_worlds_reached.Goals as goal

pub returns-clause-all : goal.returns-clause-all
returns-clause-all c = pulled_kept

pub returns-clause-some : goal.returns-clause-some
returns-clause-some c = pulled_some_kept
