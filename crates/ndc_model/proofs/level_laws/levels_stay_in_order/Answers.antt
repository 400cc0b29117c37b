use Rattle.ndc_model.proofs.LevelLemmas.{pull_keeps, renewal_keeps}
use Rattle.ndc_model.proofs.level_laws.levels_stay_in_order.Goals as goal

-- src/level_laws.rt:10:1
pub returns-clause-pull : goal.returns-clause-pull
returns-clause-pull c = pull_keeps

-- src/level_laws.rt:10:1
pub returns-clause-renewal : goal.returns-clause-renewal
returns-clause-renewal c = renewal_keeps
