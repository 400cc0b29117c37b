use Rattle.ndc_node_lanes.proofs.DoneLemmas.{held_heard, held_learned, told_heard}
use Rattle.ndc_node_lanes.proofs.laws.what_is_told_is_held_until_it_is_learned.Goals as goal

pub returns-clause-told : goal.returns-clause-told
returns-clause-told c = told_heard

pub returns-clause-heard : goal.returns-clause-heard
returns-clause-heard c = held_heard

pub returns-clause-learned : goal.returns-clause-learned
returns-clause-learned c = held_learned
