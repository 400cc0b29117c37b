use Rattle.ndc_node_lanes.proofs.DoneLemmas.{passes_learned, passes_none_held, passes_none_told}
use Rattle.ndc_node_lanes.proofs.laws.done_passes_only_what_is_learned.Goals as goal

pub returns-clause-held : goal.returns-clause-held
returns-clause-held c = passes_none_held

pub returns-clause-told : goal.returns-clause-told
returns-clause-told c = passes_none_told

pub returns-clause-learned : goal.returns-clause-learned
returns-clause-learned c = passes_learned
