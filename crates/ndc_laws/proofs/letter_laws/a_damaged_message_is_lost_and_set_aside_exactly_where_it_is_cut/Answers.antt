use Rattle.ndc_laws.proofs.DamageLemmas.{cut-aside, whole-stays}
use Rattle.ndc_laws.proofs.letter_laws.a_damaged_message_is_lost_and_set_aside_exactly_where_it_is_cut.Goals as goal

pub returns-clause-aside : goal.returns-clause-aside
returns-clause-aside c = λ header lines w reader source shard place cut sent is two below at less. cut-aside header lines w is reader source two shard below place sent at cut less

pub returns-clause-whole : goal.returns-clause-whole
returns-clause-whole c = λ header lines w reader source shard place cut sent is two below at most. whole-stays header lines w is reader source two shard below place sent at cut most
