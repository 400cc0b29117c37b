use Rattle.ndc_shard_waiting.proofs.LawLemmas.{freed_messages, freed_set}
use Rattle.ndc_shard_waiting.proofs.OrderedLemmas.{freed_learnable}
use Rattle.ndc_shard_waiting.proofs.laws.what_is_freed_can_be_learned_in_order.Goals as goal

pub returns-clause-messages : goal.returns-clause-messages
returns-clause-messages c = freed_messages

pub returns-clause-set : goal.returns-clause-set
returns-clause-set c = freed_set

pub returns-clause-order : goal.returns-clause-order
returns-clause-order c = freed_learnable
