use Rattle.ndc_shard_entries.proofs.LawProofs.{sent-message, sent-new}
use Rattle.ndc_shard_entries.proofs.laws.what_is_written_is_a_new_message.Goals as goal

pub returns-clause-message : goal.returns-clause-message
returns-clause-message c = sent-message

pub returns-clause-fresh : goal.returns-clause-fresh
returns-clause-fresh c = sent-new
