use Rattle.ndc_node_messages.proofs.MessageLaws.{one_message}
use Rattle.ndc_node_messages.proofs.laws.one_message_of_a_text.Goals as goal

pub returns : goal.returns
returns c = one_message
