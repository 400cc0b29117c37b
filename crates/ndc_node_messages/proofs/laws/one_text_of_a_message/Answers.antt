use Rattle.std.proofs.Common.{sym, ◌∙◌}
use Rattle.ndc_node_messages.proofs.MessageLaws.{message_only}
use Rattle.ndc_node_messages.proofs.laws.one_text_of_a_message.Goals as goal

pub returns : goal.returns
returns c message bytes more h k = (message_only bytes message h).1 ∙ sym (message_only more message k).1
