use Rattle.ndc_node_messages.proofs.MessageLaws.{message_plain}
use Rattle.ndc_node_messages.proofs.laws.messages_fit_in_frames.Goals as goal

pub returns : goal.returns
returns c = message_plain
