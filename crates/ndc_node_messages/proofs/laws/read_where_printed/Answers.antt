use Rattle.std.proofs.Common.{ap, ◌∙◌}
use Rattle.ndc_node_messages.specs.Read.{message_at}
use Rattle.ndc_node_messages.proofs.MessageLaws.{message_again, message_only}
use Rattle.ndc_node_messages.proofs.laws.read_where_printed.Goals as goal

pub returns : goal.returns
returns c message bytes = (message_only bytes message, λ h. ap message_at h.1 ∙ message_again message h.0)
