use Rattle.std.proofs.Common.{◌≡◌, drop}
use Rattle.ndc_history.specs.History.{rise_from}
use Rattle.ndc_node_messages.proofs.message.rise_from.Given as goal

abbrev pub invariant-loop-item : goal.invariant-loop-item
invariant-loop-item l = rise_from l.last (drop l.item-index l.items) ≡ rise_from l.fn.last l.items
