use Rattle.std.proofs.Common.{◌≡◌, ◌++◌, map, drop}
use Rattle.ndc_text.specs.Views.{further, item_text}
use Rattle.ndc_text.proofs.line.push_further.Given as goal

abbrev pub invariant-loop-item : goal.invariant-loop-item
invariant-loop-item l = l.text.items ++ further (map item_text (drop l.item-index l.items)) ≡ l.initial.text.items ++ further (map item_text l.items)
