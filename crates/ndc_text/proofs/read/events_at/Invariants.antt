use Rattle.std.proofs.Common.{◌≡◌, drop}
use Rattle.serde_json.specs.View.{items_view}
use Rattle.ndc_text.specs.Walk.{events_at}
use Rattle.ndc_text.proofs.Lists.{with_front}
use Rattle.ndc_text.proofs.read.events_at.Given as goal

-- the events so far, before those of the rest, are those of all
abbrev pub invariant-loop-value : goal.invariant-loop-value
invariant-loop-value l = with_front l.list.items (events_at (items_view (drop l.value-index l.values))) ≡ events_at (items_view l.values)
