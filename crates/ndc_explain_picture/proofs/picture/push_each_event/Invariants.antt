use Rattle.std.proofs.Common.{◌≡◌, ◌++◌, drop, map}
use Rattle.std.specs.List.{flat_map}
use Rattle.ndc_explain_picture.specs.Picture.{event_line}
use Rattle.ndc_explain_picture.proofs.picture.push_each_event.Given as goal

-- the text so far, with what is left, is the whole
abbrev pub invariant-loop-event : goal.invariant-loop-event
invariant-loop-event l = l.text.items ++ flat_map (event_line l.left) (map (λ event. event.now) (drop l.event-index l.events)) ≡ l.initial.text.items ++ flat_map (event_line l.left) (map (λ event. event.now) l.events)
