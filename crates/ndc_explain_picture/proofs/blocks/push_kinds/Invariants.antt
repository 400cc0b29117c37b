use Rattle.std.proofs.Common.{◌≡◌, ◌++◌, drop, map}
use Rattle.ndc_explain_picture.specs.Blocks.{kinds_in}
use Rattle.ndc_explain_picture.proofs.blocks.push_kinds.Given as goal

-- the kinds so far, with those of the other events, are all
abbrev pub invariant-loop-event : goal.invariant-loop-event
invariant-loop-event l = map (λ kind. kind.now) l.kinds.items ++ kinds_in (drop l.event-index l.events) ≡ map (λ kind. kind.now) l.initial.kinds.items ++ kinds_in l.events
