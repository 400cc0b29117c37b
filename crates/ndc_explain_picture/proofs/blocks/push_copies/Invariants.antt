use Rattle.std.proofs.Common.{◌≡◌, ◌++◌, drop}
use Rattle.ndc_explain_picture.specs.Blocks.{copies_in}
use Rattle.ndc_explain_picture.proofs.blocks.push_copies.Given as goal

-- the origins so far, with those of the other events, are all
abbrev pub invariant-loop-event : goal.invariant-loop-event
invariant-loop-event l = l.copies.items ++ copies_in (drop l.event-index l.events) ≡ l.initial.copies.items ++ copies_in l.events
