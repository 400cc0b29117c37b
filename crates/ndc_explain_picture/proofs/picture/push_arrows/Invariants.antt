use Rattle.std.proofs.Common.{◌≡◌, ◌++◌, None, drop}
use Rattle.std.specs.Option.{option_copied}
use Rattle.ndc_explain_picture.specs.Picture.{arrows_behind}
use Rattle.ndc_explain_picture.proofs.picture.push_arrows.Given as goal

-- the text so far, with what is left, is the whole
abbrev pub invariant-loop-origin : goal.invariant-loop-origin
invariant-loop-origin l = l.text.items ++ arrows_behind (option_copied l.last) l.places l.to (drop l.origin-index l.origins) ≡ l.initial.text.items ++ arrows_behind None l.places l.to l.origins
