use Rattle.std.proofs.Common.{◌≡◌, ◌++◌, drop, map}
use Rattle.ndc_text.specs.Views.{further}
use Rattle.ndc_world_answers.proofs.membership.push_further.Given as goal

-- the text so far, with what is left, is the whole
abbrev pub invariant-loop-name : goal.invariant-loop-name
invariant-loop-name l = l.text.items ++ further (map (λ name. name.now) (drop l.name-index l.names)) ≡ l.initial.text.items ++ further (map (λ name. name.now) l.names)
