use Rattle.std.proofs.Common.{◌≡◌, ◌++◌, drop, map}
use Rattle.std.specs.List.{flat_map}
use Rattle.ndc_explain_picture.specs.Graph.{kind_word}
use Rattle.ndc_explain_picture.proofs.graph.push_kinds.Given as goal

-- the text so far, with what is left, is the whole
abbrev pub invariant-loop-kind : goal.invariant-loop-kind
invariant-loop-kind l = l.text.items ++ flat_map kind_word (map (λ kind. kind.now) (drop l.kind-index l.kinds)) ≡ l.initial.text.items ++ flat_map kind_word (map (λ kind. kind.now) l.kinds)
