use Rattle.std.proofs.Common.{◌≡◌, ◌++◌, drop}
use Rattle.std.specs.List.{flat_map}
use Rattle.ndc_explain_picture.specs.Graph.{copy_text}
use Rattle.ndc_explain_picture.proofs.graph.push_copies.Given as goal

-- the text so far, with what is left, is the whole
abbrev pub invariant-loop-origin : goal.invariant-loop-origin
invariant-loop-origin l = l.text.items ++ flat_map copy_text (drop l.origin-index l.origins) ≡ l.initial.text.items ++ flat_map copy_text l.origins
