use Rattle.std.proofs.Common.{◌≡◌, ◌++◌, ◌∷◌, [], decimal, drop, length}
use Rattle.std.specs.List.{flat_map}
use Rattle.ndc_model.specs.Texts.{ok}
use Rattle.ndc_world_answers.specs.Gaps.{gap_text}
use Rattle.ndc_world_answers.proofs.queues.gaps.Given as goal

-- the text so far, with what is left, is the whole
abbrev pub invariant-loop-gap : goal.invariant-loop-gap
invariant-loop-gap l = l.text.items ++ flat_map gap_text (drop l.gap-index l.gaps) ≡ ok (decimal (length l.gaps) ∷ []) ++ flat_map gap_text l.gaps
