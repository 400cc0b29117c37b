use Rattle.std.proofs.Common.{◌≡◌, ◌++◌, drop}
use Rattle.std.specs.List.{flat_map}
use Rattle.ndc_explain_picture.specs.Picture.{head_text}
use Rattle.ndc_explain_picture.proofs.picture.push_heads.Given as goal

-- the text so far, with what is left, is the whole
abbrev pub invariant-loop-head : goal.invariant-loop-head
invariant-loop-head l = l.text.items ++ flat_map (head_text l.clusters) (drop l.head-index l.heads) ≡ l.initial.text.items ++ flat_map (head_text l.clusters) l.heads
