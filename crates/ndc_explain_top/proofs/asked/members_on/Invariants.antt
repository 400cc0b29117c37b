use Rattle.std.proofs.Common.{◌≡◌, drop, map}
use Rattle.ndc_explain_top.specs.Asked.{behind, members_on}
use Rattle.ndc_explain_top.proofs.asked.members_on.Given as goal

abbrev pub invariant-loop-word : goal.invariant-loop-word
invariant-loop-word l = behind l.members.items (members_on (map (λ word. word.now) (drop l.word-index l.words))) ≡ members_on (map (λ word. word.now) l.words)
