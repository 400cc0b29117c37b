use Rattle.std.proofs.Common.{◌≡◌, map, drop}
use Rattle.std.specs.List.{list_all}
use Rattle.ndc_script_words.specs.Text.{is_short}
use Rattle.ndc_script_words.proofs.text.are_short.Given as goal

-- all are short exactly where the rest are
abbrev pub invariant-loop-word : goal.invariant-loop-word
invariant-loop-word l = list_all is_short (map (λ word. word.now) (drop l.word-index l.words)) ≡ list_all is_short (map (λ word. word.now) l.words)
