use Rattle.std.proofs.Common.{◌≡◌, ◌++◌, map, drop}
use Rattle.ndc_model.specs.Texts.{spaced}
use Rattle.ndc_probe.proofs.answering.push_words.Given as goal

-- the text so far, with the words that are left, is the whole
abbrev pub invariant-loop-word : goal.invariant-loop-word
invariant-loop-word l = l.text.items ++ spaced (map (λ word. word.now) (drop l.word-index l.words)) ≡ l.initial.text.items ++ spaced (map (λ word. word.now) l.words)
