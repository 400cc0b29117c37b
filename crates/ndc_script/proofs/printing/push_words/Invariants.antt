use Rattle.std.proofs.Common.{◌≡◌, ◌++◌, map, drop}
use Rattle.ndc_script_types.specs.Print.{behind_spaces}
use Rattle.ndc_script.proofs.printing.push_words.Given as goal

-- the text so far, with the words that are left, is the whole
abbrev pub invariant-loop-word : goal.invariant-loop-word
invariant-loop-word l =
    l.text.items ++ behind_spaces (map (λ word. word.now) (drop l.word-index l.words))
    ≡ l.fn.text.items ++ behind_spaces (map (λ word. word.now) l.words)
