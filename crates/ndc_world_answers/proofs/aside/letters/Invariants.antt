use Rattle.std.proofs.Common.{◌≡◌, ◌++◌, drop}
use Rattle.std.specs.List.{flat_map}
use Rattle.ndc_model.specs.Letters.{letter_line, letters_answer}
use Rattle.ndc_world_answers.proofs.aside.letters.Given as goal

-- the text so far, with what is left, is the whole
abbrev pub invariant-loop-letter : goal.invariant-loop-letter
invariant-loop-letter l = l.text.items ++ flat_map (letter_line l.header) (drop l.letter-index l.letters) ≡ letters_answer l.header l.letters
