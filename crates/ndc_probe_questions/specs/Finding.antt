-- Where a script's text asks something.
use Rattle.std.specs.Prelude.{ℕ, ◌+◌, ◌==◌, ◌&&◌, List, [], ◌∷◌, ◌++◌, if◌then◌else◌}
use Rattle.std.specs.List.{slice_split}
use Rattle.ndc_script_words.specs.Text.{KeptLine, kept_from, text_lines}

-- what a line asks: nothing, where it does not begin with `#?`; else the words after that, read as those of a line of a script
abbrev pub asked_on : ℕ → List ℕ → List KeptLine
asked_on number (first ∷ second ∷ words) = if (first == 35) && (second == 63) then kept_from number (text_lines words) else []
asked_on number _ = []

-- what lines ask that are numbered from here
abbrev pub asked_from : ℕ → List (List ℕ) → List KeptLine
asked_from number [] = []
asked_from number (line ∷ lines) = asked_on number line ++ asked_from (number + 1) lines

-- the questions in a text, each with the number of its line
abbrev pub questions_in : List ℕ → List KeptLine
questions_in bytes = asked_from 1 (slice_split (λ byte. byte == 10) bytes)
