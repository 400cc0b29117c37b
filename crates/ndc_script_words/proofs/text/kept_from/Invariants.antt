use Rattle.std.proofs.Common.{◌≡◌, ◌++◌, length}
use Rattle.ndc_script_words.specs.Text.{text_lines, kept_from}
use Rattle.ndc_script_words.proofs.text.kept_from.Given as goal

-- what was kept so far, with what is kept of the rest, is what is kept of the text
abbrev pub invariant-loop-line : goal.invariant-loop-line
invariant-loop-line l = l.kept.items ++ kept_from l.number (text_lines l.rest) ≡ kept_from l.first (text_lines l.bytes)

abbrev pub decreases-loop-line : goal.decreases-loop-line
decreases-loop-line l = length l.rest
