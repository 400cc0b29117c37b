use Rattle.std.proofs.Common.{◌≡◌, ◌+◌, ◌≤◌, length}
use Rattle.ndc_script_words.specs.Text.{text_lines}
use Rattle.ndc_script_words.proofs.text.line_count.Given as goal

-- the lines so far and those of the rest are those of the text
abbrev pub invariant-loop-after : goal.invariant-loop-after
invariant-loop-after l = record {
  count : l.count + length (text_lines l.rest) ≡ length (text_lines l.bytes);
  room : l.count + length l.rest ≤ length l.bytes;
}

abbrev pub decreases-loop-after : goal.decreases-loop-after
decreases-loop-after l = length l.rest
