use Rattle.std.proofs.Common.{◌≡◌, ◌≤◌, refl, rules, length, List, ℕ}
use Rattle.ndc_script_words.specs.Text.{line_len}
use Rattle.ndc_script_words.proofs.Cuts.{text_lines-last, text_lines-first, line_len_within}
use Rattle.ndc_script_words.proofs.text.split_line.Goals as goal

pub split_at-requires : goal.split_at-requires
split_at-requires c = rw c.line_len.ensures (line_len_within c.args.bytes.now)

-- the line ends within the text
within : (n : ℕ) (bytes : List ℕ) → n ≡ line_len bytes → n ≤ length bytes
within n bytes e = rw e (line_len_within bytes)

pub returns-in-empty-clause-some : goal.returns-in-empty-clause-some
returns-in-empty-clause-some c =
    text_lines-last c.args.bytes.now _ _ (search rules)
    (rw (c.split_at.ensures.front, c.line_len.ensures) refl) (rw (c.split_at.ensures.back, c.line_len.ensures) refl) c.in-empty.len_below

pub returns-in-len1-up-clause-some : goal.returns-in-len1-up-clause-some
returns-in-len1-up-clause-some c =
    text_lines-first c.args.bytes.now c.split_at.result.0.now c.split_at.result.1.now (search rules)
    (rw (c.split_at.ensures.front, c.line_len.ensures) refl) (rw (c.split_at.ensures.back, c.line_len.ensures) refl)
