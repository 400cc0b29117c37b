-- A line of a transcript: its first word, which tells what it is, and the text after it.
use Rattle.std.specs.Prelude.{ℕ, suc, ◌==◌, drop, Option, None, Some, List, [], ◌∷◌, codes, if◌then◌else◌}
use Rattle.std.specs.Str.{bytes_eq}
use Rattle.ndc_cases.specs.declared.line.Mark.{Mark}
use Rattle.ndc_cases.specs.declared.line.Mark.TheVariants as mark

-- the length of the first word
abbrev pub mark_len : List ℕ → ℕ
mark_len [] = 0
mark_len (byte ∷ bytes) = if byte == 32 then 0 else suc (mark_len bytes)

-- the text after the first space
abbrev pub text_of : List ℕ → List ℕ
text_of line = drop 1 (drop (mark_len line) line)

-- what a line with this first word gives
unfoldable pub mark_of : List ℕ → Option Mark
mark_of word =
    if bytes_eq word (codes "#") then Some mark.Comment
    else if bytes_eq word (codes "==") then Some mark.Name
    else if bytes_eq word (codes "$") then Some mark.Words
    else if bytes_eq word (codes ">") then Some mark.Input
    else if bytes_eq word (codes ">-") then Some mark.LastInput
    else if bytes_eq word (codes ">x") then Some mark.HexInput
    else if bytes_eq word (codes ">*") then Some mark.ManyInput
    else if bytes_eq word (codes "<") then Some mark.Output
    else if bytes_eq word (codes "<-") then Some mark.LastOutput
    else if bytes_eq word (codes "!") then Some mark.Told
    else if bytes_eq word (codes "?") then Some mark.Status
    else None
