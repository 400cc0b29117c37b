-- A script's bytes, cut into lines and words.
use Rattle.std.specs.Prelude.{ℕ, suc, ◌+◌, Bool, true, false, ◌&&◌, ◌==◌, not, nat_le, Option, None, Some, List, [], ◌∷◌, length, filter, if◌then◌else◌}
use Rattle.std.specs.List.{list_all, onto_first, slice_split, cons_option}
use Rattle.ndc_script_words.specs.declared.text.Reading.{Reading}
use Rattle.ndc_script_words.specs.declared.text.Reading.TheVariants.{Readable, Unreadable, PastLimit}

-- the lines: cut after each 0x0a; a last line without it counts, and an empty rest is none
abbrev pub text_lines : List ℕ → List (List ℕ)
text_lines [] = []
text_lines (byte ∷ bytes) = if byte == 10 then [] ∷ text_lines bytes else onto_first byte (text_lines bytes)

-- the length of the first line
abbrev pub line_len : List ℕ → ℕ
line_len [] = 0
line_len (byte ∷ bytes) = if byte == 10 then 0 else suc (line_len bytes)

-- the words of a line: what stands between spaces
abbrev pub words_of : List ℕ → List (List ℕ)
words_of line = filter (λ word. not (length word == 0)) (slice_split (λ byte. byte == 32) line)

-- a line may have this byte: from the space to `~`
abbrev pub is_line_byte : ℕ → Bool
is_line_byte byte = nat_le 32 byte && nat_le byte 126

-- a word may be so long
abbrev pub is_short : List ℕ → Bool
is_short word = nat_le (length word) 200

-- the word begins with `#`
abbrev pub is_comment : List ℕ → Bool
is_comment [] = false
is_comment (byte ∷ bytes) = byte == 35

-- a line of these words is skipped: there are none, or the first begins a comment
abbrev pub is_skipped : List (List ℕ) → Bool
is_skipped [] = true
is_skipped (word ∷ words) = is_comment word

-- a line that is not skipped: its number, whether it can be read, and its words
pub record KeptLine : Type 0 where
  pub number : ℕ
  pub reading : Reading
  pub words : List (List ℕ)

-- how the words of a line of allowed bytes can be read
abbrev pub reading_of : List (List ℕ) → Reading
reading_of words = if list_all is_short words then Readable else Unreadable

-- what is kept of one line, nothing where it is skipped. Bytes are tested before a line is skipped.
abbrev pub kept_line : ℕ → List ℕ → Option KeptLine
kept_line number line =
    if not (list_all is_line_byte line) then Some (record { number = number; reading = Unreadable; words = words_of line })
    else if is_skipped (words_of line) then None
    else Some (record { number = number; reading = reading_of (words_of line); words = words_of line })

-- what is kept of lines that are numbered from here; of a line past the limit of 100,000 nothing but that it is there
abbrev pub kept_from : ℕ → List (List ℕ) → List KeptLine
kept_from number [] = []
kept_from number (line ∷ lines) =
    if nat_le number 100000 then cons_option (kept_line number line) (kept_from (number + 1) lines)
    else record { number = number; reading = PastLimit; words = [] } ∷ []

-- the lines of a text that are not skipped
abbrev pub kept_of : List ℕ → List KeptLine
kept_of bytes = kept_from 1 (text_lines bytes)

-- the number of the line after those of a text whose first line has this number
abbrev pub line_behind : ℕ → List ℕ → ℕ
line_behind first bytes = first + length (text_lines bytes)

-- the number of the line after the last
abbrev pub line_after : List ℕ → ℕ
line_after bytes = length (text_lines bytes) + 1
