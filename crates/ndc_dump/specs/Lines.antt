-- The lines of a text, each with its line end.
use Rattle.std.specs.Prelude.{ℕ, suc, ◌+◌, ◌==◌, List, [], ◌∷◌, Option, Some, None, if◌then◌else◌}
use Rattle.std.specs.Str.{bytes_eq}

-- a byte before the first line
abbrev pub onto_line : ℕ → List (List ℕ) → List (List ℕ)
onto_line byte [] = (byte ∷ []) ∷ []
onto_line byte (line ∷ lines) = (byte ∷ line) ∷ lines

-- the lines of a text: each ends with its line end, but for the last one, which may lack it
abbrev pub lines_of : List ℕ → List (List ℕ)
lines_of [] = []
lines_of (byte ∷ bytes) = if byte == 10 then (byte ∷ []) ∷ lines_of bytes else onto_line byte (lines_of bytes)

-- the length of the first line, its line end included
abbrev pub line_len : List ℕ → ℕ
line_len [] = 0
line_len (byte ∷ bytes) = if byte == 10 then 1 else suc (line_len bytes)

-- a line without its line end
abbrev pub without_end : List ℕ → List ℕ
without_end [] = []
without_end (byte ∷ bytes) = if byte == 10 then [] else byte ∷ without_end bytes

-- the number of the first line that differs, is missing, or is one too many, where the lines have numbers from this one on
abbrev pub differ_at : ℕ → List (List ℕ) → List (List ℕ) → Option ℕ
differ_at number [] [] = None
differ_at number [] (line ∷ wanted) = Some number
differ_at number (line ∷ lines) [] = Some number
differ_at number (line ∷ lines) (other ∷ wanted) = if bytes_eq line other then differ_at (number + 1) lines wanted else Some number
