-- Comments, which stand beside the answers of a script's lines.
use Rattle.std.specs.Prelude.{◌≡◌, ℕ, ◌==◌, Bool, true, false, List, [], ◌∷◌, ◌++◌, codes, take}
use Rattle.std.specs.List.{list_all}
use Rattle.std.specs.Str.{bytes_eq}
use Rattle.ndc_script_words.specs.Text.{text_lines}

-- a text as comments: each of its lines after `# `, and the last one ended; whether a line begins with the first byte
abbrev pub commented_from : Bool → List ℕ → List ℕ
commented_from true [] = []
commented_from false [] = codes "\n"
commented_from true (byte ∷ bytes) = codes "# " ++ byte ∷ commented_from (byte == 10) bytes
commented_from false (byte ∷ bytes) = byte ∷ commented_from (byte == 10) bytes

abbrev pub commented : List ℕ → List ℕ
commented text = commented_from true text

-- the line begins with `# `
abbrev pub is_comment_line : List ℕ → Bool
is_comment_line line = bytes_eq (take 2 line) (codes "# ")

-- whether a text is empty or ends with the end of a line
abbrev pub is_ended : List ℕ → Bool
is_ended [] = true
is_ended (byte ∷ []) = byte == 10
is_ended (byte ∷ next ∷ bytes) = is_ended (next ∷ bytes)

-- a text is comments alone: each of its lines begins with `# `, and the last one is ended
pub record AreComments (text : List ℕ) : Type 0 where
  pub lines : list_all is_comment_line (text_lines text) ≡ true
  pub ended : is_ended text ≡ true
