-- A text that is made comments is comments alone.
use Rattle.std.proofs.Common.{◌≡◌, ℕ, ◌==◌, Bool, true, false, List, [], ◌∷◌, refl, sym, subst, if◌then◌else◌}
use Rattle.std.specs.List.{list_all, onto_first}
use Rattle.ndc_script_words.specs.Text.{text_lines}
use Rattle.ndc_probe.specs.Comments.{AreComments, commented, commented_from, is_comment_line, is_ended}

-- a line that goes on, and comments after it
record GoesOn (lines : List (List ℕ)) : Type 0 where
  line : List ℕ
  others : List (List ℕ)
  is : lines ≡ line ∷ others
  all : list_all is_comment_line others ≡ true

-- what holds of the lines of comments, where a line begins with their first byte and where one goes on
abbrev Follow : Bool → List (List ℕ) → Type 0
Follow true lines = list_all is_comment_line lines ≡ true
Follow false lines = GoesOn lines

first-byte : (byte : ℕ) (rest : List ℕ) (ends : Bool) → (byte == 10) ≡ ends → Follow ends (text_lines rest) → list_all is_comment_line (text_lines (35 ∷ 32 ∷ byte ∷ rest)) ≡ true
first-byte byte rest true is follow =
    subst (λ (b : Bool). list_all is_comment_line (onto_first 35 (onto_first 32 (if b then [] ∷ text_lines rest else onto_first byte (text_lines rest)))) ≡ true) (sym is) follow
first-byte byte rest false is follow =
    subst (λ (b : Bool). list_all is_comment_line (onto_first 35 (onto_first 32 (if b then [] ∷ text_lines rest else onto_first byte (text_lines rest)))) ≡ true) (sym is)
    (subst (λ (ls : List (List ℕ)). list_all is_comment_line (onto_first 35 (onto_first 32 (onto_first byte ls))) ≡ true) (sym follow.is) follow.all)

next-byte : (byte : ℕ) (rest : List ℕ) (ends : Bool) → (byte == 10) ≡ ends → Follow ends (text_lines rest) → GoesOn (text_lines (byte ∷ rest))
next-byte byte rest true is follow =
    subst (λ (b : Bool). GoesOn (if b then [] ∷ text_lines rest else onto_first byte (text_lines rest))) (sym is) (record { line = []; others = text_lines rest; is = refl; all = follow })
next-byte byte rest false is follow =
    subst (λ (b : Bool). GoesOn (if b then [] ∷ text_lines rest else onto_first byte (text_lines rest))) (sym is)
    (subst (λ (ls : List (List ℕ)). GoesOn (onto_first byte ls)) (sym follow.is) (record { line = byte ∷ follow.line; others = follow.others; is = refl; all = follow.all }))

followed : (begins : Bool) (bytes : List ℕ) → Follow begins (text_lines (commented_from begins bytes))
followed true [] = refl
followed false [] = record { line = []; others = []; is = refl; all = refl }
followed true (byte ∷ bytes) = first-byte byte (commented_from (byte == 10) bytes) (byte == 10) refl (followed (byte == 10) bytes)
followed false (byte ∷ bytes) = next-byte byte (commented_from (byte == 10) bytes) (byte == 10) refl (followed (byte == 10) bytes)

-- a byte before a text that is ended
behind-byte : (byte : ℕ) (rest : List ℕ) → is_ended rest ≡ true → (rest ≡ [] → (byte == 10) ≡ true) → is_ended (byte ∷ rest) ≡ true
behind-byte byte [] ended last = last refl
behind-byte byte (next ∷ rest) ended last = ended

begins-where-none : (begins : Bool) (bytes : List ℕ) → commented_from begins bytes ≡ [] → begins ≡ true
begins-where-none true bytes none = refl
begins-where-none false [] none = absurd (cc)
begins-where-none false (byte ∷ bytes) none = absurd (cc)

ended-at-last : (begins : Bool) (bytes : List ℕ) → is_ended (commented_from begins bytes) ≡ true
ended-at-last true [] = refl
ended-at-last false [] = refl
ended-at-last true (byte ∷ bytes) = behind-byte byte (commented_from (byte == 10) bytes) (ended-at-last (byte == 10) bytes) (begins-where-none (byte == 10) bytes)
ended-at-last false (byte ∷ bytes) = behind-byte byte (commented_from (byte == 10) bytes) (ended-at-last (byte == 10) bytes) (begins-where-none (byte == 10) bytes)

pub are_comments : (text : List ℕ) → AreComments (commented text)
are_comments text = record { lines = followed true text; ended = ended-at-last true text }
