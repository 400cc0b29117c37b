-- Printed words are cut apart again.
use Rattle.std.proofs.Common.{◌≡◌, ℕ, ◌≤◌, true, false, ◌&&◌, ◌==◌, not, List, [], ◌∷◌, ◌++◌, length, filter, nat_le, All, refl, ap, ◌∙◌, arith, eqb-true}
use Rattle.std.specs.List.{list_all, slice_split, onto_first, AllByRecursion as ByRecursion}
use Rattle.std.proofs.lemmas.Bool.{leb-true, le-leb, and_parts, and_from}
use Rattle.std.proofs.lemmas.List.{append-nil}
use Rattle.std.proofs.lemmas.List.Elements.{All-from_recursion}
use Rattle.std.proofs.lemmas.List.Folds.{list_all-append}
use Rattle.std.proofs.lemmas.List.Splits.{slice_split_none, slice_split_at}
use Rattle.ndc_domain.proofs.Writers.{not_true}
use Rattle.ndc_event.specs.Name.{is_name, is_name_byte}
use Rattle.ndc_script_words.specs.Text.{words_of, is_line_byte, text_lines}
use Rattle.ndc_script_types.specs.Print.{spaced}

-- the three parts of a name
pub name_parts : (word : List ℕ) → is_name word ≡ true → (1 ≤ length word) × (length word ≤ 200) × (list_all is_name_byte word ≡ true)
name_parts word h =
    let p : ((nat_le 1 (length word) && nat_le (length word) 200) ≡ true) × (list_all is_name_byte word ≡ true) = and_parts (nat_le 1 (length word) && nat_le (length word) 200) (list_all is_name_byte word) h in
    let q : (nat_le 1 (length word) ≡ true) × (nat_le (length word) 200 ≡ true) = and_parts (nat_le 1 (length word)) (nat_le (length word) 200) p.0 in
    (leb-true 1 (length word) q.0, leb-true (length word) 200 q.1, p.1)

-- a number that is not the other one
pub differs : (a b : ℕ) → (a ≡ b → ⊥) → (a == b) ≡ false
differs a b ne = not_true (a == b) (λ e. ne (eqb-true a b e))

-- no byte of a name is a space
no_space : (word : List ℕ) → list_all is_name_byte word ≡ true → ByRecursion (λ b. (b == 32) ≡ false) word
no_space [] h = tt
no_space (b ∷ bs) h =
    let p : (is_name_byte b ≡ true) × (list_all is_name_byte bs ≡ true) = and_parts (is_name_byte b) (list_all is_name_byte bs) h in
    let low : 33 ≤ b = leb-true 33 b ((and_parts (nat_le 33 b) (nat_le b 126) p.0).0) in
    (differs b 32 (λ e. omega (arith, low, e)), no_space bs p.1)

-- words that are names
abbrev pub AreNames : List (List ℕ) → Type 0
AreNames words = list_all is_name words ≡ true

-- no part of a name that is kept is empty
not_empty : (word : List ℕ) → is_name word ≡ true → not (length word == 0) ≡ true
not_empty word h = rw (differs (length word) 0 (λ e. omega (arith, e, (name_parts word h).0))) refl

kept_first : (word : List ℕ) (words : List (List ℕ)) → is_name word ≡ true → filter (λ w. not (length w == 0)) (word ∷ words) ≡ word ∷ filter (λ w. not (length w == 0)) words
kept_first word words h = rw (not_empty word h) refl

-- one word stands alone
spaced_one : (word : List ℕ) → spaced (word ∷ []) ≡ word
spaced_one word = append-nil word

-- the words are found between their spaces
pub words_of-spaced : (words : List (List ℕ)) → AreNames words → words_of (spaced words) ≡ words
words_of-spaced [] h = refl
words_of-spaced (word ∷ []) h =
    let name : is_name word ≡ true = (and_parts (is_name word) (list_all is_name []) h).0 in
    let plain : All (λ b. (b == 32) ≡ false) word = All-from_recursion (λ (b : ℕ). (b == 32) ≡ false) word (no_space word ((name_parts word name).2)) in
    ap words_of (spaced_one word) ∙ ap (filter (λ w. not (length w == 0))) (slice_split_none (λ b. b == 32) word plain) ∙ kept_first word [] name
words_of-spaced (word ∷ next ∷ words) h =
    let p : (is_name word ≡ true) × AreNames (next ∷ words) = and_parts (is_name word) (list_all is_name (next ∷ words)) h in
    let plain : All (λ b. (b == 32) ≡ false) word = All-from_recursion (λ (b : ℕ). (b == 32) ≡ false) word (no_space word ((name_parts word p.0).2)) in
    ap (filter (λ w. not (length w == 0))) (slice_split_at (λ b. b == 32) word 32 (spaced (next ∷ words)) plain refl)
    ∙ kept_first word (slice_split (λ b. b == 32) (spaced (next ∷ words))) p.0
    ∙ ap (λ (ws : List (List ℕ)). word ∷ ws) (words_of-spaced (next ∷ words) p.1)

-- a name has bytes that a line may have
line_bytes : (word : List ℕ) → list_all is_name_byte word ≡ true → list_all is_line_byte word ≡ true
line_bytes [] h = refl
line_bytes (b ∷ bs) h =
    let p : (is_name_byte b ≡ true) × (list_all is_name_byte bs ≡ true) = and_parts (is_name_byte b) (list_all is_name_byte bs) h in
    let q : (nat_le 33 b ≡ true) × (nat_le b 126 ≡ true) = and_parts (nat_le 33 b) (nat_le b 126) p.0 in
    let low : 32 ≤ b = omega (arith, leb-true 33 b q.0) in
    and_from (is_line_byte b) (list_all is_line_byte bs) (and_from (nat_le 32 b) (nat_le b 126) (le-leb 32 b low) q.1) (line_bytes bs p.1)

-- so have words with spaces between them
pub line_bytes-spaced : (words : List (List ℕ)) → AreNames words → list_all is_line_byte (spaced words) ≡ true
line_bytes-spaced [] h = refl
line_bytes-spaced (word ∷ []) h =
    ap (list_all is_line_byte) (spaced_one word) ∙ line_bytes word ((name_parts word ((and_parts (is_name word) (list_all is_name []) h).0)).2)
line_bytes-spaced (word ∷ next ∷ words) h =
    let p : (is_name word ≡ true) × AreNames (next ∷ words) = and_parts (is_name word) (list_all is_name (next ∷ words)) h in
    list_all-append is_line_byte word (32 ∷ spaced (next ∷ words))
    ∙ and_from (list_all is_line_byte word) (list_all is_line_byte (spaced (next ∷ words)))
    (line_bytes word ((name_parts word p.0).2)) (line_bytes-spaced (next ∷ words) p.1)

-- a line without a newline is the first of what stands before one
pub text_lines-line : (line rest : List ℕ) → list_all is_line_byte line ≡ true → text_lines (line ++ 10 ∷ rest) ≡ line ∷ text_lines rest
text_lines-line [] rest h = refl
text_lines-line (b ∷ bs) rest h =
    let p : (is_line_byte b ≡ true) × (list_all is_line_byte bs ≡ true) = and_parts (is_line_byte b) (list_all is_line_byte bs) h in
    let low : 32 ≤ b = leb-true 32 b ((and_parts (nat_le 32 b) (nat_le b 126) p.0).0) in
    rw (differs b 10 (λ e. omega (arith, low, e))) (ap (onto_first b) (text_lines-line bs rest p.1))
