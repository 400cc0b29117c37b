-- Printed lines are kept as they are.
use Rattle.std.proofs.Common.{◌≡◌, ℕ, ◌+◌, ◌≤◌, Bool, true, false, ◌&&◌, not, List, [], ◌∷◌, length, nat_le, Option, Some, None, append_assoc, refl, ap, ◌∙◌, arith, if◌then◌else◌}
use Rattle.std.specs.List.{list_all, cons_option}
use Rattle.std.proofs.lemmas.Bool.{le-leb, and_parts, and_from}
use Rattle.ndc_event.specs.Name.{is_name}
use Rattle.ndc_script_words.specs.declared.text.Reading.TheVariants.{Readable, Unreadable, PastLimit}
use Rattle.ndc_script_words.specs.Text.{KeptLine, words_of, is_line_byte, is_short, is_comment, is_skipped, reading_of, kept_line, kept_from, text_lines}
use Rattle.ndc_script_types.specs.Print.{spaced, lines_text}
use Rattle.ndc_script.proofs.PrintedWords.{AreNames, name_parts, words_of-spaced, line_bytes-spaced, text_lines-line}
use Rattle.ndc_script.proofs.PrintedMembers.{not_false}

-- words that make a line: there are some, all are names, and the first begins no comment
abbrev pub is_line : List (List ℕ) → Bool
is_line [] = false
is_line (word ∷ words) = not (is_comment word) && list_all is_name (word ∷ words)

abbrev pub AreLines : List (List (List ℕ)) → Type 0
AreLines lines = list_all is_line lines ≡ true

-- lines that were kept, numbered from here
abbrev pub kept_numbered : ℕ → List (List (List ℕ)) → List KeptLine
kept_numbered number [] = []
kept_numbered number (words ∷ lines) = record { number = number; reading = Readable; words = words } ∷ kept_numbered (number + 1) lines

names_are_short : (words : List (List ℕ)) → AreNames words → list_all is_short words ≡ true
names_are_short [] h = refl
names_are_short (word ∷ words) h =
    let p : (is_name word ≡ true) × AreNames words = and_parts (is_name word) (list_all is_name words) h in
    and_from (is_short word) (list_all is_short words) (le-leb (length word) 200 ((name_parts word p.0).1)) (names_are_short words p.1)

-- what is kept of a line, by whether its bytes are allowed and what its words are
kept_by : ℕ → Bool → List (List ℕ) → Option KeptLine
kept_by number allowed words =
    if not allowed then Some (record { number = number; reading = Unreadable; words = words })
    else if is_skipped words then None
    else Some (record { number = number; reading = reading_of words; words = words })

kept_by-words : (number : ℕ) (word : List ℕ) (words : List (List ℕ)) → is_comment word ≡ false → list_all is_short (word ∷ words) ≡ true → kept_by number true (word ∷ words) ≡ Some (record { number = number; reading = Readable; words = word ∷ words })
unfolding kept_by
kept_by-words number word words plain short = rw (plain, short) refl

kept_line-is : (number : ℕ) (line : List ℕ) → kept_line number line ≡ kept_by number (list_all is_line_byte line) (words_of line)
unfolding kept_by
kept_line-is number line = refl

-- a printed line is kept with its words
kept_line-spaced : (number : ℕ) (words : List (List ℕ)) → is_line words ≡ true → kept_line number (spaced words) ≡ Some (record { number = number; reading = Readable; words = words })
kept_line-spaced number [] h = absurd (cc)
kept_line-spaced number (word ∷ words) h =
    let p : (not (is_comment word) ≡ true) × AreNames (word ∷ words) = and_parts (not (is_comment word)) (list_all is_name (word ∷ words)) h in
    kept_line-is number (spaced (word ∷ words))
    ∙ ap (λ (t : Bool). kept_by number t (words_of (spaced (word ∷ words)))) (line_bytes-spaced (word ∷ words) p.1)
    ∙ ap (kept_by number true) (words_of-spaced (word ∷ words) p.1)
    ∙ kept_by-words number word words (not_false (is_comment word) p.0) (names_are_short (word ∷ words) p.1)

line_names : (words : List (List ℕ)) → is_line words ≡ true → AreNames words
line_names [] h = refl
line_names (word ∷ words) h = (and_parts (not (is_comment word)) (list_all is_name (word ∷ words)) h).1

-- what is kept of a line past the limit
abbrev past : ℕ → List KeptLine
past number = record { number = number; reading = PastLimit; words = [] } ∷ []

-- of printed lines all are kept
pub kept_from-lines : (number : ℕ) (lines : List (List (List ℕ))) → AreLines lines → number + length lines ≤ 100001 → kept_from number (text_lines (lines_text lines)) ≡ kept_numbered number lines
kept_from-lines number [] h few = refl
kept_from-lines number (words ∷ lines) h few =
    let p : (is_line words ≡ true) × AreLines lines = and_parts (is_line words) (list_all is_line lines) h in
    let names : AreNames words = line_names words p.0 in
    let within : nat_le number 100000 ≡ true = le-leb number 100000 (omega (arith, few)) in
    let less : number + 1 + length lines ≤ 100001 = omega (arith, few) in
    ap (λ (text : List ℕ). kept_from number (text_lines text)) (append_assoc (spaced words) (10 ∷ []) (lines_text lines))
    ∙ ap (kept_from number) (text_lines-line (spaced words) (lines_text lines) (line_bytes-spaced words names))
    ∙ ap (λ (t : Bool). if t then cons_option (kept_line number (spaced words)) (kept_from (number + 1) (text_lines (lines_text lines))) else past number) within
    ∙ ap (λ (k : Option KeptLine). cons_option k (kept_from (number + 1) (text_lines (lines_text lines)))) (kept_line-spaced number words p.0)
    ∙ ap (λ (ks : List KeptLine). record { number = number; reading = Readable; words = words } ∷ ks) (kept_from-lines (number + 1) lines p.1 less)
