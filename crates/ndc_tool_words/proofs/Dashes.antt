-- Lists with the word `--` are refused.
use Rattle.std.proofs.Common.{◌≡◌, ℕ, Bool, true, false, ◌||◌, ◌&&◌, ◌==◌, not, cond, length, nat_le, nat_lt, eqb-true, is_some, codes, List, [], ◌∷◌, Option, Some, None, if◌then◌else◌, refl, ap, ◌∙◌}
use Rattle.std.specs.List.{list_all, list_any, slice_split}
use Rattle.std.specs.Str.{bytes_eq}
use Rattle.std.proofs.lemmas.Slice.Eq.{bytes_eq-Decides}
use Rattle.ndc_script_words.specs.Number.{has_leading_zero, is_digit, value_on}
use Rattle.ndc_tool_words.specs.Reads.{◌>>=◌}
use Rattle.ndc_tool_words.specs.Numbers.{number_within}
use Rattle.ndc_tool_words.specs.Names.{begins_with_dash, names_of, names_on}
use Rattle.ndc_tool_words.specs.Options.{Flag, Index, Late, Options, Workers, no_options, options_on, word_by, with_value, with_word}
use Rattle.ndc_tool_words.specs.Words.{alone, asked_of, demo_of, make_of, run_of, run_with}
use Rattle.ndc_tool_words.specs.declared.words.Asked.{Asked}
use Rattle.ndc_tool_words.specs.declared.words.Asked.TheVariants.{Rebuild, Inspect, Make, Demo}

-- the word is `--`
abbrev pub are_dashes : List ℕ → Bool
are_dashes word = bytes_eq word (codes "--")

dashes : (word : List ℕ) → are_dashes word ≡ true → word ≡ codes "--"
dashes word e = (bytes_eq-Decides word (codes "--")).0 e

same-none : {X : Type 0} (t : Bool) → ◌≡◌ {A = Option X} (cond t None None) None
same-none true = refl
same-none false = refl

-- a word that begins with `-` is not a number
pub no_number : (least most : ℕ) (word : List ℕ) → begins_with_dash word ≡ true → number_within least most word ≡ None
no_number least most [] e = refl
no_number least most (x ∷ word) e = ap (λ byte. number_within least most (byte ∷ word)) (eqb-true x 45 e) ∙ go (nat_lt 0 (length (45 ∷ word)))
  where
    go : (t : Bool) → (if (t && list_all is_digit (45 ∷ word) && not (has_leading_zero (45 ∷ word))) && nat_le least (value_on 0 (45 ∷ word)) && nat_le (value_on 0 (45 ∷ word)) most then Some (value_on 0 (45 ∷ word)) else None) ≡ None
    go true = refl
    go false = refl

-- nor a value of an option
pub no_value : (f : Flag) (word : List ℕ) (options : Options) → begins_with_dash word ≡ true → with_value f word options ≡ None
unfolding with_value names_of
no_value Workers word options e =
    ap (λ (o : Option ℕ). cond (is_some options.workers) None (o >>= (λ workers. Some (record options { workers = Some workers; awaited = None })))) (no_number 1 64 word e)
    ∙ same-none (is_some options.workers)
no_value Index word options e =
    ap (λ t. cond (is_some options.index) None (cond t None (names_on [] (slice_split (λ byte. byte == 44) word)) >>= (λ names. Some (record options { index = Some names; awaited = None })))) e
    ∙ same-none (is_some options.index)
no_value Late word options e =
    ap (λ t. cond (is_some options.late) None (cond t None (names_on [] (slice_split (λ byte. byte == 44) word)) >>= (λ names. Some (record options { late = Some names; awaited = None })))) e
    ∙ same-none (is_some options.late)

no_word-by : (awaited : Option Flag) (options : Options) → word_by awaited (codes "--") options ≡ None
no_word-by (Some flag) options = no_value flag (codes "--") options refl
no_word-by None options = refl

no_word : (options : Options) → with_word (codes "--") options ≡ None
unfolding with_word
no_word options = no_word-by options.awaited options

-- what is none for each value is none
pub then-none : {A B : Type 0} (o : Option A) (f : A → Option B) → ((a : A) → f a ≡ None) → (o >>= f) ≡ None
then-none None f none = refl
then-none (Some a) f none = none a

no_options-by : (word : List ℕ) (words : List (List ℕ)) (options : Options) (t : Bool) → are_dashes word ≡ t → (t || list_any are_dashes words) ≡ true
    → ((more : Options) → list_any are_dashes words ≡ true → options_on more words ≡ None) → options_on options (word ∷ words) ≡ None
no_options-by word words options true is e rest = ap (λ (o : Option Options). o >>= (λ more. options_on more words)) (ap (λ w. with_word w options) (dashes word is) ∙ no_word options)
no_options-by word words options false is e rest = then-none (with_word word options) (λ more. options_on more words) (λ more. rest more e)

-- no options are read from words with `--` among them
no_options-on : (words : List (List ℕ)) (options : Options) → list_any are_dashes words ≡ true → options_on options words ≡ None
no_options-on [] options e = absurd (cc)
no_options-on (word ∷ words) options e = no_options-by word words options (are_dashes word) refl e (no_options-on words)

no_run : (words : List (List ℕ)) → list_any are_dashes words ≡ true → run_of words ≡ None
unfolding run_of
no_run words e = ap (λ (o : Option Options). o >>= run_with) (no_options-on words no_options e)

not_alone : (asked : Asked) (words : List (List ℕ)) → list_any are_dashes words ≡ true → alone asked words ≡ None
not_alone asked [] e = absurd (cc)
not_alone asked (word ∷ words) e = refl

dash : (word : List ℕ) → are_dashes word ≡ true → begins_with_dash word ≡ true
dash word is = ap begins_with_dash (dashes word is)

one-or : (a b : Bool) {P : Type 0} → (a || (b || false)) ≡ true → (a ≡ true → P) → (b ≡ true → P) → P
one-or true b e first second = first refl
one-or false true e first second = second refl
one-or false false e first second = absurd (cc)

no_demo : (words : List (List ℕ)) → list_any are_dashes words ≡ true → demo_of words ≡ None
unfolding demo_of
no_demo [] e = refl
no_demo (one ∷ []) e = one-or (are_dashes one) false e
    (λ is. ap (λ (o : Option ℕ). o >>= (λ count. Some (Demo count))) (no_number 1 99000 one (dash one is))) (λ never. absurd (cc))
no_demo (one ∷ two ∷ words) e = refl

no_make : (words : List (List ℕ)) → list_any are_dashes words ≡ true → make_of words ≡ None
unfolding make_of
no_make [] e = refl
no_make (one ∷ []) e = refl
no_make (one ∷ two ∷ []) e = one-or (are_dashes one) (are_dashes two) e
    (λ is. ap (λ (o : Option ℕ). o >>= (λ count. number_within 0 18446744073709551615 two >>= (λ seed. Some (Make count seed)))) (no_number 1 99000 one (dash one is)))
    (λ is. then-none (number_within 1 99000 one) (λ count. number_within 0 18446744073709551615 two >>= (λ seed. Some (Make count seed)))
    (λ count. ap (λ (o : Option ℕ). o >>= (λ seed. Some (Make count seed))) (no_number 0 18446744073709551615 two (dash two is))))
no_make (one ∷ two ∷ three ∷ words) e = refl

none-of : (run rebuild inspect make demo : Bool) (words : List (List ℕ)) → list_any are_dashes words ≡ true
    → (if run then run_of words else if rebuild then alone Rebuild words else if inspect then alone Inspect words else if make then make_of words else if demo then demo_of words else None) ≡ None
none-of true rebuild inspect make demo words e = no_run words e
none-of false true inspect make demo words e = not_alone Rebuild words e
none-of false false true make demo words e = not_alone Inspect words e
none-of false false false true demo words e = no_make words e
none-of false false false false true words e = no_demo words e
none-of false false false false false words e = refl

first-by : (verb : List ℕ) (words : List (List ℕ)) (t : Bool) → are_dashes verb ≡ t → (t || list_any are_dashes words) ≡ true → asked_of (verb ∷ words) ≡ None
first-by verb words true is e = ap (λ w. asked_of (w ∷ words)) (dashes verb is)
first-by verb words false is e =
    none-of (bytes_eq verb (codes "run")) (bytes_eq verb (codes "rebuild")) (bytes_eq verb (codes "inspect")) (bytes_eq verb (codes "make")) (bytes_eq verb (codes "demo")) words e

-- words with `--` among them are refused
pub dashes_refused : (words : List (List ℕ)) → list_any are_dashes words ≡ true → asked_of words ≡ None
dashes_refused [] e = refl
dashes_refused (verb ∷ words) e = first-by verb words (are_dashes verb) refl e
