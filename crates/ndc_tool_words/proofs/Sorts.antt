-- What a word may be to `run`: an option, an option and its value, a value, or a word that is refused.
use Rattle.std.proofs.Common.{◌≡◌, ◌∙◌, ◌==◌, ◌&&◌, ℕ, ◌≤◌, Bool, true, false, cond, List, [], ◌∷◌, ◌++◌, length, get_or, take, drop, codes, zero, suc, inl, inr, ◌⊎◌, Option, Some, None, refl, sym, ap, ap₂, subst, arith, eqb-true, true≢false}
use mathlib.Core.Logic.{⊎_elim}
use Rattle.std.specs.Prelude.{encode_utf8, slice_get, chars}
use Rattle.std.specs.List.{list_any, after_first, before_first, position_or_len}
use Rattle.std.specs.Str.{bytes_eq}
use Rattle.std.proofs.lemmas.Bool.{cases_lt}
use Rattle.std.proofs.lemmas.List.{append_assoc}
use Rattle.std.proofs.lemmas.List.Sums.{passes_at_first, split_at_first}
use Rattle.std.proofs.lemmas.Slice.Eq.{bytes_eq-Decides}
use Rattle.clap.specs.Lexer.{long_of}
use Rattle.clap.specs.Walk.{Held, Row, Rule, Text, Waiting, after_flag, arg_by_long, arg_by_short, bundle_met, bundle_step, long_or_other, plain_word, short_word}
use Rattle.clap.specs.Walk.{plain as no_flag}
use Rattle.clap.specs.Faults.{bundle_step_fault, flag_word_fault, flags_fault, long_fault, short_fault}
use Rattle.clap.specs.Simple.{Shape, filled_from}
use Rattle.clap.specs.declared.error.kind.ErrorKind.TheVariants.{UnknownArgument}
use Rattle.clap.proofs.WalkLemmas.{both}
use Rattle.ndc_tool_words.specs.Names.{begins_with_dash}
use Rattle.ndc_tool_words.specs.Options.{Flag, Index, Late, Workers, begins, flag_of, joined_of}
use Rattle.ndc_tool_words.specs.Command.{run_app}

-- the arguments of `run`, once the command is built
abbrev pub rules : List Rule
rules = filled_from 1 run_app.top.rules

-- a word that is an option
abbrev pub alone_text : Flag → Text
alone_text Workers = codes "--workers"
alone_text Index = codes "--index"
alone_text Late = codes "--late"

-- what stands before the value in one word with it
abbrev pub joined_text : Flag → Text
joined_text Workers = codes "--workers="
joined_text Index = codes "--index="
joined_text Late = codes "--late="

abbrev pub held : List Row → Option (Text × List Text) → Held
held rows pending = record { rows = rows; pending = pending; skip = 0 }

-- `run`, once the command is built
abbrev pub shape : Shape
shape = record run_app.top {
  rules = rules;
  no_binary_name = true;
  disable_help_flag = true;
  disable_help_subcommand = true;
  disable_version_flag = true;
  is_built = true;
}

-- clap refuses the word as an option that the command has not
abbrev pub IsRefusedBy : Shape → Text → Type 0
IsRefusedBy s word =
    (rows : List Row) (pending : Option (Text × List Text)) → flag_word_fault s.rules s.args_override_self (long_of word) word (held rows pending) ≡ UnknownArgument ∷ []

-- clap takes the word for no option
abbrev pub IsValueBy : Shape → Text → Type 0
IsValueBy s word = (waiting : Waiting) (rows : List Row) (pending : Option (Text × List Text))
    → (flag_word_fault s.rules s.args_override_self (long_of word) word (held rows pending) ≡ [])
    × (long_or_other s.rules waiting word (long_of word) (held rows pending) ≡ plain_word s.rules waiting word (held rows pending))

-- the table takes the word for no option
abbrev pub IsNone : Text → Type 0
IsNone word = (flag_of word ≡ None) × (joined_of word ≡ None)

pub data Sort (word : Text) : Type 0 where
  is_option : (f : Flag) → word ≡ alone_text f → Sort word
  is_joined : (f : Flag) (v : Text) → word ≡ joined_text f ++ v → Sort word
  is_refused : IsNone word → begins_with_dash word ≡ true → IsRefusedBy shape word → Sort word
  is_value : IsNone word → IsValueBy shape word → Sort word

-- ---- no option has the word's name

-- a text that begins so is that beginning and a rest
pub begins-rest : (front word : Text) → begins word front ≡ true → (rest : Text) × (word ≡ front ++ rest)
begins-rest [] word e = (word, refl)
begins-rest (c ∷ front) [] e = absurd (true≢false (sym e))
begins-rest (c ∷ front) (x ∷ word) e =
    let parts = both (c == x) (begins word front) e in
    let rest = begins-rest front word parts.1 in
    (rest.0, λ i. sym (eqb-true c x parts.0) i ∷ rest.1 i)

begins-more : (front rest : Text) → begins (front ++ rest) front ≡ true
begins-more [] rest = refl
begins-more (c ∷ front) rest = ap₂ (λ a b. a && b) (same-byte c) (begins-more front rest)
  where
    same-byte : (c : ℕ) → (c == c) ≡ true
    same-byte c = grind arith

pub same_text : (one two : Text) → bytes_eq one two ≡ true → one ≡ two
same_text one two e = (bytes_eq-Decides one two).0 e

equal : (one two : Text) → one ≡ two → bytes_eq one two ≡ true
equal one two e = (bytes_eq-Decides one two).1 e

-- either case of a test
pub either-way : {P : Type 0} (t : Bool) → (t ≡ true → P) → (t ≡ false → P) → P
either-way true f g = f refl
either-way false f g = g refl

-- a text that is not the name, nor begins with the name and `=`, has another name
pub other-name : (name rest : Text) → bytes_eq rest name ≡ false → begins rest (name ++ 61 ∷ []) ≡ false → bytes_eq name (before_first (λ b. b == 61) rest) ≡ false
other-name name rest other apart =
    either-way (bytes_eq name (before_first (λ b. b == 61) rest))
    (λ same. absurd (⊎_elim
    (λ cut.
    let whole = split_at_first (λ b. b == 61) rest 0 cut in
    let sign = eqb-true (get_or rest (position_or_len (λ b. b == 61) rest) 0) 61 (passes_at_first (λ b. b == 61) rest 0 cut) in
    let front : rest ≡ (name ++ 61 ∷ []) ++ after_first (λ b. b == 61) rest =
    whole ∙ ((λ i. sym (same_text name (before_first (λ b. b == 61) rest) same) i ++ sign i ∷ after_first (λ b. b == 61) rest)
    ∙ sym (append_assoc name (61 ∷ []) (after_first (λ b. b == 61) rest))) in
    true≢false (sym (ap (λ t. begins t (name ++ 61 ∷ [])) front ∙ begins-more (name ++ 61 ∷ []) (after_first (λ b. b == 61) rest)) ∙ apart))
    (λ uncut.
    let all : take (position_or_len (λ b. b == 61) rest) rest ≡ rest = take-past (position_or_len (λ b. b == 61) rest) rest uncut in
    true≢false (sym (equal rest name (sym (same_text name (before_first (λ b. b == 61) rest) same ∙ all))) ∙ other))
    (cases_lt (position_or_len (λ b. b == 61) rest) (length rest))))
    (λ no. no)
  where
    take-past : (n : ℕ) (xs : Text) → length xs ≤ n → take n xs ≡ xs
    take-past zero [] past = refl
    take-past (suc n) [] past = refl
    take-past zero (x ∷ xs) past = absurd (omega (arith, past))
    take-past (suc n) (x ∷ xs) past = ap (λ rest. x ∷ rest) (take-past n xs (omega (arith, past)))

-- the word is none of the six
record Unnamed (word : Text) : Type 0 where
  no-workers : bytes_eq word (codes "--workers") ≡ false
  no-index : bytes_eq word (codes "--index") ≡ false
  no-late : bytes_eq word (codes "--late") ≡ false
  not-workers : begins word (codes "--workers=") ≡ false
  not-index : begins word (codes "--index=") ≡ false
  not-late : begins word (codes "--late=") ≡ false

none-by : (word : Text) → Unnamed word → IsNone word
none-by word u = (
  λ i. cond (u.no-workers i) (Some Workers) (cond (u.no-index i) (Some Index) (cond (u.no-late i) (Some Late) None)),
  λ i. cond (u.not-workers i) (Some (Workers, drop 10 word)) (cond (u.not-index i) (Some (Index, drop 8 word)) (cond (u.not-late i) (Some (Late, drop 7 word)) None)),
)

-- ---- the sorts

refused-long : (rest : Text) → Unnamed (45 ∷ 45 ∷ rest) → arg_by_long rules (before_first (λ b. b == 61) rest) ≡ None
refused-long rest u =
    let first = other-name (codes "workers") rest u.no-workers u.not-workers in
    let second = other-name (codes "index") rest u.no-index u.not-index in
    let third = other-name (codes "late") rest u.no-late u.not-late in
    rw (first, second, third) refl

sort-long : (rest : Text) → Unnamed (45 ∷ 45 ∷ rest) → bytes_eq (45 ∷ 45 ∷ rest) (codes "--") ≡ false → Sort (45 ∷ 45 ∷ rest)
sort-long [] u apart = absurd (true≢false apart)
sort-long (x ∷ xs) u apart =
    is_refused (none-by _ u) refl
    (λ rows pending. ap (λ o. long_fault rules false o (cond (list_any (λ b. b == 61) (x ∷ xs)) (Some (after_first (λ b. b == 61) (x ∷ xs))) None) (held rows pending)) (refused-long (x ∷ xs) u))

-- the command has no option of one letter
abbrev HasNoLetters : Shape → Type 0
HasNoLetters s = (c : ℕ) → arg_by_short s.rules c ≡ None

refused-short : (s : Shape) → HasNoLetters s → (x : ℕ) (xs : Text) (c : ℕ) → (x == 45) ≡ false → slice_get (chars (x ∷ xs)) 0 ≡ Some c → IsRefusedBy s (45 ∷ x ∷ xs)
unfolding flags_fault
refused-short s none x xs c single first rows pending =
    let again = s.args_override_self in
    let one : flag_word_fault s.rules again (long_of (45 ∷ x ∷ xs)) (45 ∷ x ∷ xs) (held rows pending) ≡ flags_fault s.rules again (length (x ∷ xs)) (x ∷ xs) 0 (held rows pending) = rw (single, single) refl in
    one ∙ (ap (λ o. bundle_step_fault s.rules again o (x ∷ xs) 0 (held rows pending) (flags_fault s.rules again (length xs))) first
    ∙ ap (λ o. short_fault s.rules again o (drop (length (encode_utf8 c)) (x ∷ xs)) (held rows pending) (flags_fault s.rules again (length xs) (drop (length (encode_utf8 c)) (x ∷ xs)) 0)) (none c))

value-short : (s : Shape) (x : ℕ) (xs : Text) → (x == 45) ≡ false → slice_get (chars (x ∷ xs)) 0 ≡ None → IsValueBy s (45 ∷ x ∷ xs)
unfolding flags_fault bundle_met
value-short s x xs single first waiting rows pending =
    let again = s.args_override_self in
    let one : flag_word_fault s.rules again (long_of (45 ∷ x ∷ xs)) (45 ∷ x ∷ xs) (held rows pending) ≡ flags_fault s.rules again (length (x ∷ xs)) (x ∷ xs) 0 (held rows pending) = rw (single, single) refl in
    let two : long_or_other s.rules waiting (45 ∷ x ∷ xs) (long_of (45 ∷ x ∷ xs)) (held rows pending) ≡ short_word s.rules waiting (45 ∷ x ∷ xs) (x ∷ xs) (held rows pending) = rw (single, single) refl in (
      one ∙ ap (λ o. bundle_step_fault s.rules again o (x ∷ xs) 0 (held rows pending) (flags_fault s.rules again (length xs))) first,
      two ∙ ap (λ o. after_flag s.rules waiting (45 ∷ x ∷ xs) (bundle_step s.rules o (x ∷ xs) 0 no_flag (held rows pending) (bundle_met s.rules (length xs))).0 (bundle_step s.rules o (x ∷ xs) 0 no_flag (held rows pending) (bundle_met s.rules (length xs))).1) first,
    )

value-plain : (s : Shape) (x : ℕ) (xs : Text) → (x == 45) ≡ false → IsValueBy s (x ∷ xs)
value-plain s x xs e waiting rows pending = (rw (e, e) refl, rw (e, e) refl)

-- the sort of a word for a command without options: an option that it has not, or a value
abbrev pub Bare : Shape → Text → Type 0
Bare s word = ((begins_with_dash word ≡ true) × IsRefusedBy s word) ⊎ IsValueBy s word

abbrev HasNoNames : Shape → Type 0
HasNoNames s = (name : Text) → arg_by_long s.rules name ≡ None

bare-dash : (s : Shape) → HasNoLetters s → HasNoNames s → (rest : Text) → bytes_eq (45 ∷ rest) (codes "--") ≡ false → Bare s (45 ∷ rest)
bare-dash s letters names [] apart = inr (λ waiting rows pending. (refl, refl))
bare-dash s letters names (x ∷ xs) apart =
    either-way (x == 45)
    (λ e. subst (λ y. bytes_eq (45 ∷ y ∷ xs) (codes "--") ≡ false → Bare s (45 ∷ y ∷ xs)) (sym (eqb-true x 45 e)) (long xs) apart)
    (λ e. by-first e (slice_get (chars (x ∷ xs)) 0) refl)
  where
    long : (rest : Text) → bytes_eq (45 ∷ 45 ∷ rest) (codes "--") ≡ false → Bare s (45 ∷ 45 ∷ rest)
    long [] apart = absurd (true≢false apart)
    long (y ∷ ys) apart =
        inl (
          refl,
          (λ rows pending. ap (λ o. long_fault s.rules s.args_override_self o (cond (list_any (λ b. b == 61) (y ∷ ys)) (Some (after_first (λ b. b == 61) (y ∷ ys))) None) (held rows pending))
              (names (before_first (λ b. b == 61) (y ∷ ys)))),
        )

    by-first : (x == 45) ≡ false → (first : Option ℕ) → slice_get (chars (x ∷ xs)) 0 ≡ first → Bare s (45 ∷ x ∷ xs)
    by-first single (Some c) e = inl (refl, refused-short s letters x xs c single e)
    by-first single None e = inr (value-short s x xs single e)

pub bare-sort : (s : Shape) → HasNoLetters s → HasNoNames s → (word : Text) → bytes_eq word (codes "--") ≡ false → Bare s word
bare-sort s letters names [] apart = inr (λ waiting rows pending. (refl, refl))
bare-sort s letters names (x ∷ xs) apart =
    either-way (x == 45)
    (λ e. subst (λ y. bytes_eq (y ∷ xs) (codes "--") ≡ false → Bare s (y ∷ xs)) (sym (eqb-true x 45 e)) (bare-dash s letters names xs) apart)
    (λ e. inr (value-plain s x xs e))

sort-short : (x : ℕ) (xs : Text) → Unnamed (45 ∷ x ∷ xs) → (x == 45) ≡ false → Sort (45 ∷ x ∷ xs)
sort-short x xs u single = by-first (slice_get (chars (x ∷ xs)) 0) refl
  where
    by-first : (first : Option ℕ) → slice_get (chars (x ∷ xs)) 0 ≡ first → Sort (45 ∷ x ∷ xs)
    by-first (Some c) e = is_refused (none-by _ u) refl (refused-short shape (λ c. refl) x xs c single e)
    by-first None e = is_value (none-by _ u) (value-short shape x xs single e)

sort-dash : (rest : Text) → Unnamed (45 ∷ rest) → bytes_eq (45 ∷ rest) (codes "--") ≡ false → Sort (45 ∷ rest)
sort-dash [] u apart = is_value (none-by _ u) (λ waiting rows pending. (refl, refl))
sort-dash (x ∷ xs) u apart =
    either-way (x == 45)
    (λ e. subst (λ y. Unnamed (45 ∷ y ∷ xs) → bytes_eq (45 ∷ y ∷ xs) (codes "--") ≡ false → Sort (45 ∷ y ∷ xs)) (sym (eqb-true x 45 e)) (sort-long xs) u apart)
    (λ e. sort-short x xs u e)

sort-other : (word : Text) → Unnamed word → bytes_eq word (codes "--") ≡ false → Sort word
sort-other [] u apart = is_value (none-by [] u) (λ waiting rows pending. (refl, refl))
sort-other (x ∷ xs) u apart =
    either-way (x == 45)
    (λ e. subst (λ y. Unnamed (y ∷ xs) → bytes_eq (y ∷ xs) (codes "--") ≡ false → Sort (y ∷ xs)) (sym (eqb-true x 45 e)) (sort-dash xs) u apart)
    (λ e. is_value (none-by (x ∷ xs) u) (value-plain shape x xs e))

-- the sort of a word that is not `--`
pub sort : (word : Text) → bytes_eq word (codes "--") ≡ false → Sort word
sort word apart =
    either-way (bytes_eq word (codes "--workers")) (λ e. is_option Workers (same_text word (codes "--workers") e)) (λ a.
    either-way (bytes_eq word (codes "--index")) (λ e. is_option Index (same_text word (codes "--index") e)) (λ b.
    either-way (bytes_eq word (codes "--late")) (λ e. is_option Late (same_text word (codes "--late") e)) (λ c.
    either-way (begins word (codes "--workers=")) (λ e. let rest = begins-rest (codes "--workers=") word e in is_joined Workers rest.0 rest.1) (λ d.
    either-way (begins word (codes "--index=")) (λ e. let rest = begins-rest (codes "--index=") word e in is_joined Index rest.0 rest.1) (λ f.
    either-way (begins word (codes "--late=")) (λ e. let rest = begins-rest (codes "--late=") word e in is_joined Late rest.0 rest.1) (λ g.
    sort-other word (record { no-workers = a; no-index = b; no-late = c; not-workers = d; not-index = f; not-late = g }) apart))))))
