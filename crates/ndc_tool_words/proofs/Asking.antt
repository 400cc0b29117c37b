-- What words ask for is well formed.
use Rattle.std.proofs.Common.{◌≡◌, ℕ, ◌≤◌, Bool, true, false, ◌||◌, ◌&&◌, nat_le, is_some, unwrap_or, codes, List, [], ◌∷◌, Option, Some, None, if◌then◌else◌, refl, subst, arith, tests}
use Rattle.std.proofs.lemmas.Option.{option_and_then_some, same_Some}
use Rattle.std.specs.Str.{bytes_eq}
use Rattle.ndc_script_words.specs.Number.{value_on}
use Rattle.ndc_tool_words.specs.Numbers.{is_written, number_within}
use Rattle.ndc_tool_words.specs.Names.{names_of, share_a_name}
use Rattle.ndc_tool_words.specs.Options.{Flag, Index, Late, Options, Workers, flag_of, joined_of, no_options, options_on, option_by, word_by, with_value, with_word}
use Rattle.ndc_tool_words.specs.Words.{alone, asked_of, demo_of, make_of, run_of, run_with}
use Rattle.ndc_tool_words.specs.WellFormed.{IsWellFormedAsked}
use Rattle.ndc_tool_words.specs.declared.words.Asked.{Asked}
use Rattle.ndc_tool_words.specs.declared.words.Asked.TheVariants.{Run, Rebuild, Inspect, Make, Demo}
use Rattle.ndc_tool_words.proofs.Differ.{Differ, Differ-append, names_of-differ}

in_range : (a b c : Bool) (value found : ℕ) → (if a && b && c then Some value else None) ≡ Some found → (b ≡ true) × (c ≡ true) × (value ≡ found)
in_range true true true value found e = (refl, refl, same_Some value found e)
in_range true true false value found e = absurd (cc)
in_range true false c value found e = absurd (cc)
in_range false b c value found e = absurd (cc)

-- a number is within its range
within-range : (least most : ℕ) (word : List ℕ) (found : ℕ) → number_within least most word ≡ Some found → (least ≤ found) × (found ≤ most)
within-range least most word found e =
    let parts = in_range (is_written word) (nat_le least (value_on 0 word)) (nat_le (value_on 0 word) most) (value_on 0 word) found e in
    (omega (arith, tests, parts.0, parts.2), omega (arith, tests, parts.1, parts.2))

-- options of which each has what it may have
abbrev pub AreWorkers : Option ℕ → Type 0
AreWorkers None = Unit
AreWorkers (Some workers) = (1 ≤ workers) × (workers ≤ 64)

abbrev pub DifferIn : Option (List (List ℕ)) → Type 0
DifferIn None = Unit
DifferIn (Some names) = Differ names

pub record AreFit (options : Options) : Type 0 where
  pub workers : AreWorkers options.workers
  pub index : DifferIn options.index
  pub late : DifferIn options.late

unless : (a : Bool) (o : Option Options) (found : Options) → (if a then None else o) ≡ Some found → o ≡ Some found
unless true o found e = absurd (cc)
unless false o found e = e

fit-value : (flag : Flag) (value : List ℕ) (options found : Options) → AreFit options → with_value flag value options ≡ Some found → AreFit found
unfolding with_value
fit-value Workers value options found is e =
    option_and_then_some _ (number_within 1 64 value) found (unless (is_some options.workers) _ found e)
    (λ workers given so. subst AreFit (same_Some _ found so)
    (record { workers = within-range 1 64 value workers given; index = is.index; late = is.late }))
fit-value Index value options found is e =
    option_and_then_some _ (names_of value) found (unless (is_some options.index) _ found e)
    (λ names given so. subst AreFit (same_Some _ found so)
    (record { workers = is.workers; index = names_of-differ value names given; late = is.late }))
fit-value Late value options found is e =
    option_and_then_some _ (names_of value) found (unless (is_some options.late) _ found e)
    (λ names given so. subst AreFit (same_Some _ found so)
    (record { workers = is.workers; index = is.index; late = names_of-differ value names given }))

fit-option : (flag : Option Flag) (joined : Option (Flag × List ℕ)) (options found : Options) → AreFit options → option_by flag joined options ≡ Some found → AreFit found
fit-option (Some flag) joined options found is e = subst AreFit (same_Some _ found e) (record { workers = is.workers; index = is.index; late = is.late })
fit-option None (Some (flag, value)) options found is e = fit-value flag value options found is e
fit-option None None options found is e = absurd (cc)

fit-by : (awaited : Option Flag) (word : List ℕ) (options found : Options) → AreFit options → word_by awaited word options ≡ Some found → AreFit found
fit-by (Some flag) word options found is e = fit-value flag word options found is e
fit-by None word options found is e = fit-option (flag_of word) (joined_of word) options found is e

fit-word : (word : List ℕ) (options found : Options) → AreFit options → with_word word options ≡ Some found → AreFit found
unfolding with_word
fit-word word options found is e = fit-by options.awaited word options found is e

-- the options that words are have what they may have
fit-words : (options : Options) (words : List (List ℕ)) (found : Options) → AreFit options → options_on options words ≡ Some found → AreFit found
fit-words options [] found is e = subst AreFit (same_Some options found e) is
fit-words options (word ∷ words) found is e =
    option_and_then_some (λ more. options_on more words) (with_word word options) found e
    (λ more given rest. fit-words more words found (fit-word word options more is given) rest)

one_or : (workers : Option ℕ) → AreWorkers workers → (1 ≤ unwrap_or workers 1) × (unwrap_or workers 1 ≤ 64)
one_or None is = (omega arith, omega arith)
one_or (Some workers) is = is

none_or : (names : Option (List (List ℕ))) → DifferIn names → Differ (unwrap_or names [])
none_or None is = λ i j d lt within. absurd (omega (arith, within))
none_or (Some names) is = is

both-fail : (a b : Bool) (asked found : Asked) → (if a || b then None else Some asked) ≡ Some found → (b ≡ false) × (asked ≡ found)
both-fail true b asked found e = absurd (cc)
both-fail false true asked found e = absurd (cc)
both-fail false false asked found e = (refl, same_Some asked found e)

fit-run : (options : Options) (asked : Asked) → AreFit options → run_with options ≡ Some asked → IsWellFormedAsked asked
fit-run options asked is e =
    let parts = both-fail (is_some options.awaited) (share_a_name (unwrap_or options.index []) (unwrap_or options.late []))
    (Run (unwrap_or options.workers 1) (unwrap_or options.index []) (unwrap_or options.late [])) asked e in
    let workers = one_or options.workers is.workers in
    subst IsWellFormedAsked parts.1
    (workers.0, workers.1, Differ-append (unwrap_or options.index []) (unwrap_or options.late []) (none_or options.index is.index) (none_or options.late is.late) parts.0)

run-fits : (words : List (List ℕ)) (asked : Asked) → run_of words ≡ Some asked → IsWellFormedAsked asked
unfolding run_of
run-fits words asked e =
    option_and_then_some run_with (options_on no_options words) asked e
    (λ options given so. fit-run options asked (fit-words no_options words options (record { workers = tt; index = tt; late = tt }) given) so)

alone-fits : (what : Asked) (words : List (List ℕ)) (asked : Asked) → IsWellFormedAsked what → alone what words ≡ Some asked → IsWellFormedAsked asked
alone-fits what [] asked is e = subst IsWellFormedAsked (same_Some what asked e) is
alone-fits what (word ∷ words) asked is e = absurd (cc)

make-fits : (words : List (List ℕ)) (asked : Asked) → make_of words ≡ Some asked → IsWellFormedAsked asked
unfolding make_of
make-fits [] asked e = absurd (cc)
make-fits (one ∷ []) asked e = absurd (cc)
make-fits (one ∷ two ∷ []) asked e =
    option_and_then_some _ (number_within 1 99000 one) asked e
    (λ count counted so. option_and_then_some _ (number_within 0 18446744073709551615 two) asked so
    (λ seed seeded done.
    let counts = within-range 1 99000 one count counted in
    subst IsWellFormedAsked (same_Some (Make count seed) asked done)
    (counts.0, counts.1, (within-range 0 18446744073709551615 two seed seeded).1)))
make-fits (one ∷ two ∷ three ∷ words) asked e = absurd (cc)

demo-fits : (words : List (List ℕ)) (asked : Asked) → demo_of words ≡ Some asked → IsWellFormedAsked asked
unfolding demo_of
demo-fits [] asked e = absurd (cc)
demo-fits (one ∷ []) asked e =
    option_and_then_some _ (number_within 1 99000 one) asked e
    (λ count counted so. subst IsWellFormedAsked (same_Some (Demo count) asked so) (within-range 1 99000 one count counted))
demo-fits (one ∷ two ∷ words) asked e = absurd (cc)

one-of : (run rebuild inspect make demo : Bool) (words : List (List ℕ)) (asked : Asked)
    → (if run then run_of words else if rebuild then alone Rebuild words else if inspect then alone Inspect words else if make then make_of words else if demo then demo_of words else None) ≡ Some asked
    → IsWellFormedAsked asked
one-of true rebuild inspect make demo words asked e = run-fits words asked e
one-of false true inspect make demo words asked e = alone-fits Rebuild words asked tt e
one-of false false true make demo words asked e = alone-fits Inspect words asked tt e
one-of false false false true demo words asked e = make-fits words asked e
one-of false false false false true words asked e = demo-fits words asked e
one-of false false false false false words asked e = absurd (cc)

-- what words ask for is well formed
pub asked_fits : (words : List (List ℕ)) (asked : Asked) → asked_of words ≡ Some asked → IsWellFormedAsked asked
asked_fits [] asked e = absurd (cc)
asked_fits (verb ∷ words) asked e =
    one-of (bytes_eq verb (codes "run")) (bytes_eq verb (codes "rebuild")) (bytes_eq verb (codes "inspect")) (bytes_eq verb (codes "make")) (bytes_eq verb (codes "demo")) words asked e
