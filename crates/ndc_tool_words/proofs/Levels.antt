-- What clap finds in the words after each word that the program is called with, and what the table makes of them.
use Rattle.std.proofs.Common.{◌≡◌, ◌≢◌, ◌∙◌, ◌||◌, ℕ, Bool, true, false, cond, List, [], ◌∷◌, map, codes, Option, Some, None, inl, inr, refl, sym, ap, ap₂, fold}
use Rattle.std.specs.List.{list_all, list_any}
use Rattle.std.specs.Option.{option_map_or}
use Rattle.std.specs.Str.{bytes_eq}
use Rattle.clap.specs.Kinds.{Kinds, or_else}
use Rattle.clap.specs.Walk.{Row, Rule, Text, Walk, arg_by_index, default_rows, finished, has_row, idle, is_empty, nothing_held, reading_by, rows_after, settled, walk, walk_from, walked, with_default}
use Rattle.clap.specs.Faults.{check_fault, default_fault, defaults_fault, given_default_fault, level_fault, positional_fault, settle_fault, stray_fault, turn_fault, walk_fault}
use Rattle.clap.specs.Simple.{Shape, filled_from}
use Rattle.clap.specs.declared.builder.value_parser.Reading.TheVariants.{AsWritten}
use Rattle.clap.specs.declared.parser.matches.ValueSource.TheVariants.{CommandLine}
use Rattle.clap.specs.declared.error.kind.ErrorKind.{ErrorKind}
use Rattle.clap.specs.declared.error.kind.ErrorKind.TheVariants.{MissingRequiredArgument, UnknownArgument}
use Rattle.clap.proofs.SimpleLemmas.{is_nil}
use Rattle.clap.proofs.WalkLemmas.{both}
use Rattle.ndc_tool_words.specs.Reads.{◌>>=◌}
use Rattle.ndc_tool_words.specs.Numbers.{number_within}
use Rattle.ndc_tool_words.specs.Names.{begins_with_dash}
use Rattle.ndc_tool_words.specs.Words.{alone, demo_of, make_of, run_of, run_with}
use Rattle.ndc_tool_words.specs.Command.{demo_app, make_app}
use Rattle.ndc_tool_words.specs.Found.{asked_in, demo_in, make_in, run_in}
use Rattle.ndc_tool_words.specs.declared.words.Asked.{Asked}
use Rattle.ndc_tool_words.specs.declared.words.Asked.TheVariants.{Make, Demo}
use Rattle.ndc_tool_words.proofs.Pairs.{Pair, options-found, options_of, row}
use Rattle.ndc_tool_words.proofs.Sorts.{Bare, IsValueBy, bare-sort, held, rules, shape}
use Rattle.ndc_tool_words.proofs.Dashes.{no_number, then-none}
use Rattle.ndc_tool_words.proofs.Runs.{Agree, next-value-at, no-dashes, run-agrees, some-kind, turn-refused, turn-value-at, walk_at}

-- a command of this name with these arguments, once the whole is built
abbrev pub leaf : Text → List Rule → Shape
leaf name arguments = record shape { name = name; rules = arguments }

-- what clap refuses in the words after the name
abbrev pub level : Shape → List Text → Kinds
level s words = level_fault s [] nothing_held words false []

-- clap takes what the table takes, and finds what the table reads
abbrev pub Same : Shape → List Text → Option Asked → Type 0
Same s words asked = (level s words ≡ [] → asked_in (Some (s.name, rows_after s.rules [] words)) ≡ asked) × (level s words ≢ [] → asked ≡ None)

refused : (s : Shape) (words : List Text) (asked : Option Asked) → level s words ≢ [] → asked ≡ None → Same s words asked
refused s words asked some none = ((λ e. absurd (some e)), (λ more. none))

taken : (s : Shape) (words : List Text) (asked : Option Asked) → level s words ≡ [] → asked_in (Some (s.name, rows_after s.rules [] words)) ≡ asked → Same s words asked
taken s words asked empty found = ((λ e. found), (λ some. absurd (some empty)))

pub first-empty : (a b : Kinds) → or_else a b ≡ [] → (a ≡ []) × (b ≡ [])
first-empty [] b e = (refl, e)
first-empty (k ∷ ks) b e = absurd (cc)

pub else-nothing : (a : Kinds) → or_else a [] ≡ a
else-nothing [] = refl
else-nothing (k ∷ ks) = refl

walk-refuses : (s : Shape) (words : List Text) → walk_fault s [] (walk_from nothing_held) words ≢ [] → level s words ≢ []
walk-refuses s words some e = some (first-empty (walk_fault s [] (walk_from nothing_held) words) _ e).0

refused-here : (s : Shape) (w : Walk) (word : Text) (words : List Text) (k : ErrorKind) → turn_fault s [] w word ≡ k ∷ [] → walk_fault s [] w (word ∷ words) ≢ []
unfolding walk_fault
refused-here s w word words k turn e = some-kind k (turn_fault s [] w word) turn (first-empty (turn_fault s [] w word) (walk_fault s [] (walked s.rules [] w word) words) e).0

refused-later : (s : Shape) (w v : Walk) (word : Text) (words : List Text) → walked s.rules [] w word ≡ v → walk_fault s [] v words ≢ [] → walk_fault s [] w (word ∷ words) ≢ []
unfolding walk_fault
refused-later s w v word words next some e =
    some (ap (λ (u : Walk). walk_fault s [] u words) (sym next) ∙ (first-empty (turn_fault s [] w word) (walk_fault s [] (walked s.rules [] w word) words) e).1)

-- ---- defaults

or-true : (t : Bool) → (t || true) ≡ true
or-true true = refl
or-true false = refl

same-rows : (t : Bool) (rows : List Row) → cond t rows rows ≡ rows
same-rows true rows = refl
same-rows false rows = refl

-- where no argument has a default, none is added
no-defaults : (arguments : List Rule) (rows : List Row) → list_all (λ (a : Rule). is_empty a.defaults) arguments ≡ true
    → (defaults_fault rows arguments ≡ []) × (fold with_default rows arguments ≡ rows)
unfolding defaults_fault
no-defaults [] rows e = (refl, refl)
no-defaults (a ∷ arguments) rows e =
    let parts = both (is_empty a.defaults) (list_all (λ (a : Rule). is_empty a.defaults) arguments) e in
    let here : default_fault rows a ≡ [] =
    ap (λ t. cond (has_row a.id rows || t) [] (given_default_fault a a.defaults)) parts.0 ∙ ap (λ t. cond t [] (given_default_fault a a.defaults)) (or-true (has_row a.id rows)) in
    let kept : with_default rows a ≡ rows =
    ap (λ ds. cond (has_row a.id rows) rows (default_rows a.id (reading_by a) ds rows)) (is_nil a.defaults parts.0) ∙ same-rows (has_row a.id rows) rows in
    let rest = no-defaults arguments rows parts.1 in (
      ap₂ or_else here (ap (λ rs. defaults_fault rs arguments) kept ∙ rest.0),
      ap (λ rs. fold with_default rs arguments) kept ∙ rest.1,
    )

-- ---- `run`

run-level : (words : List Text) → level shape words ≡ or_else (walk_fault shape [] (walk_from nothing_held) words) (settle_fault rules false (walk rules [] nothing_held words).held)
run-level words =
    let end = (walk rules [] nothing_held words).held in
    ap (λ d. or_else (walk_fault shape [] (walk_from nothing_held) words) (or_else (settle_fault rules false end) (or_else d [])))
    (no-defaults rules (settled rules end).rows refl).0
    ∙ ap (or_else (walk_fault shape [] (walk_from nothing_held) words)) (else-nothing (settle_fault rules false end))

run-found : (all : List Pair) (rows : List Row) → rows ≡ map row all → run_in rows ≡ (options_of None all >>= run_with)
unfolding run_in
run-found all rows e = ap run_in e ∙ ap (λ o. o >>= run_with) (options-found all)

pub run-same : (words : List Text) → list_any (λ word. bytes_eq word (codes "--")) words ≡ false → Same shape words (run_of words)
run-same words apart = by-agree (run-agrees words apart)
  where
    by-agree : Agree (or_else (walk_fault shape [] (walk_from nothing_held) words) (settle_fault rules false (walk rules [] nothing_held words).held)) (settled rules (walk rules [] nothing_held words).held).rows (run_of words)
        → Same shape words (run_of words)
    by-agree (inl found) =
        taken shape words (run_of words) (run-level words ∙ found.1)
        (run-found found.0 (rows_after rules [] words) ((no-defaults rules (settled rules (walk rules [] nothing_held words).held).rows refl).1 ∙ found.2) ∙ sym found.3)
    by-agree (inr none) = refused shape words (run_of words) (λ e. none.0 (sym (run-level words) ∙ e)) none.1

-- ---- `rebuild` and `inspect`

-- a word where no value is to come is refused
stray : (s : Shape) (position : ℕ) (rows : List Row) (pending : Option (Text × List Text)) (word : Text) (words : List Text) → stray_fault s ≡ UnknownArgument ∷ [] → arg_by_index s.rules position ≡ None
    → bytes_eq word (codes "--") ≡ false → Bare s word → walk_fault s [] (walk_at position idle rows pending) (word ∷ words) ≢ []
stray s position rows pending word words unknown none apart (inl is) =
    refused-here s (walk_at position idle rows pending) word words UnknownArgument (turn-refused s [] position idle word rows pending refl apart is.1)
stray s position rows pending word words unknown none apart (inr is) =
    refused-here s (walk_at position idle rows pending) word words UnknownArgument
    (turn-value-at s [] position word rows pending refl apart is
    ∙ (ap (λ o. option_map_or (λ a. positional_fault s.rules s.args_override_self a (held rows pending)) o (stray_fault s)) none ∙ unknown))

pub alone-same : (name : Text) (asked : Asked) (words : List Text) → list_any (λ word. bytes_eq word (codes "--")) words ≡ false
    → asked_in (Some (name, [])) ≡ Some asked → Same (leaf name []) words (alone asked words)
unfolding walk_fault defaults_fault
alone-same name asked [] apart is = taken (leaf name []) [] (Some asked) refl is
alone-same name asked (word ∷ words) apart is =
    let parts = no-dashes (bytes_eq word (codes "--")) (list_any (λ word. bytes_eq word (codes "--")) words) apart in
    refused (leaf name []) (word ∷ words) None
    (walk-refuses (leaf name []) (word ∷ words) (stray (leaf name []) 1 [] None word words refl refl parts.0 (bare-sort (leaf name []) (λ c. refl) (λ n. refl) word parts.0))) refl

-- ---- `demo`

abbrev pub demo_shape : Shape
demo_shape = leaf (codes "demo") (filled_from 1 demo_app.top.rules)

-- the row of a value
abbrev value_row : Text → Text → Row
value_row name value = record {
  id = name;
  values = value ∷ [];
  count = None;
  source = Some CommandLine;
  reading = AsWritten;
}

demo-sort : (word : Text) → bytes_eq word (codes "--") ≡ false → Bare demo_shape word
demo-sort = bare-sort demo_shape (λ c. refl) (λ n. refl)

demo-dash : (word : Text) (words : List Text) → begins_with_dash word ≡ true → demo_of (word ∷ words) ≡ None
unfolding demo_of
demo-dash word [] dash = ap (λ o. o >>= (λ count. Some (Demo count))) (no_number 1 99000 word dash)
demo-dash word (more ∷ words) dash = refl

-- a level whose walk comes to an end so
abbrev level_by : Shape → Kinds → Walk → Kinds
level_by s kinds w =
    or_else kinds (or_else (settle_fault s.rules s.args_override_self w.held) (or_else (defaults_fault (settled s.rules w.held).rows s.rules) (check_fault s (finished s.rules w.held) false)))

demo-next : (word : Text) → bytes_eq word (codes "--") ≡ false → IsValueBy demo_shape word
    → walked demo_shape.rules [] (walk_from nothing_held) word ≡ walk_at 2 idle [] (Some (codes "count", word ∷ []))
demo-next word apart is = next-value-at demo_shape 1 word [] None apart is

demo-value : (word : Text) (words : List Text) → bytes_eq word (codes "--") ≡ false → list_any (λ word. bytes_eq word (codes "--")) words ≡ false → IsValueBy demo_shape word
    → Same demo_shape (word ∷ words) (demo_of (word ∷ words))
unfolding walk_fault defaults_fault demo_of demo_in
demo-value word [] apart rest is =
    taken demo_shape (word ∷ []) (demo_of (word ∷ []))
    (ap₂ (λ k (w : Walk). level_by demo_shape (or_else k []) w) (turn-value-at demo_shape [] 1 word [] None refl apart is) (demo-next word apart is))
    (ap (λ (w : Walk). asked_in (Some (codes "demo", finished demo_shape.rules w.held))) (demo-next word apart is))
demo-value word (more ∷ words) apart rest is =
    let parts = no-dashes (bytes_eq more (codes "--")) (list_any (λ word. bytes_eq word (codes "--")) words) rest in
    refused demo_shape (word ∷ more ∷ words) None
    (walk-refuses demo_shape (word ∷ more ∷ words)
    (refused-later demo_shape (walk_from nothing_held) (walk_at 2 idle [] (Some (codes "count", word ∷ []))) word (more ∷ words) (demo-next word apart is)
    (stray demo_shape 2 [] (Some (codes "count", word ∷ [])) more words refl refl parts.0 (demo-sort more parts.0)))) refl

demo-first : (word : Text) (words : List Text) → bytes_eq word (codes "--") ≡ false → list_any (λ word. bytes_eq word (codes "--")) words ≡ false → Bare demo_shape word
    → Same demo_shape (word ∷ words) (demo_of (word ∷ words))
demo-first word words apart rest (inl is) =
    refused demo_shape (word ∷ words) (demo_of (word ∷ words))
    (walk-refuses demo_shape (word ∷ words) (refused-here demo_shape (walk_from nothing_held) word words UnknownArgument (turn-refused demo_shape [] 1 idle word [] None refl apart is.1)))
    (demo-dash word words is.0)
demo-first word words apart rest (inr is) = demo-value word words apart rest is

pub demo-same : (words : List Text) → list_any (λ word. bytes_eq word (codes "--")) words ≡ false → Same demo_shape words (demo_of words)
unfolding walk_fault defaults_fault demo_of
demo-same [] apart = refused demo_shape [] None (some-kind MissingRequiredArgument (level demo_shape []) refl) refl
demo-same (word ∷ words) apart =
    let parts = no-dashes (bytes_eq word (codes "--")) (list_any (λ word. bytes_eq word (codes "--")) words) apart in
    demo-first word words parts.0 parts.1 (demo-sort word parts.0)

-- ---- `make`

abbrev pub make_shape : Shape
make_shape = leaf (codes "make") (filled_from 1 make_app.top.rules)

make-sort : (word : Text) → bytes_eq word (codes "--") ≡ false → Bare make_shape word
make-sort = bare-sort make_shape (λ c. refl) (λ n. refl)

make-dash : (word : Text) (words : List Text) → begins_with_dash word ≡ true → make_of (word ∷ words) ≡ None
unfolding make_of
make-dash word [] dash = refl
make-dash word (seed ∷ []) dash = ap (λ o. o >>= (λ count. number_within 0 18446744073709551615 seed >>= (λ seed. Some (Make count seed)))) (no_number 1 99000 word dash)
make-dash word (seed ∷ more ∷ words) dash = refl

seed-dash : (word seed : Text) (words : List Text) → begins_with_dash seed ≡ true → make_of (word ∷ seed ∷ words) ≡ None
unfolding make_of
seed-dash word seed [] dash =
    ap (λ o. number_within 1 99000 word >>= (λ count. o >>= (λ seed. Some (Make count seed)))) (no_number 0 18446744073709551615 seed dash) ∙ then-none (number_within 1 99000 word) (λ count. None) (λ count. refl)
seed-dash word seed (more ∷ words) dash = refl

abbrev counted : Text → Walk
counted word = walk_at 2 idle [] (Some (codes "count", word ∷ []))

abbrev seeded : Text → Text → Walk
seeded word seed = walk_at 3 idle (value_row (codes "count") word ∷ []) (Some (codes "seed", seed ∷ []))

count-next : (word : Text) → bytes_eq word (codes "--") ≡ false → IsValueBy make_shape word → walked make_shape.rules [] (walk_from nothing_held) word ≡ counted word
count-next word apart is = next-value-at make_shape 1 word [] None apart is

seed-next : (word seed : Text) → bytes_eq seed (codes "--") ≡ false → IsValueBy make_shape seed → walked make_shape.rules [] (counted word) seed ≡ seeded word seed
seed-next word seed apart is = next-value-at make_shape 2 seed [] (Some (codes "count", word ∷ [])) apart is

make-both : (word seed : Text) (words : List Text) → bytes_eq word (codes "--") ≡ false → bytes_eq seed (codes "--") ≡ false → list_any (λ word. bytes_eq word (codes "--")) words ≡ false
    → IsValueBy make_shape word → IsValueBy make_shape seed → Same make_shape (word ∷ seed ∷ words) (make_of (word ∷ seed ∷ words))
unfolding walk_fault defaults_fault make_of make_in
make-both word seed [] apart far rest is also =
    let first = count-next word apart is in
    let second : walked make_shape.rules [] (walked make_shape.rules [] (walk_from nothing_held) word) seed ≡ seeded word seed = ap (λ (w : Walk). walked make_shape.rules [] w seed) first ∙ seed-next word seed far also in
    let turn : turn_fault make_shape [] (walked make_shape.rules [] (walk_from nothing_held) word) seed ≡ [] =
    ap (λ (w : Walk). turn_fault make_shape [] w seed) first ∙ turn-value-at make_shape [] 2 seed [] (Some (codes "count", word ∷ [])) refl far also in
    taken make_shape (word ∷ seed ∷ []) (make_of (word ∷ seed ∷ []))
    (λ i. level_by make_shape (or_else (turn-value-at make_shape [] 1 word [] None refl apart is i) (or_else (turn i) [])) (second i))
    (ap (λ (w : Walk). asked_in (Some (codes "make", finished make_shape.rules w.held))) second)
make-both word seed (more ∷ words) apart far rest is also =
    let parts = no-dashes (bytes_eq more (codes "--")) (list_any (λ word. bytes_eq word (codes "--")) words) rest in
    refused make_shape (word ∷ seed ∷ more ∷ words) None
    (walk-refuses make_shape (word ∷ seed ∷ more ∷ words)
    (refused-later make_shape (walk_from nothing_held) (counted word) word (seed ∷ more ∷ words) (count-next word apart is)
    (refused-later make_shape (counted word) (seeded word seed) seed (more ∷ words) (seed-next word seed far also)
    (stray make_shape 3 (value_row (codes "count") word ∷ []) (Some (codes "seed", seed ∷ [])) more words refl refl parts.0 (make-sort more parts.0))))) refl

make-seed : (word seed : Text) (words : List Text) → bytes_eq word (codes "--") ≡ false → bytes_eq seed (codes "--") ≡ false → list_any (λ word. bytes_eq word (codes "--")) words ≡ false
    → IsValueBy make_shape word → Bare make_shape seed → Same make_shape (word ∷ seed ∷ words) (make_of (word ∷ seed ∷ words))
make-seed word seed words apart far rest is (inl refusal) =
    refused make_shape (word ∷ seed ∷ words) (make_of (word ∷ seed ∷ words))
    (walk-refuses make_shape (word ∷ seed ∷ words)
    (refused-later make_shape (walk_from nothing_held) (counted word) word (seed ∷ words) (count-next word apart is)
    (refused-here make_shape (counted word) seed words UnknownArgument (turn-refused make_shape [] 2 idle seed [] (Some (codes "count", word ∷ [])) refl far refusal.1))))
    (seed-dash word seed words refusal.0)
make-seed word seed words apart far rest is (inr also) = make-both word seed words apart far rest is also

make-one : (word : Text) → bytes_eq word (codes "--") ≡ false → IsValueBy make_shape word → level make_shape (word ∷ []) ≡ MissingRequiredArgument ∷ []
unfolding walk_fault defaults_fault
make-one word apart is =
    ap₂ (λ k (w : Walk). level_by make_shape (or_else k []) w) (turn-value-at make_shape [] 1 word [] None refl apart is) (count-next word apart is)

make-value : (word : Text) (words : List Text) → bytes_eq word (codes "--") ≡ false → list_any (λ word. bytes_eq word (codes "--")) words ≡ false → IsValueBy make_shape word
    → Same make_shape (word ∷ words) (make_of (word ∷ words))
unfolding make_of
make-value word [] apart rest is = refused make_shape (word ∷ []) None (some-kind MissingRequiredArgument (level make_shape (word ∷ [])) (make-one word apart is)) refl
make-value word (seed ∷ words) apart rest is =
    let parts = no-dashes (bytes_eq seed (codes "--")) (list_any (λ word. bytes_eq word (codes "--")) words) rest in
    make-seed word seed words apart parts.0 parts.1 is (make-sort seed parts.0)

make-first : (word : Text) (words : List Text) → bytes_eq word (codes "--") ≡ false → list_any (λ word. bytes_eq word (codes "--")) words ≡ false → Bare make_shape word
    → Same make_shape (word ∷ words) (make_of (word ∷ words))
make-first word words apart rest (inl is) =
    refused make_shape (word ∷ words) (make_of (word ∷ words))
    (walk-refuses make_shape (word ∷ words) (refused-here make_shape (walk_from nothing_held) word words UnknownArgument (turn-refused make_shape [] 1 idle word [] None refl apart is.1)))
    (make-dash word words is.0)
make-first word words apart rest (inr is) = make-value word words apart rest is

pub make-same : (words : List Text) → list_any (λ word. bytes_eq word (codes "--")) words ≡ false → Same make_shape words (make_of words)
unfolding walk_fault defaults_fault make_of
make-same [] apart = refused make_shape [] None (some-kind MissingRequiredArgument (level make_shape []) refl) refl
make-same (word ∷ words) apart =
    let parts = no-dashes (bytes_eq word (codes "--")) (list_any (λ word. bytes_eq word (codes "--")) words) apart in
    make-first word words parts.0 parts.1 (make-sort word parts.0)
