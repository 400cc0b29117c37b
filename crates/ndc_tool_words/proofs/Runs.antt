-- What clap finds in the words after `run`, and what the table makes of them.
use Rattle.std.proofs.Common.{◌≡◌, ◌≢◌, ◌⊎◌, ◌∙◌, ◌||◌, ◌&&◌, ℕ, Bool, true, false, cond, is_some, List, [], ◌∷◌, ◌++◌, map, codes, Option, Some, None, inl, inr, refl, sym, ap, ap₂, subst, fold, append-nil}
use Rattle.std.proofs.lemmas.List.{map-append}
use Rattle.std.specs.List.{list_any}
use Rattle.std.specs.Str.{bytes_eq}
use Rattle.clap.specs.Kinds.{Kinds, or_else}
use Rattle.clap.specs.Lexer.{long_of}
use Rattle.clap.specs.Walk.{Held, Names, Row, Rule, Step, Text, Waiting, Walk, after_step, at_row, has_row, idle, long_or_other, more_values, nothing_held, option, plain_word, settled, subcommand_met, subcommand_or_other, trailing, used, value, walk, walk_from, walked, without, word_met}
use Rattle.clap.specs.Faults.{flag_word_fault, other_fault, settle_fault, step_fault, turn_fault, use_fault, walk_fault, word_fault}
use Rattle.clap.specs.Simple.{Shape, filled}
use Rattle.clap.specs.declared.error.kind.ErrorKind.{ErrorKind}
use Rattle.clap.specs.declared.error.kind.ErrorKind.TheVariants.{ArgumentConflict, InvalidValue, UnknownArgument}
use Rattle.clap.specs.declared.parser.matches.ValueSource.TheVariants.{CommandLine}
use Rattle.clap.proofs.OnLiterals.{clap_on_literals}
use Rattle.ndc_tool_words.specs.Reads.{◌>>=◌}
use Rattle.ndc_tool_words.specs.Names.{begins_with_dash}
use Rattle.ndc_tool_words.specs.Options.{Flag, Index, Late, Options, Workers, option_by, options_on, with_value, with_word}
use Rattle.ndc_tool_words.specs.Words.{run_of, run_with}
use Rattle.ndc_tool_words.specs.Command.{option_rule}
use Rattle.ndc_tool_words.specs.declared.words.Asked.{Asked}
use Rattle.ndc_tool_words.proofs.Dashes.{no_value}
use Rattle.ndc_tool_words.proofs.Pairs.{Pair, each, has-value, name_of, no-more, none-of-each, one-more, options_of, row, value_in}
use Rattle.ndc_tool_words.proofs.Sorts.{IsNone, IsRefusedBy, IsValueBy, Sort, alone_text, either-way, held, is_joined, is_option, is_refused, is_value, joined_text, rules, shape, sort}

abbrev rule : Flag → Rule
rule f = filled (option_rule (name_of f))

-- what is pending between two words: nothing, an option without its value, or one with it
data Pending : Type 0 where
  nothing : Pending
  awaits : Flag → Pending
  holds : Flag → Text → Pending

-- a walk before any word that ends it
abbrev pub walk_at : ℕ → Waiting → List Row → Option (Text × List Text) → Walk
walk_at position waiting rows pending = record {
  held = held rows pending;
  waiting = waiting;
  position = position;
  is_trailing = false;
  stopped = None;
}

abbrev walk_by : Waiting → List Row → Option (Text × List Text) → Walk
walk_by = walk_at 1

-- where clap's walk stands
abbrev at : List Pair → Pending → Walk
at ps nothing = walk_by idle (map row ps) None
at ps (awaits f) = walk_by (option (name_of f)) (map row ps) (Some (name_of f, []))
at ps (holds f v) = walk_by idle (map row ps) (Some (name_of f, v ∷ []))

-- where the table stands
abbrev state : List Pair → Pending → Option Options
state ps nothing = options_of None ps
state ps (awaits f) = options_of (Some f) ps
state ps (holds f v) = options_of None ps >>= with_value f v

-- what the table makes of further words
abbrev asked_on : List Text → Options → Option Asked
asked_on words options = options_on options words >>= run_with

abbrev answer : List Pair → Pending → List Text → Option Asked
answer ps p words = state ps p >>= asked_on words

-- what clap refuses of further words, and of what is then pending
abbrev faults : Walk → List Text → Kinds
faults w words = or_else (walk_fault shape [] w words) (settle_fault rules false (fold (walked rules []) w words).held)

-- the rows after further words
abbrev rows_behind : Walk → List Text → List Row
rows_behind w words = (settled rules (fold (walked rules []) w words).held).rows

-- clap finds options, and the table makes of the words what it makes of these, or both refuse
abbrev pub Agree : Kinds → List Row → Option Asked → Type 0
Agree kinds rows asked =
    ((all : List Pair) × (kinds ≡ []) × (rows ≡ map row all) × (asked ≡ (options_of None all >>= run_with)))
    ⊎ ((kinds ≢ []) × (asked ≡ None))

as-agreed : (k m : Kinds) (r s : List Row) (a b : Option Asked) → k ≡ m → r ≡ s → a ≡ b → Agree m s b → Agree k r a
as-agreed k m r s a b kinds rows asked (inl found) = inl (found.0, kinds ∙ found.1, rows ∙ found.2, asked ∙ found.3)
as-agreed k m r s a b kinds rows asked (inr none) = inr ((λ e. none.0 (sym kinds ∙ e)), asked ∙ none.1)

pub some-kind : (k : ErrorKind) (kinds : Kinds) → kinds ≡ k ∷ [] → kinds ≢ []
some-kind k kinds e none = absurd (cc)

first-kind : (k : ErrorKind) (kinds more : Kinds) → kinds ≡ k ∷ [] → or_else kinds more ≡ k ∷ []
first-kind k kinds more e = ap (λ x. or_else x more) e

-- a word that moves both on
moves : (w v : Walk) (word : Text) (words : List Text) (a b : Option Asked) → turn_fault shape [] w word ≡ [] → walked rules [] w word ≡ v → a ≡ b
    → Agree (faults v words) (rows_behind v words) b → Agree (faults w (word ∷ words)) (rows_behind w (word ∷ words)) a
unfolding walk_fault
moves w v word words a b turn next asked rest =
    as-agreed (faults w (word ∷ words)) (faults v words) (rows_behind w (word ∷ words)) (rows_behind v words) a b
    (ap₂ (λ k (u : Walk). or_else (or_else k (walk_fault shape [] u words)) (settle_fault rules false (fold (walked rules []) u words).held)) turn next)
    (ap (λ (u : Walk). rows_behind u words) next) asked rest

-- a word that both refuse
refuses : (w : Walk) (word : Text) (words : List Text) (k : ErrorKind) (a : Option Asked) → turn_fault shape [] w word ≡ k ∷ [] → a ≡ None
    → Agree (faults w (word ∷ words)) (rows_behind w (word ∷ words)) a
unfolding walk_fault
refuses w word words k a turn asked =
    inr (
      some-kind k (faults w (word ∷ words))
          (first-kind k (or_else (turn_fault shape [] w word) (walk_fault shape [] (walked rules [] w word) words)) (settle_fault rules false (fold (walked rules []) w (word ∷ words)).held)
          (first-kind k (turn_fault shape [] w word) (walk_fault shape [] (walked rules [] w word) words) turn)),
      asked,
    )

-- ---- the rows

no-row : (id : Text) (change : Row → List Row) (missing rows : List Row) → has_row id rows ≡ false → at_row id change missing rows ≡ rows ++ missing
no-row id change missing [] e = refl
no-row id change missing (r ∷ rows) e =
    go (bytes_eq r.id id) e (no-row id change missing rows)
  where
    go : (t : Bool) → (t || has_row id rows) ≡ false → (has_row id rows ≡ false → at_row id change missing rows ≡ rows ++ missing)
        → cond t (change r ++ rows) (r ∷ at_row id change missing rows) ≡ r ∷ (rows ++ missing)
    go true e rest = absurd (cc)
    go false e rest = ap (λ more. r ∷ more) (rest e)

-- a new option has its row after all others
new-row : (f : Flag) (v : Text) (ps : List Pair) → has_row (name_of f) (map row ps) ≡ false → used (rule f) (v ∷ []) (map row ps) ≡ map row (ps ++ (f, v) ∷ [])
new-row f v ps new =
    let gone : without (name_of f) (map row ps) ≡ map row ps = no-row (name_of f) (λ r. []) [] (map row ps) new ∙ append-nil (map row ps) in
    ap (at_row (name_of f) (more_values CommandLine (v ∷ [])) (row (f, v) ∷ [])) gone
    ∙ (no-row (name_of f) (more_values CommandLine (v ∷ [])) (row (f, v) ∷ []) (map row ps) new
    ∙ sym (map-append row ps ((f, v) ∷ [])))

is-new : (f : Flag) (ps : List Pair) → has_row (name_of f) (map row ps) ≡ false → value_in f ps ≡ None
is-new f ps new = go (value_in f ps) (sym (has-value f ps) ∙ new)
  where
    go : (o : Option Text) → is_some o ≡ false → o ≡ None
    go None e = refl
    go (Some v) e = absurd (cc)

is-old : (f : Flag) (ps : List Pair) → has_row (name_of f) (map row ps) ≡ true → (v : Text) × (value_in f ps ≡ Some v)
is-old f ps old = go (value_in f ps) (sym (has-value f ps) ∙ old)
  where
    go : (o : Option Text) → is_some o ≡ true → (v : Text) × (o ≡ Some v)
    go None e = absurd (cc)
    go (Some v) e = (v, refl)

-- ---- the table

assoc : {A B C : Type 0} (o : Option A) (f : A → Option B) (g : B → Option C) → ((o >>= f) >>= g) ≡ (o >>= (λ a. f a >>= g))
assoc None f g = refl
assoc (Some a) f g = refl

table-option : (f : Flag) (ps : List Pair) (words : List Text) → answer ps nothing (alone_text f ∷ words) ≡ answer ps (awaits f) words
unfolding with_word
table-option Workers ps words = each None (Some Workers) ps (asked_on (alone_text Workers ∷ words)) (asked_on words) (λ x y z. refl)
table-option Index ps words = each None (Some Index) ps (asked_on (alone_text Index ∷ words)) (asked_on words) (λ x y z. refl)
table-option Late ps words = each None (Some Late) ps (asked_on (alone_text Late ∷ words)) (asked_on words) (λ x y z. refl)

table-joined : (f : Flag) (v : Text) (ps : List Pair) (words : List Text) → answer ps nothing ((joined_text f ++ v) ∷ words) ≡ answer ps (holds f v) words
unfolding with_word
table-joined Workers v ps words =
    each None None ps (asked_on ((joined_text Workers ++ v) ∷ words)) (λ o. with_value Workers v o >>= asked_on words) (λ x y z. assoc (with_value Workers v (record { workers = x; index = y; late = z; awaited = None })) (λ more. options_on more words) run_with)
    ∙ sym (assoc (options_of None ps) (with_value Workers v) (asked_on words))
table-joined Index v ps words =
    each None None ps (asked_on ((joined_text Index ++ v) ∷ words)) (λ o. with_value Index v o >>= asked_on words) (λ x y z. assoc (with_value Index v (record { workers = x; index = y; late = z; awaited = None })) (λ more. options_on more words) run_with)
    ∙ sym (assoc (options_of None ps) (with_value Index v) (asked_on words))
table-joined Late v ps words =
    each None None ps (asked_on ((joined_text Late ++ v) ∷ words)) (λ o. with_value Late v o >>= asked_on words) (λ x y z. assoc (with_value Late v (record { workers = x; index = y; late = z; awaited = None })) (λ more. options_on more words) run_with)
    ∙ sym (assoc (options_of None ps) (with_value Late v) (asked_on words))

any-awaited : (f : Flag) (v : Text) (x : Option ℕ) (y z : Option (List (List ℕ)))
    → with_value f v (record { workers = x; index = y; late = z; awaited = Some f }) ≡ with_value f v (record { workers = x; index = y; late = z; awaited = None })
unfolding with_value
any-awaited Workers v x y z = refl
any-awaited Index v x y z = refl
any-awaited Late v x y z = refl

table-value : (f : Flag) (word : Text) (ps : List Pair) (words : List Text) → answer ps (awaits f) (word ∷ words) ≡ answer ps (holds f word) words
unfolding with_word
table-value f word ps words =
    each (Some f) None ps (asked_on (word ∷ words)) (λ o. with_value f word o >>= asked_on words) (λ x y z.
    assoc (with_value f word (record { workers = x; index = y; late = z; awaited = Some f })) (λ more. options_on more words) run_with
    ∙ ap (λ o. o >>= asked_on words) (any-awaited f word x y z))
    ∙ sym (assoc (options_of None ps) (with_value f word) (asked_on words))

table-dash : (f : Flag) (word : Text) (ps : List Pair) (words : List Text) → begins_with_dash word ≡ true → answer ps (awaits f) (word ∷ words) ≡ None
table-dash f word ps words dash =
    table-value f word ps words
    ∙ ap (λ o. o >>= asked_on words) (none-of-each None ps (with_value f word) (λ x y z. no_value f word (record { workers = x; index = y; late = z; awaited = None }) dash))

table-none : (word : Text) (ps : List Pair) (words : List Text) → IsNone word → answer ps nothing (word ∷ words) ≡ None
unfolding with_word
table-none word ps words none =
    none-of-each None ps (asked_on (word ∷ words)) (λ x y z.
    λ i. (option_by (none.0 i) (none.1 i) (record { workers = x; index = y; late = z; awaited = None }) >>= (λ more. options_on more words)) >>= run_with)

-- a value that is held is one option more
table-new : (f : Flag) (v : Text) (ps : List Pair) (words : List Text) → has_row (name_of f) (map row ps) ≡ false → answer ps (holds f v) words ≡ answer (ps ++ (f, v) ∷ []) nothing words
table-new f v ps words new = ap (λ o. o >>= asked_on words) (one-more f v ps (is-new f ps new))

table-old : (f : Flag) (v : Text) (ps : List Pair) (words : List Text) → has_row (name_of f) (map row ps) ≡ true → answer ps (holds f v) words ≡ None
table-old f v ps words old =
    let first = is-old f ps old in
    ap (λ o. o >>= asked_on words) (no-more f v first.0 ps first.1)

-- ---- clap's walk

-- an option, or an option and its value, where nothing waits for a value
turn-option : (f : Flag) (rows : List Row) (pending : Option (Text × List Text)) → turn_fault shape [] (walk_by idle rows pending) (alone_text f) ≡ or_else (settle_fault rules false (held rows pending)) []
unfolding clap_on_literals
turn-option Workers rows pending = refl
turn-option Index rows pending = refl
turn-option Late rows pending = refl

next-option : (f : Flag) (rows : List Row) (pending : Option (Text × List Text))
    → walked rules [] (walk_by idle rows pending) (alone_text f) ≡ walk_by (option (name_of f)) (settled rules (held rows pending)).rows (Some (name_of f, []))
unfolding clap_on_literals
next-option Workers rows pending = refl
next-option Index rows pending = refl
next-option Late rows pending = refl

turn-joined : (f : Flag) (v : Text) (rows : List Row) (pending : Option (Text × List Text))
    → turn_fault shape [] (walk_by idle rows pending) (joined_text f ++ v)
    ≡ or_else (or_else (settle_fault rules false (held rows pending)) (use_fault false (rule f) (v ∷ []) (settled rules (held rows pending)).rows)) []
unfolding clap_on_literals
turn-joined Workers v rows pending = refl
turn-joined Index v rows pending = refl
turn-joined Late v rows pending = refl

next-joined : (f : Flag) (v : Text) (rows : List Row) (pending : Option (Text × List Text))
    → walked rules [] (walk_by idle rows pending) (joined_text f ++ v) ≡ walk_by idle (used (rule f) (v ∷ []) (settled rules (held rows pending)).rows) None
unfolding clap_on_literals
next-joined Workers v rows pending = refl
next-joined Index v rows pending = refl
next-joined Late v rows pending = refl

-- and where an option waits for its value
awaits-option : (g f : Flag) (rows : List Row) → turn_fault shape [] (walk_by (option (name_of g)) rows (Some (name_of g, []))) (alone_text f) ≡ InvalidValue ∷ []
unfolding clap_on_literals
awaits-option Workers Workers rows = refl
awaits-option Workers Index rows = refl
awaits-option Workers Late rows = refl
awaits-option Index Workers rows = refl
awaits-option Index Index rows = refl
awaits-option Index Late rows = refl
awaits-option Late Workers rows = refl
awaits-option Late Index rows = refl
awaits-option Late Late rows = refl

awaits-joined : (g f : Flag) (v : Text) (rows : List Row) → turn_fault shape [] (walk_by (option (name_of g)) rows (Some (name_of g, []))) (joined_text f ++ v) ≡ InvalidValue ∷ []
unfolding clap_on_literals
awaits-joined Workers Workers v rows = refl
awaits-joined Workers Index v rows = refl
awaits-joined Workers Late v rows = refl
awaits-joined Index Workers v rows = refl
awaits-joined Index Index v rows = refl
awaits-joined Index Late v rows = refl
awaits-joined Late Workers v rows = refl
awaits-joined Late Index v rows = refl
awaits-joined Late Late v rows = refl

-- what is pending is used
use-new : (f : Flag) (v : Text) (rows : List Row) → has_row (name_of f) rows ≡ false → use_fault false (rule f) (v ∷ []) rows ≡ []
use-new f v rows new = ap (λ t. or_else (cond (t && true) (ArgumentConflict ∷ []) []) []) new

use-old : (f : Flag) (v : Text) (rows : List Row) → has_row (name_of f) rows ≡ true → use_fault false (rule f) (v ∷ []) rows ≡ ArgumentConflict ∷ []
use-old f v rows old = ap (λ t. or_else (cond (t && true) (ArgumentConflict ∷ []) []) []) old

settle-holds : (f : Flag) (v : Text) (rows : List Row) → settle_fault rules false (held rows (Some (name_of f, v ∷ []))) ≡ use_fault false (rule f) (v ∷ []) rows
settle-holds Workers v rows = refl
settle-holds Index v rows = refl
settle-holds Late v rows = refl

settle-awaits : (f : Flag) (rows : List Row) → settle_fault rules false (held rows (Some (name_of f, []))) ≡ InvalidValue ∷ []
settle-awaits Workers rows = refl
settle-awaits Index rows = refl
settle-awaits Late rows = refl

settled-holds : (f : Flag) (v : Text) (rows : List Row) → (settled rules (held rows (Some (name_of f, v ∷ [])))).rows ≡ used (rule f) (v ∷ []) rows
settled-holds Workers v rows = refl
settled-holds Index v rows = refl
settled-holds Late v rows = refl

-- a word that clap refuses
pub turn-refused : (s : Shape) (names : Names) (position : ℕ) (waiting : Waiting) (word : Text) (rows : List Row) (pending : Option (Text × List Text))
    → subcommand_met names waiting word ≡ None → bytes_eq word (codes "--") ≡ false → IsRefusedBy s word → turn_fault s names (walk_at position waiting rows pending) word ≡ UnknownArgument ∷ []
turn-refused s names position waiting word rows pending none apart refused =
    first-kind UnknownArgument (word_fault s names false waiting word (held rows pending))
    (step_fault s position (word_met s.rules names false waiting position word (held rows pending)).0 (word_met s.rules names false waiting position word (held rows pending)).1)
    (ap (λ o. other_fault s o word (held rows pending)) none ∙ (ap (λ t. cond t [] (flag_word_fault s.rules s.args_override_self (long_of word) word (held rows pending))) apart ∙ refused rows pending))

-- a word that is not an option
value-fault : (s : Shape) (names : Names) (waiting : Waiting) (word : Text) (rows : List Row) (pending : Option (Text × List Text)) → subcommand_met names waiting word ≡ None
    → bytes_eq word (codes "--") ≡ false → IsValueBy s word → word_fault s names false waiting word (held rows pending) ≡ []
value-fault s names waiting word rows pending none apart is =
    ap (λ o. other_fault s o word (held rows pending)) none
    ∙ (ap (λ t. cond t [] (flag_word_fault s.rules s.args_override_self (long_of word) word (held rows pending))) apart ∙ (is waiting rows pending).0)

value-met : (s : Shape) (names : Names) (position : ℕ) (waiting : Waiting) (word : Text) (rows : List Row) (pending : Option (Text × List Text)) → subcommand_met names waiting word ≡ None
    → bytes_eq word (codes "--") ≡ false → IsValueBy s word → word_met s.rules names false waiting position word (held rows pending) ≡ plain_word s.rules waiting word (held rows pending)
value-met s names position waiting word rows pending none apart is =
    ap (λ o. subcommand_or_other s.rules o waiting position word (held rows pending)) none
    ∙ (ap (λ t. cond t (held rows pending, trailing position) (long_or_other s.rules waiting word (long_of word) (held rows pending))) apart ∙ (is waiting rows pending).1)

-- it goes to the value that is at its place, where nothing waits for it
pub turn-value-at : (s : Shape) (names : Names) (position : ℕ) (word : Text) (rows : List Row) (pending : Option (Text × List Text)) → subcommand_met names idle word ≡ None
    → bytes_eq word (codes "--") ≡ false → IsValueBy s word → turn_fault s names (walk_at position idle rows pending) word ≡ step_fault s position (held rows pending) value
turn-value-at s names position word rows pending none apart is =
    ap₂ (λ k (met : Held × Step). or_else k (step_fault s position met.0 met.1)) (value-fault s names idle word rows pending none apart is) (value-met s names position idle word rows pending none apart is)

pub next-value-at : (s : Shape) (position : ℕ) (word : Text) (rows : List Row) (pending : Option (Text × List Text)) → bytes_eq word (codes "--") ≡ false → IsValueBy s word
    → walked s.rules [] (walk_at position idle rows pending) word ≡ after_step s.rules word (walk_at position idle rows pending) (held rows pending) value
unfolding walked
next-value-at s position word rows pending apart is =
    ap (λ (met : Held × Step). after_step s.rules word (walk_at position idle rows pending) met.0 met.1) (value-met s [] position idle word rows pending refl apart is)

turn-value : (f : Flag) (word : Text) (rows : List Row) → bytes_eq word (codes "--") ≡ false → IsValueBy shape word
    → turn_fault shape [] (walk_by (option (name_of f)) rows (Some (name_of f, []))) word ≡ []
turn-value f word rows apart is =
    ap₂ (λ k (met : Held × Step). or_else k (step_fault shape 1 met.0 met.1))
    (value-fault shape [] (option (name_of f)) word rows (Some (name_of f, [])) refl apart is)
    (value-met shape [] 1 (option (name_of f)) word rows (Some (name_of f, [])) refl apart is)

next-value : (f : Flag) (word : Text) (rows : List Row) → bytes_eq word (codes "--") ≡ false → IsValueBy shape word
    → walked rules [] (walk_by (option (name_of f)) rows (Some (name_of f, []))) word ≡ walk_by idle rows (Some (name_of f, word ∷ []))
unfolding walked
next-value f word rows apart is =
    ap (λ (met : Held × Step). after_step rules word (walk_by (option (name_of f)) rows (Some (name_of f, []))) met.0 met.1)
    (value-met shape [] 1 (option (name_of f)) word rows (Some (name_of f, [])) refl apart is)
    ∙ go f
  where
    go : (f : Flag) → after_step rules word (walk_by (option (name_of f)) rows (Some (name_of f, []))) (plain_word rules (option (name_of f)) word (held rows (Some (name_of f, [])))).0 (plain_word rules (option (name_of f)) word (held rows (Some (name_of f, [])))).1
        ≡ walk_by idle rows (Some (name_of f, word ∷ []))
    go Workers = refl
    go Index = refl
    go Late = refl

-- ---- word by word

abbrev Rest : List Text → Type 0
Rest words = (ps : List Pair) (p : Pending) → Agree (faults (at ps p) words) (rows_behind (at ps p) words) (answer ps p words)

abbrev Goal : Text → List Text → List Pair → Pending → Type 0
Goal word words ps p = Agree (faults (at ps p) (word ∷ words)) (rows_behind (at ps p) (word ∷ words)) (answer ps p (word ∷ words))

at-option : (f : Flag) (words : List Text) (ps : List Pair) (p : Pending) → Rest words → Goal (alone_text f) words ps p
at-option f words ps nothing rest =
    moves (at ps nothing) (at ps (awaits f)) (alone_text f) words _ _ (turn-option f (map row ps) None) (next-option f (map row ps) None) (table-option f ps words) (rest ps (awaits f))
at-option f words ps (awaits g) rest =
    refuses (at ps (awaits g)) (alone_text f) words InvalidValue _ (awaits-option g f (map row ps)) (table-dash g (alone_text f) ps words (dashed f))
  where
    dashed : (f : Flag) → begins_with_dash (alone_text f) ≡ true
    dashed Workers = refl
    dashed Index = refl
    dashed Late = refl
at-option f words ps (holds g v) rest =
    either-way (has_row (name_of g) (map row ps))
    (λ old. refuses (at ps (holds g v)) (alone_text f) words ArgumentConflict _
    (turn-option f (map row ps) (Some (name_of g, v ∷ [])) ∙ ap (λ k. or_else k []) (settle-holds g v (map row ps) ∙ use-old g v (map row ps) old))
    (table-old g v ps (alone_text f ∷ words) old))
    (λ new. moves (at ps (holds g v)) (at (ps ++ (g, v) ∷ []) (awaits f)) (alone_text f) words _ _
    (turn-option f (map row ps) (Some (name_of g, v ∷ [])) ∙ ap (λ k. or_else k []) (settle-holds g v (map row ps) ∙ use-new g v (map row ps) new))
    (next-option f (map row ps) (Some (name_of g, v ∷ [])) ∙ ap (λ rows. walk_by (option (name_of f)) rows (Some (name_of f, []))) (settled-holds g v (map row ps) ∙ new-row g v ps new))
    (table-new g v ps (alone_text f ∷ words) new ∙ table-option f (ps ++ (g, v) ∷ []) words)
    (rest (ps ++ (g, v) ∷ []) (awaits f)))

-- an option and its value, where the rows are those of these options and nothing is left to be used
joined-at : (w : Walk) (f : Flag) (v : Text) (words : List Text) (ps : List Pair) (a : Option Asked) → Rest words
    → turn_fault shape [] w (joined_text f ++ v) ≡ or_else (use_fault false (rule f) (v ∷ []) (map row ps)) []
    → walked rules [] w (joined_text f ++ v) ≡ walk_by idle (used (rule f) (v ∷ []) (map row ps)) None
    → a ≡ answer ps (holds f v) words
    → Agree (faults w ((joined_text f ++ v) ∷ words)) (rows_behind w ((joined_text f ++ v) ∷ words)) a
joined-at w f v words ps a rest turn next asked =
    either-way (has_row (name_of f) (map row ps))
    (λ old. refuses w (joined_text f ++ v) words ArgumentConflict a (turn ∙ ap (λ k. or_else k []) (use-old f v (map row ps) old)) (asked ∙ table-old f v ps words old))
    (λ new. moves w (at (ps ++ (f, v) ∷ []) nothing) (joined_text f ++ v) words a _ (turn ∙ ap (λ k. or_else k []) (use-new f v (map row ps) new))
    (next ∙ ap (λ rows. walk_by idle rows None) (new-row f v ps new)) (asked ∙ table-new f v ps words new) (rest (ps ++ (f, v) ∷ []) nothing))

at-joined : (f : Flag) (v : Text) (words : List Text) (ps : List Pair) (p : Pending) → Rest words → Goal (joined_text f ++ v) words ps p
at-joined f v words ps nothing rest =
    joined-at (at ps nothing) f v words ps _ rest (turn-joined f v (map row ps) None) (next-joined f v (map row ps) None) (table-joined f v ps words)
at-joined f v words ps (awaits g) rest =
    refuses (at ps (awaits g)) (joined_text f ++ v) words InvalidValue _ (awaits-joined g f v (map row ps)) (table-dash g (joined_text f ++ v) ps words (dashed f))
  where
    dashed : (f : Flag) → begins_with_dash (joined_text f ++ v) ≡ true
    dashed Workers = refl
    dashed Index = refl
    dashed Late = refl
at-joined f v words ps (holds g u) rest =
    either-way (has_row (name_of g) (map row ps))
    (λ old. refuses (at ps (holds g u)) (joined_text f ++ v) words ArgumentConflict _
    (turn-joined f v (map row ps) (Some (name_of g, u ∷ []))
    ∙ ap (λ k. or_else (or_else k (use_fault false (rule f) (v ∷ []) (settled rules (held (map row ps) (Some (name_of g, u ∷ [])))).rows)) []) (settle-holds g u (map row ps) ∙ use-old g u (map row ps) old))
    (table-old g u ps ((joined_text f ++ v) ∷ words) old))
    (λ new.
    let rows : (settled rules (held (map row ps) (Some (name_of g, u ∷ [])))).rows ≡ map row (ps ++ (g, u) ∷ []) = settled-holds g u (map row ps) ∙ new-row g u ps new in
    joined-at (at ps (holds g u)) f v words (ps ++ (g, u) ∷ []) _ rest
    (turn-joined f v (map row ps) (Some (name_of g, u ∷ []))
    ∙ ap₂ (λ k (rs : List Row). or_else (or_else k (use_fault false (rule f) (v ∷ []) rs)) []) (settle-holds g u (map row ps) ∙ use-new g u (map row ps) new) rows)
    (next-joined f v (map row ps) (Some (name_of g, u ∷ [])) ∙ ap (λ (rs : List Row). walk_by idle (used (rule f) (v ∷ []) rs) None) rows)
    (table-new g u ps ((joined_text f ++ v) ∷ words) new ∙ table-joined f v (ps ++ (g, u) ∷ []) words))

-- a word that is not an option, where nothing waits for a value, is none to the table
table-stray : (word : Text) (f : Flag) (v : Text) (ps : List Pair) (words : List Text) → IsNone word → answer ps (holds f v) (word ∷ words) ≡ None
table-stray word f v ps words none =
    either-way (has_row (name_of f) (map row ps))
    (λ old. table-old f v ps (word ∷ words) old)
    (λ new. table-new f v ps (word ∷ words) new ∙ table-none word (ps ++ (f, v) ∷ []) words none)

at-refused : (word : Text) (words : List Text) (ps : List Pair) (p : Pending) → bytes_eq word (codes "--") ≡ false → IsNone word → begins_with_dash word ≡ true → IsRefusedBy shape word → Goal word words ps p
at-refused word words ps nothing apart none dash refused =
    refuses (at ps nothing) word words UnknownArgument _ (turn-refused shape [] 1 idle word (map row ps) None refl apart refused) (table-none word ps words none)
at-refused word words ps (awaits f) apart none dash refused =
    refuses (at ps (awaits f)) word words UnknownArgument _ (turn-refused shape [] 1 (option (name_of f)) word (map row ps) (Some (name_of f, [])) refl apart refused) (table-dash f word ps words dash)
at-refused word words ps (holds f v) apart none dash refused =
    refuses (at ps (holds f v)) word words UnknownArgument _ (turn-refused shape [] 1 idle word (map row ps) (Some (name_of f, v ∷ [])) refl apart refused) (table-stray word f v ps words none)

at-value : (word : Text) (words : List Text) (ps : List Pair) (p : Pending) → bytes_eq word (codes "--") ≡ false → IsNone word → IsValueBy shape word → Rest words → Goal word words ps p
at-value word words ps nothing apart none is rest =
    refuses (at ps nothing) word words UnknownArgument _ (turn-value-at shape [] 1 word (map row ps) None refl apart is) (table-none word ps words none)
at-value word words ps (awaits f) apart none is rest =
    moves (at ps (awaits f)) (at ps (holds f word)) word words _ _ (turn-value f word (map row ps) apart is) (next-value f word (map row ps) apart is) (table-value f word ps words) (rest ps (holds f word))
at-value word words ps (holds f v) apart none is rest =
    refuses (at ps (holds f v)) word words UnknownArgument _ (turn-value-at shape [] 1 word (map row ps) (Some (name_of f, v ∷ [])) refl apart is) (table-stray word f v ps words none)

at-word : (word : Text) (words : List Text) (ps : List Pair) (p : Pending) → bytes_eq word (codes "--") ≡ false → Rest words → Sort word → Goal word words ps p
at-word word words ps p apart rest (is_option f e) = subst (λ w. Goal w words ps p) (sym e) (at-option f words ps p rest)
at-word word words ps p apart rest (is_joined f v e) = subst (λ w. Goal w words ps p) (sym e) (at-joined f v words ps p rest)
at-word word words ps p apart rest (is_refused none dash refused) = at-refused word words ps p apart none dash refused
at-word word words ps p apart rest (is_value none is) = at-value word words ps p apart none is rest

at-end : Rest []
unfolding walk_fault
at-end ps nothing = inl (ps, refl, refl, refl)
at-end ps (awaits f) = inr (some-kind InvalidValue (faults (at ps (awaits f)) []) (settle-awaits f (map row ps)), none-of-each (Some f) ps (asked_on []) (λ x y z. refl))
at-end ps (holds f v) =
    either-way (has_row (name_of f) (map row ps))
    (λ old. inr (some-kind ArgumentConflict (faults (at ps (holds f v)) []) (settle-holds f v (map row ps) ∙ use-old f v (map row ps) old), table-old f v ps [] old))
    (λ new. inl (ps ++ (f, v) ∷ [], settle-holds f v (map row ps) ∙ use-new f v (map row ps) new, settled-holds f v (map row ps) ∙ new-row f v ps new, table-new f v ps [] new))

pub no-dashes : (a b : Bool) → (a || b) ≡ false → (a ≡ false) × (b ≡ false)
no-dashes true b e = absurd (cc)
no-dashes false b e = (refl, e)

agree : (words : List Text) → list_any (λ word. bytes_eq word (codes "--")) words ≡ false → Rest words
agree [] apart = at-end
agree (word ∷ words) apart =
    let parts = no-dashes (bytes_eq word (codes "--")) (list_any (λ word. bytes_eq word (codes "--")) words) apart in
    λ ps p. at-word word words ps p parts.0 (agree words parts.1) (sort word parts.0)

-- clap and the table agree on all words after `run`
pub run-agrees : (words : List Text) → list_any (λ word. bytes_eq word (codes "--")) words ≡ false
    → Agree (or_else (walk_fault shape [] (walk_from nothing_held) words) (settle_fault rules false (walk rules [] nothing_held words).held)) (settled rules (walk rules [] nothing_held words).held).rows (run_of words)
unfolding run_of
run-agrees words apart = agree words apart [] nothing
