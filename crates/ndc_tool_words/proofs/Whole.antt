-- What clap finds in all words, and what the table makes of them.
use Rattle.std.proofs.Common.{◌≡◌, ◌≢◌, ◌∙◌, true, false, cond, is_some, List, [], ◌∷◌, codes, Option, Some, None, option_map, inl, inr, refl, sym, ap, ap₂, subst, fold, find, true≢false}
use Rattle.std.specs.List.{list_any}
use Rattle.std.specs.Option.{option_map_or}
use Rattle.std.specs.Str.{bytes_eq}
use Rattle.std.proofs.lemmas.Slice.Eq.{bytes_eq-Decides}
use Rattle.clap.specs.Kinds.{Kinds, or_else}
use Rattle.clap.specs.Walk.{Held, Names, Text, Walk, answers_to, finished, idle, nothing_held, rows_after, settled, subcommand_met, walk, walk_from, walked}
use Rattle.clap.specs.Faults.{check_fault, defaults_fault, entered_fault, fault_of, settle_fault, turn_fault, walk_fault}
use Rattle.clap.specs.Simple.{App, Shape, built, entered, label_of, names_of, rows_at, subcommand_of}
use Rattle.clap.specs.declared.error.kind.ErrorKind.{ErrorKind}
use Rattle.clap.specs.declared.error.kind.ErrorKind.TheVariants.{InvalidSubcommand, MissingSubcommand, UnknownArgument}
use Rattle.clap.proofs.FaultLemmas.{stopped_fault}
use Rattle.clap.proofs.OnLiterals.{clap_on_literals}
use Rattle.clap.proofs.WalkLemmas.{walk_stopped}
use Rattle.ndc_tool_words.specs.Command.{whole_app}
use Rattle.ndc_tool_words.specs.Found.{asked_in}
use Rattle.ndc_tool_words.specs.Words.{alone, asked_of, demo_of, make_of, run_of}
use Rattle.ndc_tool_words.specs.declared.words.Asked.{Asked}
use Rattle.ndc_tool_words.specs.declared.words.Asked.TheVariants.{Rebuild, Inspect}
use Rattle.ndc_tool_words.proofs.Sorts.{Bare, bare-sort, either-way, same_text, shape}
use Rattle.ndc_tool_words.proofs.Runs.{no-dashes, some-kind, turn-refused, turn-value-at}
use Rattle.ndc_tool_words.proofs.Levels.{Same, alone-same, demo-same, demo_shape, else-nothing, first-empty, leaf, level, make-same, make_shape, run-same}

-- the whole command, once it is built
abbrev ready : App
ready = built whole_app

abbrev names : Names
names = names_of ready

abbrev start : Walk
start = walk_from nothing_held

-- clap takes what the table takes, and finds what the table reads
abbrev pub WordsAgree : List Text → Type 0
WordsAgree words =
    (fault_of whole_app words ≡ [] → asked_in (subcommand_of whole_app words) ≡ asked_of words)
    × (fault_of whole_app words ≢ [] → asked_of words ≡ None)

-- what is refused of the words, by the subcommand that they come to, what is refused up to there, and what is held there
abbrev whole_by : Option (Text × List Text) → Kinds → Held → Kinds
whole_by stop kinds end =
    or_else kinds (or_else (entered_fault ready stop) (or_else (settle_fault ready.top.rules ready.top.args_override_self end)
    (or_else (defaults_fault (settled ready.top.rules end).rows ready.top.rules) (check_fault ready.top (finished ready.top.rules end) (is_some (entered ready stop))))))

module _ (verb : Text) (words : List Text) (s : Shape) (turn : turn_fault ready.top names start verb ≡ []) (next : walked ready.top.rules names start verb ≡ record start { stopped = Some (verb, []) })
    (found : find (λ (x : Shape). answers_to verb (label_of x)) ready.subs ≡ Some s) where
  walk-is : walk ready.top.rules names nothing_held (verb ∷ words) ≡ record start { stopped = Some (verb, words) }
  walk-is = ap (λ (w : Walk). fold (walked ready.top.rules names) w words) next ∙ sym (walk_stopped ready.top.rules names start verb [] words)

  none-before : walk_fault ready.top names start (verb ∷ words) ≡ []
  unfolding walk_fault
  none-before = ap₂ (λ k (w : Walk). or_else k (walk_fault ready.top names w words)) turn next ∙ stopped_fault ready.top names start (verb, []) words

  fault-is : fault_of whole_app (verb ∷ words) ≡ level s words
  unfolding defaults_fault
  fault-is =
      ap₂ (λ k (w : Walk). whole_by w.stopped k w.held) none-before walk-is
      ∙ (ap (λ o. or_else (option_map_or (λ (x : Shape). level x words) o []) (check_fault ready.top [] (is_some (option_map (λ (x : Shape). rows_at x words) o)))) found
      ∙ else-nothing (level s words))

  subcommand-is : subcommand_of whole_app (verb ∷ words) ≡ Some (s.name, rows_after s.rules [] words)
  subcommand-is = ap (λ (w : Walk). entered ready w.stopped) walk-is ∙ ap (option_map (λ (x : Shape). rows_at x words)) found

  verb-agrees : (asked : Option Asked) → Same s words asked → asked_of (verb ∷ words) ≡ asked → WordsAgree (verb ∷ words)
  verb-agrees asked same is = (
    (λ e. ap asked_in subcommand-is ∙ (same.0 (sym fault-is ∙ e) ∙ sym is)),
    (λ some. is ∙ same.1 (λ e. some (fault-is ∙ e))),
  )

run-agrees : (words : List Text) → Same shape words (run_of words) → WordsAgree (codes "run" ∷ words)
unfolding clap_on_literals
run-agrees words same = verb-agrees (codes "run") words shape refl refl refl (run_of words) same refl

rebuild-agrees : (words : List Text) → Same (leaf (codes "rebuild") []) words (alone Rebuild words) → WordsAgree (codes "rebuild" ∷ words)
unfolding clap_on_literals
rebuild-agrees words same = verb-agrees (codes "rebuild") words (leaf (codes "rebuild") []) refl refl refl (alone Rebuild words) same refl

inspect-agrees : (words : List Text) → Same (leaf (codes "inspect") []) words (alone Inspect words) → WordsAgree (codes "inspect" ∷ words)
unfolding clap_on_literals
inspect-agrees words same = verb-agrees (codes "inspect") words (leaf (codes "inspect") []) refl refl refl (alone Inspect words) same refl

make-agrees : (words : List Text) → Same make_shape words (make_of words) → WordsAgree (codes "make" ∷ words)
unfolding clap_on_literals
make-agrees words same = verb-agrees (codes "make") words make_shape refl refl refl (make_of words) same refl

demo-agrees : (words : List Text) → Same demo_shape words (demo_of words) → WordsAgree (codes "demo" ∷ words)
unfolding clap_on_literals
demo-agrees words same = verb-agrees (codes "demo") words demo_shape refl refl refl (demo_of words) same refl

-- ---- another word

record IsOther (verb : Text) : Type 0 where
  not-run : bytes_eq verb (codes "run") ≡ false
  not-rebuild : bytes_eq verb (codes "rebuild") ≡ false
  not-inspect : bytes_eq verb (codes "inspect") ≡ false
  not-make : bytes_eq verb (codes "make") ≡ false
  not-demo : bytes_eq verb (codes "demo") ≡ false

turned : (one two : Text) → bytes_eq one two ≡ false → bytes_eq two one ≡ false
turned one two e = either-way (bytes_eq two one) (λ same. absurd (true≢false (sym ((bytes_eq-Decides one two).1 (sym (same_text two one same))) ∙ e))) (λ other. other)

not-met : (verb : Text) → IsOther verb → subcommand_met names idle verb ≡ None
not-met verb other =
    let a = turned verb (codes "run") other.not-run in
    let b = turned verb (codes "rebuild") other.not-rebuild in
    let c = turned verb (codes "inspect") other.not-inspect in
    let d = turned verb (codes "make") other.not-make in
    let f = turned verb (codes "demo") other.not-demo in
    rw (a, b, c, d, f) refl

none-asked : (verb : Text) (words : List Text) → IsOther verb → asked_of (verb ∷ words) ≡ None
none-asked verb words other =
    λ i. cond (other.not-run i) (run_of words) (cond (other.not-rebuild i) (alone Rebuild words) (cond (other.not-inspect i) (alone Inspect words) (cond (other.not-make i) (make_of words) (cond (other.not-demo i) (demo_of words) None))))

first-refused : (verb : Text) (words : List Text) (k : ErrorKind) (kinds : Kinds) → turn_fault ready.top names start verb ≡ k ∷ kinds → fault_of whole_app (verb ∷ words) ≢ []
unfolding walk_fault
first-refused verb words k kinds turn e =
    let walked-none = (first-empty (walk_fault ready.top names start (verb ∷ words)) _ e).0 in
    let turn-none = (first-empty (turn_fault ready.top names start verb) (walk_fault ready.top names (walked ready.top.rules names start verb) words) walked-none).0 in
    absurd (cc)

other-agrees : (verb : Text) (words : List Text) → IsOther verb → bytes_eq verb (codes "--") ≡ false → Bare ready.top verb → WordsAgree (verb ∷ words)
other-agrees verb words other apart (inl refusal) = (
  (λ e. absurd (first-refused verb words UnknownArgument [] (turn-refused ready.top names 1 idle verb [] None (not-met verb other) apart refusal.1) e)),
  (λ some. none-asked verb words other),
)
other-agrees verb words other apart (inr is) = (
  (λ e. absurd (first-refused verb words UnknownArgument (InvalidSubcommand ∷ []) (turn-value-at ready.top names 1 verb [] None (not-met verb other) apart is) e)),
  (λ some. none-asked verb words other),
)

none-agree : WordsAgree []
unfolding clap_on_literals
none-agree = ((λ e. absurd (some-kind MissingSubcommand (fault_of whole_app []) refl e)), (λ some. refl))

-- clap and the table agree on all words without `--`
pub words-agree : (words : List Text) → list_any (λ word. bytes_eq word (codes "--")) words ≡ false → WordsAgree words
words-agree [] apart = none-agree
words-agree (verb ∷ words) apart =
    let parts = no-dashes (bytes_eq verb (codes "--")) (list_any (λ word. bytes_eq word (codes "--")) words) apart in
    let named = λ (name : Text) (e : bytes_eq verb name ≡ true) (agrees : WordsAgree (name ∷ words)). subst (λ v. WordsAgree (v ∷ words)) (sym (same_text verb name e)) agrees in
    either-way (bytes_eq verb (codes "run")) (λ e. named (codes "run") e (run-agrees words (run-same words parts.1))) (λ a.
    either-way (bytes_eq verb (codes "rebuild")) (λ e. named (codes "rebuild") e (rebuild-agrees words (alone-same (codes "rebuild") Rebuild words parts.1 refl))) (λ b.
    either-way (bytes_eq verb (codes "inspect")) (λ e. named (codes "inspect") e (inspect-agrees words (alone-same (codes "inspect") Inspect words parts.1 refl))) (λ c.
    either-way (bytes_eq verb (codes "make")) (λ e. named (codes "make") e (make-agrees words (make-same words parts.1))) (λ d.
    either-way (bytes_eq verb (codes "demo")) (λ e. named (codes "demo") e (demo-agrees words (demo-same words parts.1))) (λ f.
    other-agrees verb words (record { not-run = a; not-rebuild = b; not-inspect = c; not-make = d; not-demo = f }) parts.0 (bare-sort ready.top (λ x. refl) (λ x. refl) verb parts.0))))))
