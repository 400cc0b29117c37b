-- Three things that hold of what a command plans: its kinds are in the ranges of batch texts; none is a copied signal, and a run goes on
-- only as the next one; one at most is an original signal.
use Rattle.std.proofs.Common.{◌≡◌, ◌≤◌, ℕ, Bool, true, false, cond, List, [], ◌∷◌, map, Some, None, Ok, refl, subst, ap, arith, count_by, IsTrue}
use Rattle.std.specs.List.{AllByRecursion}
use Rattle.std.proofs.lemmas.List.Sums.{sum_by-append, sum_by-cons}
use Rattle.std.proofs.lemmas.List.Elements.{recursion_from_All}
use Rattle.ndc_script_types.specs.WellFormed.{IsWellFormedAction, IsWellFormedCommand}
use Rattle.ndc_command.specs.declared.command.Action.{Action}
use Rattle.ndc_command.specs.declared.command.Action.TheVariants as action
use Rattle.ndc_command.specs.declared.command.Command.{Command}
use Rattle.ndc_command.specs.declared.command.Command.TheVariants.{Start, Signal, Cancel, Decide, Respond, TimeoutDecision}
use Rattle.ndc_command.specs.Actions.{action_kind, after_kind}
use Rattle.ndc_command.specs.Laws.{begins_run}
use Rattle.ndc_command.specs.Plan.{judged_at, plan_of, woken, written}
use Rattle.ndc_event.specs.declared.key.RunId.{RunId}
use Rattle.ndc_event.specs.declared.kind.EventKind.{EventKind}
use Rattle.ndc_event.specs.declared.kind.EventKind.TheVariants as kind
use Rattle.ndc_index.specs.Texts.{is_original}
use Rattle.ndc_model_sets.specs.Sound.{NamesOriginal}
use Rattle.ndc_event.specs.declared.batch.Batch.{Batch}
use Rattle.ndc_state.specs.Value.{StateValue}
use Rattle.ndc_state.specs.Written.{failover_close, wake}
use Rattle.ndc_text.specs.Ranges.{KindFits, is_run}
use Rattle.ndc_laws_cells.specs.Entries.{IsPlain}
use Rattle.ndc_laws_cells.proofs.PlanLemmas.{close-each, kinds_by, planned-below, planned-each, row-each, wake-each}

-- the kind is not an original signal
abbrev pub IsQuiet : EventKind → Type 0
IsQuiet kind = is_original kind ≡ false

-- what is not a copied signal names originals
pub plain-names : (all : List Batch) (run : RunId) (k : EventKind) → IsPlain run k → NamesOriginal all k
plain-names all run k plain name input origin e = let copied : Some origin ≡ None = subst (IsPlain run) e plain in absurd (cc)

pub plain-all : (all : List Batch) (run : RunId) (kinds : List EventKind) → AllByRecursion (IsPlain run) kinds → AllByRecursion (NamesOriginal all) kinds
plain-all all run [] each = tt
plain-all all run (k ∷ ks) each = (plain-names all run k each.0, plain-all all run ks each.1)

-- the kinds of actions
action-plain : (run : RunId) (one : Action) → IsPlain run (action_kind run one)
unfolding action_kind
action-plain run (action.Continue _) = refl
action-plain run _ = tt

actions-plain : (run : RunId) (actions : List Action) → AllByRecursion (IsPlain run) (map (action_kind run) actions)
actions-plain run [] = tt
actions-plain run (one ∷ actions) = (action-plain run one, actions-plain run actions)

action-quiet : (run : RunId) (one : Action) → IsQuiet (action_kind run one)
unfolding action_kind
action-quiet run (action.Activity _ _) = refl
action-quiet run (action.Timer _) = refl
action-quiet run (action.Untimer _) = refl
action-quiet run (action.Child _ _) = refl
action-quiet run (action.Marker _) = refl
action-quiet run (action.Complete _) = refl
action-quiet run (action.Fail _) = refl
action-quiet run action.Canceled = refl
action-quiet run (action.Continue _) = refl

actions-quiet : (run : RunId) (actions : List Action) → AllByRecursion IsQuiet (map (action_kind run) actions)
actions-quiet run [] = tt
actions-quiet run (one ∷ actions) = (action-quiet run one, actions-quiet run actions)

action-fits : (run : RunId) → IsTrue (is_run run.value) → (one : Action) → IsWellFormedAction one → KindFits (action_kind run one)
unfolding action_kind
action-fits run fit (action.Activity _ _) well = well
action-fits run fit (action.Timer _) well = well
action-fits run fit (action.Untimer _) well = well
action-fits run fit (action.Child _ _) well = well
action-fits run fit (action.Marker _) well = well
action-fits run fit (action.Complete _) well = well
action-fits run fit (action.Fail _) well = well
action-fits run fit action.Canceled well = tt
action-fits run fit (action.Continue _) well = (fit, well)

actions-fit : (run : RunId) → IsTrue (is_run run.value) → (actions : List Action) → AllByRecursion IsWellFormedAction actions → AllByRecursion KindFits (map (action_kind run) actions)
actions-fit run fit [] well = tt
actions-fit run fit (one ∷ actions) well = (action-fits run fit one well.0, actions-fit run fit actions well.1)

-- the row's own kinds
own-plain : (run : RunId) (command : Command) → AllByRecursion (IsPlain run) (kinds_by run command)
own-plain run (Start _) = tt
own-plain run (Signal _ _) = (refl, tt)
own-plain run (Respond actions) = (tt, actions-plain run actions)
own-plain run _ = (tt, tt)

own-fits : (run : RunId) → IsTrue (is_run run.value) → (command : Command) → IsWellFormedCommand command → AllByRecursion KindFits (kinds_by run command)
own-fits run fit (Start _) well = tt
own-fits run fit (Signal _ _) well = ((well.0, well.1, tt), tt)
own-fits run fit (Respond actions) well = (tt, actions-fit run fit actions (recursion_from_All IsWellFormedAction actions well.names))
own-fits run fit Cancel well = (tt, tt)
own-fits run fit Decide well = (tt, tt)
own-fits run fit TimeoutDecision well = (tt, tt)
own-fits run fit _ well = (well, tt)

-- what is planned below a tip has no copied signal, and goes on only as the next run
pub planned-plain : (s : StateValue) (command : Command) (version limit : ℕ) (run : RunId) (kinds : List EventKind) → begins_run command ≡ false
    → plan_of (Some s) command version limit run ≡ Ok kinds → AllByRecursion (IsPlain run) kinds
planned-plain s command version limit run kinds other h = planned-each (IsPlain run) tt tt s command version limit run kinds (own-plain run command) other h

-- its kinds are in range
pub planned-fit : (s : StateValue) (command : Command) (version limit : ℕ) (run : RunId) (kinds : List EventKind) → IsTrue (is_run run.value) → IsWellFormedCommand command → begins_run command ≡ false
    → plan_of (Some s) command version limit run ≡ Ok kinds → AllByRecursion KindFits kinds
planned-fit s command version limit run kinds fit well other h = planned-each KindFits tt refl s command version limit run kinds (own-fits run fit command well) other h

-- 1 where it is so, else 0
abbrev pub one_if : Bool → ℕ
one_if t = cond t 1 0

-- quiet kinds have no original signal
pub quiet-none : (kinds : List EventKind) → AllByRecursion IsQuiet kinds → count_by is_original kinds ≡ 0
quiet-none [] all = refl
quiet-none (k ∷ ks) all =
    let one = sum_by-cons (λ x. one_if (is_original x)) k ks in
    let none : one_if (is_original k) ≡ 0 = ap one_if all.0 in
    let rest = quiet-none ks all.1 in
    omega (arith, one, none, rest)

-- whether the command is a signal
abbrev is_signal : Command → Bool
is_signal (Signal name input) = true
is_signal _ = false

own-quiet : (run : RunId) (command : Command) → is_signal command ≡ false → AllByRecursion IsQuiet (kinds_by run command)
own-quiet run (Start _) other = tt
own-quiet run (Signal _ _) other = absurd (cc)
own-quiet run (Respond actions) other = (refl, actions-quiet run actions)
own-quiet run _ other = (refl, tt)

-- what the row of a command writes has one original signal at most
row-few : (version : ℕ) (run : RunId) (s : StateValue) (command : Command) (kinds : List EventKind) → begins_run command ≡ false → written version run s command ≡ Ok kinds
    → count_by is_original kinds ≤ 1
unfolding written
row-few version run s (Signal name input) kinds other w =
    let signal : EventKind = kind.WorkflowExecutionSignaled name input None in
    let same : woken version s signal ≡ kinds = cc in
    let none = quiet-none (wake (after_kind version s signal)) (wake-each IsQuiet refl (after_kind version s signal)) in
    let one = sum_by-cons (λ x. one_if (is_original x)) signal (wake (after_kind version s signal)) in
    subst (λ l. count_by is_original l ≤ 1) same (omega (arith, none, one))
row-few version run s command kinds other w = let none = quiet-none kinds (row-each IsQuiet refl version run s command kinds other (own-quiet run command refl) w) in omega (arith, none)

-- what is planned below a tip has one original signal at most
pub planned-few : (s : StateValue) (command : Command) (version limit : ℕ) (run : RunId) (kinds : List EventKind) → begins_run command ≡ false
    → plan_of (Some s) command version limit run ≡ Ok kinds → count_by is_original kinds ≤ 1
planned-few s command version limit run kinds other h =
    let p = planned-below s command version limit run kinds other h in
    let close = quiet-none (failover_close s version) (close-each IsQuiet refl refl s version) in
    let both = sum_by-append (λ x. one_if (is_original x)) (failover_close s version) p.own in
    let own = row-few version run (judged_at s version) command p.own other p.from in
    subst (λ l. count_by is_original l ≤ 1) p.whole (omega (arith, close, both, own))
