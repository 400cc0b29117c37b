-- Entries that may be written: kinds below a tip, and the first batch of a run.
use Rattle.std.proofs.Common.{◌≡◌, ◌+◌, ℕ, Bool, true, suc, count_by, List, [], ◌∷◌, length, map, ◌⊎◌, inl, inr, Some, None, Ok, refl, sym, ◌∙◌, subst, ap, arith}
use Rattle.std.specs.List.{AllByRecursion}
use Rattle.std.proofs.lemmas.List.Sums.{sum_by-cons}
use Rattle.ndc_model_cells.specs.Writing.{goes_on_as, key_behind}
use Rattle.ndc_command.specs.Actions.{after_kinds}
use Rattle.ndc_command.specs.Plan.{beginning}
use Rattle.ndc_event.specs.Key.{key_lt}
use Rattle.ndc_event.specs.declared.batch.Batch.{Batch}
use Rattle.ndc_event.specs.declared.batch.Event.{Event}
use Rattle.ndc_event.specs.declared.key.RunId.{RunId}
use Rattle.ndc_event.specs.declared.kind.EventKind.{EventKind}
use Rattle.ndc_event.specs.declared.kind.EventKind.TheVariants as kind
use Rattle.ndc_event.specs.declared.name.Name.{Name}
use Rattle.ndc_index.specs.Texts.{count_kinds}
use Rattle.ndc_model_sets.specs.Paths.{last_event}
use Rattle.ndc_model_sets.specs.Sets.{Has, arrived}
use Rattle.ndc_model_sets.specs.Sound.{IsSound}
use Rattle.ndc_model_sets.proofs.ArrivalLemmas.{was_or_new}
use Rattle.ndc_model_sets.proofs.KeyLemmas.{IsBefore, before-from, before-parts}
use Rattle.ndc_state.specs.Table.{row}
use Rattle.ndc_state.specs.Value.{new_state}
use Rattle.ndc_state.specs.Written.{events_from, replay_kinds}
use Rattle.ndc_laws_cells.specs.Adding.{IsNewest}
use Rattle.ndc_laws_cells.proofs.KindLemmas.{one_if}

-- the kinds of events that are written are those that they were
pub kinds-of : (id version : ℕ) (kinds : List EventKind) → map (λ (event : Event). event.kind) (events_from id version kinds) ≡ kinds
kinds-of id version [] = refl
kinds-of id version (k ∷ ks) = ap (λ l. k ∷ l) (kinds-of (id + 1) version ks)

pub length-written : (id version : ℕ) (kinds : List EventKind) → length (events_from id version kinds) ≡ length kinds
length-written id version [] = refl
length-written id version (k ∷ ks) = ap suc (length-written (id + 1) version ks)

pub count-written : (test : EventKind → Bool) (id version : ℕ) (kinds : List EventKind) → count_kinds test (events_from id version kinds) ≡ count_by test kinds
count-written test id version [] = refl
count-written test id version (k ∷ ks) =
    let one = sum_by-cons (λ (e : Event). one_if (test e.kind)) (record { id = id; version = version; kind = k }) (events_from (id + 1) version ks) in
    let two = sum_by-cons (λ x. one_if (test x)) k ks in
    let rest = count-written test (id + 1) version ks in
    omega (arith, one, two, rest)

-- only the last kind says how a run goes on
pub goes-step : (k next : EventKind) (ks : List EventKind) → goes_on_as (k ∷ next ∷ ks) ≡ goes_on_as (next ∷ ks)
goes-step (kind.WorkflowExecutionContinuedAsNew _ _) next ks = refl
goes-step _ next ks = refl

goes-one : (P : EventKind → Type 0) (k : EventKind) (workflow_type : Name) → P k → goes_on_as (k ∷ []) ≡ Some workflow_type
    → (run : RunId) × P (kind.WorkflowExecutionContinuedAsNew run workflow_type) × (k ≡ kind.WorkflowExecutionContinuedAsNew run workflow_type)
goes-one P (kind.WorkflowExecutionContinuedAsNew run other) workflow_type p e =
    let same : other ≡ workflow_type = cc in
    (run, subst (λ t. P (kind.WorkflowExecutionContinuedAsNew run t)) same p, ap (kind.WorkflowExecutionContinuedAsNew run) same)
goes-one P _ workflow_type p e = absurd (cc)

-- the event by which a run goes on
pub record EndsBy (P : EventKind → Type 0) (workflow_type : Name) (events : List Event) : Type 0 where
  pub run : RunId
  pub event : Event
  pub last : last_event events ≡ Some event
  pub kind_is : event.kind ≡ kind.WorkflowExecutionContinuedAsNew run workflow_type
  pub holds : P (kind.WorkflowExecutionContinuedAsNew run workflow_type)

pub ends-by : (P : EventKind → Type 0) (id version : ℕ) (kinds : List EventKind) (workflow_type : Name) → AllByRecursion P kinds → goes_on_as kinds ≡ Some workflow_type
    → EndsBy P workflow_type (events_from id version kinds)
ends-by P id version [] workflow_type all e = absurd (cc)
ends-by P id version (k ∷ []) workflow_type all e =
    let g = goes-one P k workflow_type all.0 e in
    record { run = g.0; event = record { id = id; version = version; kind = k }; last = refl; kind_is = g.2; holds = g.1 }
ends-by P id version (k ∷ next ∷ ks) workflow_type all e =
    let g = ends-by P (id + 1) version (next ∷ ks) workflow_type all.1 (sym (goes-step k next ks) ∙ e) in
    record { run = g.run; event = g.event; last = g.last; kind_is = g.kind_is; holds = g.holds }

-- kinds by none of which a run goes on
abbrev pub Stays : EventKind → Type 0
Stays k = goes_on_as (k ∷ []) ≡ None

pub all-stay : (kinds : List EventKind) → AllByRecursion Stays kinds → goes_on_as kinds ≡ None
all-stay [] all = refl
all-stay (k ∷ []) all = all.0
all-stay (k ∷ next ∷ ks) all = goes-step k next ks ∙ all-stay (next ∷ ks) all.1

-- what begins a run replays on the state of no event
pub beginning-replays : (run : RunId) (version : ℕ) (workflow_type : Name) → replay_kinds (new_state run) version (beginning workflow_type) ≡ Ok (after_kinds version (new_state run) (beginning workflow_type))
unfolding row
beginning-replays run version workflow_type = refl

-- after a batch with the newest key, the next key is the newest
pub behind-newest : (all : List Batch) (b : Batch) → IsSound all → IsNewest all b.key → IsNewest (arrived b all) (key_behind b.key)
behind-newest all b sound newest x has same = by (was_or_new b all x sound.set.ordered has)
  where
    later : IsBefore x.key b.key → key_lt x.key (key_behind b.key) ≡ true
    later (inl l) = before-from x.key (key_behind b.key) (inl l)
    later (inr l) = before-from x.key (key_behind b.key) (inr (l.0, let m = l.1 in omega (arith, m)))

    by : (x ≡ b) ⊎ Has all x → key_lt x.key (key_behind b.key) ≡ true
    by (inl one) =
        let t : x.key.task ≡ b.key.task = ap (λ (y : Batch). y.key.task) one in
        before-from x.key (key_behind b.key) (inr (ap (λ (y : Batch). y.key.version) one, omega (arith, t)))
    by (inr old) = later (before-parts x.key b.key (newest x old same))
