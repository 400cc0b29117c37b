-- Activities that are told of, and versions of the events that scheduled them.
use Rattle.std.proofs.Common.{◌≡◌, ◌==◌, ℕ, zero, suc, ◌<◌, ◌≤◌, ◌^◌, ◌+◌, Bool, true, false, List, [], ◌∷◌, nat_lt, slice_index_or, slice_set, Option, Some, None, Result, Ok, Err, refl, sym, ◌∙◌, ap, subst, arith, if◌then◌else◌}
use Rattle.std.specs.Prelude.{IfSome, option_map}
use Rattle.std.specs.List.{AllByRecursion}
use Rattle.std.proofs.lemmas.Bool.{and_parts, eqb-false, eqb-true, le-ltb, lt-ltb, ltb-false}
use Rattle.ndc_script_types.specs.declared.script.Header.{Header}
use Rattle.ndc_laws_jobs.proofs.StandLemmas.{beat-left}
use Rattle.ndc_model.specs.Reporting.{told_at, told_by}
use Rattle.ndc_model.specs.Standing.{IsLeftBy, StandFor}
use Rattle.ndc_model_cells.specs.Writing.{as_command_error, may_go_on, may_write, state_under, where_begun}
use Rattle.ndc_command.specs.declared.refusal.CommandError.{CommandError}
use Rattle.ndc_command.specs.declared.refusal.Refusal.{Refusal}
use Rattle.ndc_event.specs.Outcome.{◌>>=◌}
use Rattle.ndc_domain.specs.declared.clusters.ClusterNo.{ClusterNo}
use Rattle.ndc_model_sets.proofs.NoPaths.{no-path}
use Rattle.ndc_event.specs.declared.batch.Batch.{Batch}
use Rattle.ndc_event.specs.declared.batch.Event.{Event}
use Rattle.ndc_event.specs.declared.key.BatchKey.{BatchKey}
use Rattle.ndc_event.specs.declared.name.Name.{Name}
use Rattle.ndc_index.specs.declared.seen.Seen.{Seen}
use Rattle.ndc_model.specs.Progress.{beat_step, started_activity, version_of_event}
use Rattle.ndc_model.specs.Reading.{learned_at}
use Rattle.ndc_model.specs.Steps.{Stepped, error_answer}
use Rattle.ndc_model.specs.World.{World, cell_of, home_at}
use Rattle.ndc_progress.specs.Reports.{greater_report, held, report_lt, same_activity, stale_by}
use Rattle.ndc_progress.specs.declared.report.ActivityRef.{ActivityRef}
use Rattle.ndc_progress.specs.declared.report.Report.{Report}
use Rattle.ndc_model_sets.specs.Branches.{workflow_tip}
use Rattle.ndc_model_sets.specs.Current.{state_to}
use Rattle.ndc_model_sets.specs.Paths.{before_items, events_to, item_of, versions_of}
use Rattle.ndc_model_sets.specs.Sets.{Has, batch_at}
use Rattle.ndc_model_sets.specs.Sound.{IsSound}
use Rattle.ndc_model_sets.proofs.PathLaws.{counts_from_one}
use Rattle.ndc_model_sets.proofs.SetLemmas.{found-key}
use Rattle.ndc_event.specs.Batch.{follow_from}
use Rattle.ndc_history.specs.declared.item.Item.{Item}
use Rattle.ndc_state.specs.Replay.{history_of}
use Rattle.ndc_state.specs.Value.{StateValue}
use Rattle.ndc_world_steps.specs.Versions.{told_from, version_in, version_reaching}
use Rattle.ndc_model_sets.specs.Reading.{history_at}

-- the id of the first of these items, 0 where there is none
abbrev first-id : List Item → ℕ
first-id [] = 0
first-id (item ∷ items) = item.id

-- what comes first in the version history of events that follow an id is after it
first-behind : (last : ℕ) (events : List Event) (item : Item) (items : List Item) → follow_from last events ≡ true → versions_of events ≡ item ∷ items → last < item.id
first-behind last [] item items f e = absurd (cc)
first-behind last (event ∷ events) item items f e = by (versions_of events) (first-behind event.id events) e
  where
    p : ((event.id == last + 1) ≡ true) × (follow_from event.id events ≡ true)
    p = and_parts (event.id == last + 1) (follow_from event.id events) f

    next : event.id ≡ last + 1
    next = eqb-true event.id (last + 1) p.0

    by : (rest : List Item) → ((i : Item) (is : List Item) → follow_from event.id events ≡ true → rest ≡ i ∷ is → event.id < i.id) → before_items (item_of event) rest ≡ item ∷ items → last < item.id
    by [] more e = let same : event.id ≡ item.id = ap first-id e in omega (arith, same, next)
    by (i ∷ is) more e = of (event.version == i.version) e
      where
        of : (t : Bool) → (if t then i ∷ is else item_of event ∷ i ∷ is) ≡ item ∷ items → last < item.id
        of true e = let same : i.id ≡ item.id = ap first-id e in omega (arith, more i is p.1 refl, same, next)
        of false e = let same : event.id ≡ item.id = ap first-id e in omega (arith, same, next)

-- an item that reaches an id goes before others that do
reached-here : (event : Event) (items : List Item) → ((item : Item) (rest : List Item) → items ≡ item ∷ rest → event.id < item.id) → event.version ≡ version_reaching event.id (before_items (item_of event) items)
reached-here event [] behind = sym (ap (λ t. if t then 0 else event.version) (le-ltb event.id event.id (omega arith)))
reached-here event (item ∷ items) behind = by (event.version == item.version) refl
  where
    not-below : nat_lt item.id event.id ≡ false
    not-below = le-ltb item.id event.id (omega (arith, behind item items refl))

    by : (t : Bool) → (event.version == item.version) ≡ t → event.version ≡ version_reaching event.id (if t then item ∷ items else item_of event ∷ item ∷ items)
    by true e = eqb-true event.version item.version e ∙ sym (ap (λ t. if t then version_reaching event.id items else item.version) not-below)
    by false e = sym (ap (λ t. if t then version_reaching event.id (item ∷ items) else event.version) (le-ltb event.id event.id (omega arith)))

-- one that does not is passed
reached-behind : (id : ℕ) (event : Event) (items : List Item) → event.id < id → version_reaching id items ≡ version_reaching id (before_items (item_of event) items)
reached-behind id event [] below = sym (ap (λ t. if t then 0 else event.version) (lt-ltb event.id id below))
reached-behind id event (item ∷ items) below = by (event.version == item.version)
  where
    by : (t : Bool) → version_reaching id (item ∷ items) ≡ version_reaching id (if t then item ∷ items else item_of event ∷ item ∷ items)
    by true = refl
    by false = sym (ap (λ t. if t then version_reaching id (item ∷ items) else event.version) (lt-ltb event.id id below))

-- the version of an event is read off the version history of events that follow an id before it
version-reached : (last id : ℕ) (events : List Event) → follow_from last events ≡ true → last < id → version_reaching id (versions_of events) ≡ version_of_event id events
version-reached last id [] f below = refl
version-reached last id (event ∷ events) f below = by (event.id == id) refl (version-reached event.id id events p.1)
  where
    p : ((event.id == last + 1) ≡ true) × (follow_from event.id events ≡ true)
    p = and_parts (event.id == last + 1) (follow_from event.id events) f

    next : event.id ≡ last + 1
    next = eqb-true event.id (last + 1) p.0

    by : (t : Bool) → (event.id == id) ≡ t → (event.id < id → version_reaching id (versions_of events) ≡ version_of_event id events)
        → version_reaching id (before_items (item_of event) (versions_of events)) ≡ (if t then event.version else version_of_event id events)
    by true e more =
        ap (λ n. version_reaching n (before_items (item_of event) (versions_of events))) (sym (eqb-true event.id id e))
        ∙ sym (reached-here event (versions_of events) (λ item rest same. first-behind event.id events item rest p.1 same))
    by false e more =
        let behind : event.id < id = omega (arith, below, next, eqb-false event.id id e) in
        sym (reached-behind id event (versions_of events) behind) ∙ more behind

-- no event has the id 0
none-zero : (last : ℕ) (events : List Event) → follow_from last events ≡ true → 0 ≡ version_of_event 0 events
none-zero last [] f = refl
none-zero last (event ∷ events) f = by (event.id == 0) refl (none-zero event.id events p.1)
  where
    p : ((event.id == last + 1) ≡ true) × (follow_from event.id events ≡ true)
    p = and_parts (event.id == last + 1) (follow_from event.id events) f

    by : (t : Bool) → (event.id == 0) ≡ t → 0 ≡ version_of_event 0 events → 0 ≡ (if t then event.version else version_of_event 0 events)
    by true e more = absurd (omega (arith, eqb-true event.id 0 e, eqb-true event.id (last + 1) p.0))
    by false e more = more

version-in : (id : ℕ) (events : List Event) → follow_from 0 events ≡ true → version_in id (versions_of events) ≡ version_of_event id events
version-in id events f = by (id == 0) refl
  where
    by : (t : Bool) → (id == 0) ≡ t → (if t then 0 else version_reaching id (versions_of events)) ≡ version_of_event id events
    by true e = none-zero 0 events f ∙ ap (λ n. version_of_event n events) (sym (eqb-true id 0 e))
    by false e = version-reached 0 id events f (omega (arith, eqb-false id 0 e))

-- the version of an event on the path to a batch, by the version history of the path
pub version_known : (id : ℕ) (key : BatchKey) (batches : List Batch) (history : List Item) → IsSound batches → Some history ≡ history_at key batches → version_in id history ≡ version_of_event id (events_to key batches)
version_known id key batches history sound found = by (batch_at key batches) refl found
  where
    by : (o : Option Batch) → batch_at key batches ≡ o → Some history ≡ option_map (λ _. versions_of (events_to key batches)) o → version_in id history ≡ version_of_event id (events_to key batches)
    by None e f = absurd (cc)
    by (Some b) e f =
        let is : history ≡ versions_of (events_to key batches) = cc in
        let own : b.key ≡ key = found-key batches key b e in
        let has : Has batches b = subst (λ k. batch_at k batches ≡ Some b) (sym own) e in
        let follow : follow_from 0 (events_to key batches) ≡ true = subst (λ k. follow_from 0 (events_to k batches) ≡ true) own (counts_from_one batches b sound.set sound.closed sound.faultless sound.parents has) in
        ap (version_in id) is ∙ version-in id (events_to key batches) follow

-- where there is no such batch, there is no such event
pub version_nowhere : (id : ℕ) (key : BatchKey) (batches : List Batch) → None ≡ history_at key batches → 0 ≡ version_of_event id (events_to key batches)
version_nowhere id key batches found = by (batch_at key batches) refl found
  where
    by : (o : Option Batch) → batch_at key batches ≡ o → None ≡ option_map (λ _. versions_of (events_to key batches)) o → 0 ≡ version_of_event id (events_to key batches)
    by None g e = sym (ap (λ (l : List Batch). version_of_event id (history_of l)) (no-path batches key g))
    by (Some b) g e = absurd (cc)

-- the state of the tip
pub tip_state : (batches : List Batch) (tip : Batch) (s : StateValue) → Some tip ≡ workflow_tip batches → Some s ≡ state_under (workflow_tip batches) batches → s ≡ state_to tip.run tip.key batches
tip_state batches tip s is e = let both : Some s ≡ Some (state_to tip.run tip.key batches) = e ∙ ap (λ o. state_under o batches) (sym is) in cc

-- what is held is one of the reports
held-holds : (P : Report → Type 0) (a : ActivityRef) (rs : List Report) → AllByRecursion P rs → IfSome (held a rs) P
held-holds P a [] all = tt
held-holds P a (r ∷ rs) all = by (same_activity a r.activity) (held a rs) (held-holds P a rs all.1)
  where
    of : (o : Option Report) → IfSome o P → P (greater_report r o)
    of None more = all.0
    of (Some other) more = choose (report_lt r other)
      where
        choose : (t : Bool) → P (if t then other else r)
        choose true = more
        choose false = all.0

    by : (t : Bool) (o : Option Report) → IfSome o P → IfSome (if t then Some (greater_report r o) else o) P
    by true o more = of o more
    by false o more = more

-- a report may be told where the held one is not above it
pub may_tell : (a : ActivityRef) (version : ℕ) (own : List Report) → None ≡ stale_by version (held a own) → AllByRecursion (λ (report : Report). report.beat < 10 ^ 12) own
    → IfSome (held a own) (λ report. (report.version ≤ version) × (report.beat < 10 ^ 12))
may_tell a version own fresh small = by (held a own) fresh (held-holds (λ (report : Report). report.beat < 10 ^ 12) a own small)
  where
    by : (o : Option Report) → None ≡ stale_by version o → IfSome o (λ (report : Report). report.beat < 10 ^ 12) → IfSome o (λ report. (report.version ≤ version) × (report.beat < 10 ^ 12))
    by None f g = tt
    by (Some report) f g = of (nat_lt version report.version) refl f
      where
        of : (t : Bool) → nat_lt version report.version ≡ t → None ≡ (if t then Some report.version else None) → (report.version ≤ version) × (report.beat < 10 ^ 12)
        of true e h = absurd (cc)
        of false e h = (let most : report.version ≤ version = ltb-false version report.version e in most, g)

-- what a line leaves, by what it is
pub left_as : {step : Stepped} {v : World} {reports after : List (List Report)} {answer told : List ℕ} {seen shown : List Seen} → IsLeftBy step v reports answer seen → after ≡ reports → told ≡ answer → shown ≡ seen
    → IsLeftBy step v after told shown
left_as {step} {v} left e f h = record { stands = subst (λ l. StandFor v l step.world) (sym e) left.stands; answer = f ∙ left.answer; seen = h ∙ left.seen }

-- what is put back where it stands
put-back : (xs : List (List Report)) (i : ℕ) → slice_set xs i (slice_index_or xs i []) ≡ xs
put-back [] i = refl
put-back (x ∷ xs) zero = refl
put-back (x ∷ xs) (suc i) = ap (λ l. x ∷ l) (put-back xs i)

-- what may be told with this tip
abbrev told-below : Result ℕ Refusal → Name → Name → Name → List Batch → Option Batch → Result (ℕ × ActivityRef) CommandError
told-below may domain workflow id batches tip =
    as_command_error may >>= λ version. started_activity domain workflow id batches tip >>= λ activity. Ok (version, activity)

-- where no run is learned there is no activity, so that a run is learned need not be asked before
begun : (domain workflow id : Name) (batches : List Batch) (may : Result ℕ Refusal) (tip : Option Batch)
    → told-below (may >>= where_begun tip) domain workflow id batches tip ≡ told-below may domain workflow id batches tip
begun domain workflow id batches (Err why) tip = refl
begun domain workflow id batches (Ok version) None = refl
begun domain workflow id batches (Ok version) (Some tip) = refl

-- what may be told, by what is learned and the version with which the cell may write
pub told_same : (header : Header) (cluster : ClusterNo) (domain workflow id : Name) (w : World) (batches : List Batch) (may : Result ℕ Refusal)
    → may ≡ may_go_on (home_at header cluster w) domain workflow (cell_of header cluster domain workflow w) → batches ≡ learned_at header cluster domain workflow w
    → told_from may domain workflow id batches ≡ told_at header cluster domain workflow id w
told_same header cluster domain workflow id w batches may e f =
    (λ i. told_from (e i) domain workflow id (f i))
    ∙ begun domain workflow id (learned_at header cluster domain workflow w) (may_write (home_at header cluster w) domain workflow (cell_of header cluster domain workflow w)) (workflow_tip (learned_at header cluster domain workflow w))

module _ (v : World) (reports : List (List Report)) (w : World) (stand : StandFor v reports w) (header : Header) (cluster : ClusterNo) (domain workflow id details : Name) where
  -- what is told by what may be told
  beat-by : (told : Result (ℕ × ActivityRef) CommandError) → told_at header cluster domain workflow id v ≡ told
      → IsLeftBy (beat_step header cluster domain workflow id details w) v (slice_set reports cluster.number (told_by details (slice_index_or reports cluster.number []) told).reports)
      (told_by details (slice_index_or reports cluster.number []) told).answer []
  beat-by told e =
      subst
      (λ (r : Result (ℕ × ActivityRef) CommandError). IsLeftBy (beat_step header cluster domain workflow id details w) v (slice_set reports cluster.number (told_by details (slice_index_or reports cluster.number []) r).reports)
      (told_by details (slice_index_or reports cluster.number []) r).answer [])
      e (beat-left v reports w stand header cluster domain workflow id details)

  -- a beat that is refused changes nothing
  pub beat_refused : (error : CommandError) (answer : List ℕ) (seen : List Seen) → told_at header cluster domain workflow id v ≡ Err error → answer ≡ error_answer error → seen ≡ []
      → IsLeftBy (beat_step header cluster domain workflow id details w) v reports answer seen
  beat_refused error answer seen e f h = left_as (beat-by (Err error) e) (sym (put-back reports cluster.number)) f h

  -- one that is told
  pub beat_told : (told : ℕ × ActivityRef) (own new : List Report) (answer : List ℕ) (seen : List Seen) → told_at header cluster domain workflow id v ≡ Ok told → own ≡ slice_index_or reports cluster.number []
      → new ≡ (told_by details own (Ok told)).reports → answer ≡ (told_by details own (Ok told)).answer → seen ≡ [] → IsLeftBy (beat_step header cluster domain workflow id details w) v (slice_set reports cluster.number new) answer seen
  beat_told told own new answer seen e o n a s =
      left_as (beat-by (Ok told) e)
      (ap (slice_set reports cluster.number) (n ∙ ap (λ (l : List Report). (told_by details l (Ok told)).reports) o))
      (a ∙ ap (λ (l : List Report). (told_by details l (Ok told)).answer) o) s
