-- Paths and states of a run that a batch joins.
use Rattle.std.proofs.Common.{◌≡◌, ◌+◌, ◌≤◌, ◌^◌, true, All, List, [], ◌++◌, length, ◌⊎◌, inl, inr, Option, Some, None, Result, Ok, Err, IsOk, refl, sym, ◌∙◌, subst, ap}
use Rattle.std.specs.Prelude.{is_some}
use Rattle.std.proofs.lemmas.List.{append-nil}
use Rattle.ndc_event.specs.Outcome.{◌>>=◌}
use Rattle.ndc_event.specs.declared.batch.Batch.{Batch}
use Rattle.ndc_event.specs.declared.batch.Event.{Event}
use Rattle.ndc_event.specs.declared.key.BatchKey.{BatchKey}
use Rattle.ndc_event.specs.declared.key.RunId.{RunId}
use Rattle.ndc_state.specs.declared.rule.StateError.{StateError}
use Rattle.ndc_state.specs.Replay.{history_of, replay, replay_of}
use Rattle.ndc_state.specs.Value.{StateValue, new_state}
use Rattle.ndc_state.proofs.LawProofs.{counts_from_one}
use Rattle.ndc_state.proofs.ReplayLemmas.{replay-append}
use Rattle.ndc_model_sets.specs.Current.{replayed_or_new, state_to}
use Rattle.ndc_model_sets.specs.Learned.{IsPart, has_key}
use Rattle.ndc_model_sets.specs.Paths.{path_to, events_to}
use Rattle.ndc_model_sets.specs.Sets.{batch_at, Has, arrived}
use Rattle.ndc_model_sets.proofs.ArrivalLemmas.{is_there, stays, was_or_new}
use Rattle.ndc_model_sets.proofs.PathIds.{history-push}
use Rattle.ndc_model_sets.proofs.PathLemmas.{path-below, path-first}
use Rattle.ndc_model_sets.proofs.SetLemmas.{found-key, found-has}
use Rattle.ndc_tree.specs.Tree.{IsTree, Joins}
use Rattle.ndc_tree.proofs.GrowLemmas.{grown_is_tree}
use Rattle.ndc_tree.proofs.PathLemmas.{paths_stay}
use Rattle.ndc_run.specs.Learning.{of_state_error, or_error, state_with}
use Rattle.ndc_run.specs.Run.{IsRun, AllReplay, AreSmall, state_before}

-- the events of the path to a parent
abbrev pub events_before : Option BatchKey → List Batch → List Event
events_before None batches = []
events_before (Some key) batches = events_to key batches

-- a replay that gives a state gives this one
pub gives-state : (run : RunId) (r : Result StateValue StateError) → IsOk r → r ≡ Ok (replayed_or_new run r)
gives-state run (Ok s) ok = refl
gives-state run (Err e) ok = absurd (cc)

-- the state of a path of a run
pub path-state : (run : RunId) (batches : List Batch) (b : Batch) → IsRun run batches → Has batches b → replay_of run (events_to b.key batches) ≡ Ok (state_to run b.key batches)
path-state run batches b r has = gives-state run (replay_of run (events_to b.key batches)) (r.replays b has)

-- its next id
pub path-next : (run : RunId) (batches : List Batch) (b : Batch) → IsRun run batches → Has batches b → (state_to run b.key batches).next ≡ length (events_to b.key batches) + 1
path-next run batches b r has = (counts_from_one run (events_to b.key batches) (state_to run b.key batches) (path-state run batches b r has)).1

named-there : (batches : List Batch) (key : BatchKey) → has_key (Some key) batches ≡ true → (b : Batch) × (batch_at key batches ≡ Some b)
named-there batches key h = by (batch_at key batches) h
  where
    by : (o : Option Batch) → is_some o ≡ true → (b : Batch) × (o ≡ Some b)
    by None h = absurd (cc)
    by (Some b) h = (b, refl)

module _ (run : RunId) (batches : List Batch) (new : Batch) (r : IsRun run batches) (j : Joins run batches new) where
  pub new-tree : IsTree run (arrived new batches)
  new-tree = grown_is_tree run batches new r.tree j

  pub new-there : Has (arrived new batches) new
  new-there = is_there new batches r.tree.set.ordered j.fresh

  pub old-there : IsPart batches (arrived new batches)
  old-there = stays new batches r.tree.set.ordered

  pub old-path : (b : Batch) → Has batches b → path_to b.key (arrived new batches) ≡ path_to b.key batches
  old-path b has = paths_stay run batches (arrived new batches) b r.tree new-tree old-there has

  pub old-state : (b : Batch) → Has batches b → state_to run b.key (arrived new batches) ≡ state_to run b.key batches
  old-state b has = ap (λ (l : List Batch). replayed_or_new run (replay_of run (history_of l))) (old-path b has)

  pub parent-found : (key : BatchKey) → new.parent ≡ Some key → (b : Batch) × (batch_at key batches ≡ Some b)
  parent-found key e = named-there batches key (sym (ap (λ o. has_key o batches) e) ∙ j.reached)

  new-events : events_to new.key (arrived new batches) ≡ events_before new.parent batches ++ new.events
  new-events = by new.parent refl
    where
      by : (o : Option BatchKey) → new.parent ≡ o → events_to new.key (arrived new batches) ≡ events_before o batches ++ new.events
      by None e = ap history_of (path-first (arrived new batches) new new-tree.set new-there e) ∙ append-nil new.events
      by (Some key) e =
          let p = parent-found key e in
          let own : p.0.key ≡ key = found-key batches key p.0 p.1 in
          let same : path_to key (arrived new batches) ≡ path_to key batches = subst (λ (k : BatchKey). path_to k (arrived new batches) ≡ path_to k batches) own (old-path p.0 (found-has batches key p.0 p.1)) in
          ap history_of (path-below (arrived new batches) new key new-tree.set new-there e) ∙ history-push (path_to key (arrived new batches)) new
          ∙ ap (λ (l : List Batch). history_of l ++ new.events) same

  before-Ok : replay_of run (events_before new.parent batches) ≡ Ok (state_before run new.parent batches)
  before-Ok = by new.parent refl
    where
      by : (o : Option BatchKey) → new.parent ≡ o → replay_of run (events_before o batches) ≡ Ok (state_before run o batches)
      by None e = refl
      by (Some key) e =
          let p = parent-found key e in
          subst (λ (k : BatchKey). replay_of run (events_to k batches) ≡ Ok (state_to run k batches)) (found-key batches key p.0 p.1) (path-state run batches p.0 r (found-has batches key p.0 p.1))

  -- replay of the new path goes on from the state of the parent's
  pub new-replay : replay_of run (events_to new.key (arrived new batches)) ≡ replay (state_before run new.parent batches) new.events
  new-replay =
      ap (replay_of run) new-events ∙ replay-append (new_state run) (events_before new.parent batches) new.events
      ∙ ap (λ (x : Result StateValue StateError). x >>= (λ s. replay s new.events)) before-Ok

  pub state-with : state_with run batches new ≡ or_error of_state_error (replay (state_before run new.parent batches) new.events)
  state-with = ap (or_error of_state_error) new-replay

  module _ (s : StateValue) (h : replay (state_before run new.parent batches) new.events ≡ Ok s) (small : All (λ event. event.id ≤ 10 ^ 12) new.events) where
    pub new-state : state_to run new.key (arrived new batches) ≡ s
    new-state = ap (replayed_or_new run) (new-replay ∙ h)

    grown-replays : AllReplay run (arrived new batches)
    grown-replays b has = by (was_or_new new batches b r.tree.set.ordered has)
      where
        by : (b ≡ new) ⊎ Has batches b → IsOk (replay_of run (events_to b.key (arrived new batches)))
        by (inl same) = subst (λ (x : Batch). IsOk (replay_of run (events_to x.key (arrived new batches)))) (sym same) (subst IsOk (sym (new-replay ∙ h)) refl)
        by (inr old) = subst (λ (l : List Batch). IsOk (replay_of run (history_of l))) (sym (old-path b old)) (r.replays b old)

    grown-small : AreSmall (arrived new batches)
    grown-small b has = by (was_or_new new batches b r.tree.set.ordered has)
      where
        by : (b ≡ new) ⊎ Has batches b → All (λ event. event.id ≤ 10 ^ 12) b.events
        by (inl same) = subst (λ (x : Batch). All (λ event. event.id ≤ 10 ^ 12) x.events) (sym same) small
        by (inr old) = r.small b old

    -- a run stays one with a batch that joins its tree and replays
    pub grown-run : IsRun run (arrived new batches)
    grown-run = record { tree = new-tree; replays = grown-replays; small = grown-small }
