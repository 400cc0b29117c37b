-- The ids of what is written.
use Rattle.std.proofs.Common.{◌≡◌, ◌≤◌, ◌+◌, ◌-◌, ◌++◌, ℕ, Bool, true, false, not, All, List, [], ◌∷◌, length, map, Option, Some, None, Ok, Err, IfOk, IfSome, if◌then◌else◌, refl, subst, arith, codes, is_some}
use Rattle.std.specs.Prelude.{nat_lt, option_to_list}
use Rattle.std.specs.List.{AllByRecursion}
use Rattle.std.proofs.lemmas.Bool.{ltb-false}
use Rattle.std.proofs.lemmas.List.{length-append, length-map}
use Rattle.std.proofs.lemmas.List.Elements.{All-from_recursion}
use Rattle.ndc_model_cells.specs.Writing.{Entry, alone, batch_below, carried_by, closing_entries, command_entries, entry_of, first_batch, goes_on_as, is_close_full, key_behind, next_key, reapplication_below, reset_below, reset_close, reset_entries, reset_key, reset_refused, state_under}
use Rattle.ndc_command.specs.Laws.{begins_run, last_id}
use Rattle.ndc_command.specs.Plan.{beginning, plan_of}
use Rattle.ndc_command.specs.declared.command.Command.{Command}
use Rattle.ndc_command.specs.declared.command.Command.TheVariants.{Start}
use Rattle.ndc_command.specs.declared.refusal.CommandError.TheVariants.{Refused}
use Rattle.ndc_command.specs.declared.refusal.Refusal.TheVariants as refusal
use Rattle.ndc_command.proofs.LawProofs.{fits}
use Rattle.ndc_event.specs.Key.{run_of}
use Rattle.ndc_event.specs.declared.batch.Batch.{Batch}
use Rattle.ndc_event.specs.declared.batch.Event.{Event}
use Rattle.ndc_event.specs.declared.key.BatchKey.{BatchKey}
use Rattle.ndc_event.specs.declared.key.RunId.{RunId}
use Rattle.ndc_event.specs.declared.kind.EventKind.{EventKind}
use Rattle.ndc_event.specs.declared.kind.EventKind.TheVariants.{DecisionTaskFailed, DecisionTaskScheduled}
use Rattle.ndc_event.specs.declared.name.Name.{Name}
use Rattle.ndc_reapply.specs.Reapplied.{copy_of, reapplied}
use Rattle.ndc_reapply.specs.declared.stray.Stray.{Stray}
use Rattle.ndc_reset.specs.Reset.{is_point, reset_kinds, reset_of}
use Rattle.ndc_reset.specs.declared.plan.ResetError.TheVariants as reset
use Rattle.ndc_model_sets.specs.Branches.{workflow_tip}
use Rattle.ndc_model_sets.specs.Current.{state_to}
use Rattle.ndc_model_sets.specs.Paths.{events_to}
use Rattle.ndc_state.specs.Value.{StateValue}
use Rattle.ndc_state.specs.Written.{events_from, failover_close, is_failover_close_due, wake}
use Rattle.ndc_model_sets.proofs.Lists.{all-join}
use Rattle.ndc_shard_entries.specs.Written.{HasIdsUpTo}
use Rattle.ndc_shard_entries.proofs.LawProofs.{after-ok}

-- the ids of events from one on are below it and their number
ids-up-to : (id version most : ℕ) (kinds : List EventKind) → id + length kinds ≤ most + 1 → AllByRecursion (λ (event : Event). event.id ≤ most) (events_from id version kinds)
ids-up-to id version most [] l = tt
ids-up-to id version most (kind ∷ kinds) l = (omega (arith, l), ids-up-to (id + 1) version most kinds (omega (arith, l)))

all-ids : (id version most : ℕ) (kinds : List EventKind) → id + length kinds ≤ most + 1 → All (λ (event : Event). event.id ≤ most) (events_from id version kinds)
all-ids id version most kinds l = All-from_recursion _ (events_from id version kinds) (ids-up-to id version most kinds l)

-- the last id after which a command that begins no run writes
last-behind : (s : StateValue) (command : Command) → begins_run command ≡ false → last_id (Some s) command ≡ s.next - 1
last-behind s (Start _) e = absurd (cc)
last-behind s _ e = refl

module _ (domain workflow : Name) (key : BatchKey) (most : ℕ) where
  first-ids : (carrier : Option BatchKey) (kinds : List EventKind) → length kinds ≤ most → All (λ (event : Event). event.id ≤ most) (first_batch domain workflow key carrier kinds).events
  first-ids carrier kinds l = all-ids 1 key.version most kinds (omega (arith, l))

  carried-ids : 2 ≤ most → (o : Option Name) → AllByRecursion (λ (b : Batch). All (λ (event : Event). event.id ≤ most) b.events) (option_to_list (carried_by domain workflow key o))
  carried-ids least None = tt
  carried-ids least (Some workflow_type) = (all-ids 1 key.version most (beginning workflow_type) (omega (arith, least)), tt)

  entry-ids : 2 ≤ most → (batches : List Batch) (command : Command) (begins : Bool) → begins_run command ≡ begins → (tip : Option Batch) (kinds : List EventKind)
      → last_id (state_under tip batches) command + length kinds ≤ most → HasIdsUpTo most (entry_of domain workflow begins key tip batches kinds)
  entry-ids least batches command true e tip kinds l = (first-ids None kinds (omega (arith, l)), tt)
  entry-ids least batches command false e None kinds l = (first-ids None kinds (omega (arith, l)), tt)
  entry-ids least batches command false e (Some tip) kinds l =
      let s = state_to tip.run tip.key batches in
      let behind = last-behind s command e in
      (all-ids s.next key.version most kinds (omega (arith, l, behind)), carried-ids least (goes_on_as kinds))

  closing-ids : (tip : Batch) (s : StateValue) → is_close_full most s key.version ≡ false → AllByRecursion (HasIdsUpTo most) (closing_entries domain workflow key tip s)
  closing-ids tip s e = by s.running e
    where
      by : (running : Bool) → (if running then nat_lt most (s.next - 1 + length (reset_close s key.version)) else false) ≡ false
          → AllByRecursion (HasIdsUpTo most) (if running then alone (batch_below domain workflow key tip s (reset_close s key.version)) ∷ [] else [])
      by true f =
          let l = ltb-false most (s.next - 1 + length (reset_close s key.version)) f in
          ((all-ids s.next key.version most (reset_close s key.version) (omega (arith, l)), tt), tt)
      by false f = tt

-- a reset has no more kinds than the limit
reset-few : (history : List Event) (run : RunId) (event limit : ℕ) (kinds : List EventKind) → reset_refused (reset_of history run event limit) ≡ Ok kinds → length kinds ≤ limit
unfolding reset_of
reset-few history run event limit kinds e = by (is_point event history) (nat_lt limit (length (reset_kinds run event history))) refl e
  where
    by : (point full : Bool) → nat_lt limit (length (reset_kinds run event history)) ≡ full
        → reset_refused (if not point then Err reset.NoSuchPoint else if full then Err reset.HistoryFull else Ok (reset_kinds run event history)) ≡ Ok kinds → length kinds ≤ limit
    by false full f g = absurd (cc)
    by true true f g = absurd (cc)
    by true false f g = let same : reset_kinds run event history ≡ kinds = cc in subst (λ (l : List EventKind). length l ≤ limit) same (ltb-false limit (length (reset_kinds run event history)) f)

-- what applies strays again are three kinds more at most
reapplied-few : (s : StateValue) (version : ℕ) (list : List Stray) → length (reapplied s version list) ≤ length list + 3
unfolding reapplied
reapplied-few s version list =
    let one = length-append (failover_close s version ++ map copy_of list) (wake s) in
    let two = length-append (failover_close s version) (map copy_of list) in
    let three = length-map list copy_of in
    let four = close (is_failover_close_due s version) in
    let five = woken (is_some s.decision) in
    omega (arith, one, two, three, four, five)
  where
    close : (due : Bool) → length (if due then DecisionTaskFailed (codes "failoverClose") ∷ DecisionTaskScheduled ∷ [] else []) ≤ 2
    close true = omega arith
    close false = omega arith

    woken : (some : Bool) → length (if some then [] else DecisionTaskScheduled ∷ []) ≤ 1
    woken true = omega arith
    woken false = omega arith

module _ (batches : List Batch) (version : ℕ) (domain workflow : Name) where
  abbrev key : BatchKey
  key = next_key version batches

  pub command-ids : (limit most : ℕ) (command : Command) → limit ≤ most → 2 ≤ most → IfOk (command_entries domain workflow command limit version batches) (AllByRecursion (HasIdsUpTo most))
  command-ids limit most command within least =
      after-ok (AllByRecursion (HasIdsUpTo most)) (plan_of state command version limit (run_of (key_behind key))) _
      (λ kinds e. (entry-ids domain workflow key most least batches command (begins_run command) refl (workflow_tip batches) kinds (let f = fits state command version limit (run_of (key_behind key)) kinds e in omega (arith, f, within)), tt))
    where
      state : Option StateValue
      state = state_under (workflow_tip batches) batches

  reset-ids : (limit : ℕ) (tip : Batch) (s : StateValue) (kinds : List EventKind) → length kinds ≤ limit → IfOk (reset_entries domain workflow limit key tip s kinds) (AllByRecursion (HasIdsUpTo limit))
  reset-ids limit tip s kinds few = by (is_close_full limit s version) refl
    where
      new : Entry
      new = alone (first_batch domain workflow (reset_key key s) None kinds)

      by : (full : Bool) → is_close_full limit s version ≡ full
          → IfOk (if full then Err (Refused refusal.HistoryFull) else Ok (closing_entries domain workflow key tip s ++ new ∷ [])) (AllByRecursion (HasIdsUpTo limit))
      by true e = tt
      by false e =
          all-join (HasIdsUpTo limit) (closing_entries domain workflow key tip s) (new ∷ []) (closing-ids domain workflow key limit tip s e)
          ((first-ids domain workflow (reset_key key s) limit None kinds few, tt), tt)

  pub resets-ids : (event limit : ℕ) (tip : Option Batch) → IfOk (reset_below domain workflow event limit version tip batches) (AllByRecursion (HasIdsUpTo limit))
  resets-ids event limit None = tt
  resets-ids event limit (Some tip) =
      after-ok (AllByRecursion (HasIdsUpTo limit)) (reset_refused (reset_of (events_to tip.key batches) tip.run event limit)) _
      (λ kinds e. reset-ids limit tip (state_to tip.run tip.key batches) kinds (reset-few (events_to tip.key batches) tip.run event limit kinds e))

  pub reapplied-ids : (most : ℕ) (tip : Option Batch) (list : List Stray) → IfSome (state_under tip batches) (λ s. s.next + length list + 2 ≤ most) → AllByRecursion (HasIdsUpTo most) (reapplication_below domain workflow version tip batches list)
  reapplied-ids most None list l = tt
  reapplied-ids most (Some tip) [] l = tt
  reapplied-ids most (Some tip) (stray ∷ list) l = by s.running
    where
      s : StateValue
      s = state_to tip.run tip.key batches

      kinds : List EventKind
      kinds = reapplied s version (stray ∷ list)

      by : (running : Bool) → AllByRecursion (HasIdsUpTo most) (if running then alone (batch_below domain workflow key tip s kinds) ∷ [] else [])
      by true = let few = reapplied-few s version (stray ∷ list) in ((all-ids s.next version most kinds (omega (arith, few, l)), tt), tt)
      by false = tt
