-- What is written comes after all that is learned.
use Rattle.std.proofs.Common.{◌≡◌, ◌≤◌, ◌<◌, ◌+◌, ◌++◌, ◌⊎◌, ℕ, Bool, true, false, not, List, [], ◌∷◌, inl, inr, Option, Some, None, Result, Ok, Err, IfOk, IfSome, if◌then◌else◌, refl, sym, ◌∙◌, subst, ap, arith, max, ◌^◌}
use Rattle.std.specs.Prelude.{nat_lt, option_to_list}
use Rattle.std.specs.List.{AllByRecursion}
use Rattle.std.proofs.Math.Nat.{eq-or-lt_of_le}
use Rattle.std.proofs.lemmas.Bool.{ltb-false}
use Rattle.ndc_model_cells.specs.declared.message.Message.{Message}
use Rattle.ndc_model_cells.specs.Writing.{Entry, Desk, alone, batch_below, carried_by, command_entries, entry_of, first_batch, goes_on_as, greatest_task, greatest_version, is_close_full, is_writer, key_behind, may_write_by, next_key, reapplication_below, reset_below, reset_close, reset_entries, reset_refused}
use Rattle.ndc_command.specs.Laws.{begins_run}
use Rattle.ndc_command.specs.Plan.{plan_of}
use Rattle.ndc_command.specs.declared.command.Command.{Command}
use Rattle.ndc_command.specs.declared.refusal.CommandError.TheVariants.{Refused}
use Rattle.ndc_command.specs.declared.refusal.Refusal.TheVariants as refusal
use Rattle.ndc_domain.specs.Clusters.{writer_of}
use Rattle.ndc_domain.specs.declared.record.DomainRecord.{DomainRecord}
use Rattle.ndc_event.specs.Key.{key_lt, run_of}
use Rattle.ndc_event.specs.Outcome.{◌>>=◌}
use Rattle.ndc_event.specs.declared.batch.Batch.{Batch}
use Rattle.ndc_event.specs.declared.key.BatchKey.{BatchKey}
use Rattle.ndc_event.specs.declared.key.RunId.{RunId}
use Rattle.ndc_event.specs.declared.kind.EventKind.{EventKind}
use Rattle.ndc_event.specs.declared.name.Name.{Name}
use Rattle.ndc_reapply.specs.Reapplied.{reapplied}
use Rattle.ndc_reapply.specs.declared.stray.Stray.{Stray}
use Rattle.ndc_reset.specs.Reset.{reset_of}
use Rattle.ndc_shard_runs.specs.RunMap.{part_of}
use Rattle.ndc_shard_runs.proofs.TakenLemmas.{task-up-to}
use Rattle.ndc_model_sets.specs.Branches.{workflow_tip}
use Rattle.ndc_model_sets.specs.Current.{state_to}
use Rattle.ndc_model_sets.specs.Paths.{events_to}
use Rattle.ndc_model_sets.specs.Sets.{Has, PointsBack, arrived, batch_at}
use Rattle.ndc_model_sets.specs.Sound.{IsSound}
use Rattle.ndc_model_sets.proofs.ArrivalLemmas.{is_there, was_or_new}
use Rattle.ndc_model_sets.proofs.BranchLemmas.{among-has, greatest-among, has-among}
use Rattle.ndc_model_sets.proofs.CurrentLaws.{workflow_is_greatest}
use Rattle.ndc_model_sets.proofs.KeyLemmas.{before-from, before-irrefl, before-trans}
use Rattle.ndc_model_sets.proofs.Lists.{Among}
use Rattle.ndc_model_sets.proofs.SetLemmas.{found-has, found-key}
use Rattle.ndc_state.specs.Value.{StateValue}
use Rattle.ndc_model_cells.specs.Messages.{IsCarriedBy, IsMessage, IsNewTo}
use Rattle.ndc_shard_entries.specs.Written.{AreWrittenTo, IsSecond, IsWrittenTo}
use Rattle.ndc_shard_entries.proofs.NewRunLemmas.{no-part}

-- the version with which a cluster may write is below no learned one
pub writes_ahead : (home : Desk) (one : Option DomainRecord) (batches : List Batch) → IfOk (may_write_by home one batches) (λ version. greatest_version batches ≤ version)
writes_ahead home None batches = tt
writes_ahead home (Some one) batches = by (is_writer home.me (writer_of home.clusters one.version)) (nat_lt one.version (greatest_version batches)) refl
  where
    by : (mine behind : Bool) → nat_lt one.version (greatest_version batches) ≡ behind
        → IfOk (if not mine then Err (refusal.NotActive one.version) else if behind then Err (refusal.Behind (greatest_version batches)) else Ok one.version) (λ version. greatest_version batches ≤ version)
    by false behind e = tt
    by true true e = tt
    by true false e = ltb-false one.version (greatest_version batches) e

-- no learned version is above the greatest
version-up-to : (batches : List Batch) (x : Batch) → Among x batches → x.key.version ≤ greatest_version batches
version-up-to [] x h = absurd h
version-up-to (y ∷ batches) x (inl same) = subst (λ (z : Batch). z.key.version ≤ max y.key.version (greatest_version batches)) (sym same) (omega arith)
version-up-to (y ∷ batches) x (inr h) = omega (arith, version-up-to batches x h)

-- each learned batch comes before the next key
next-above : (batches : List Batch) (version : ℕ) → greatest_version batches ≤ version → (b : Batch) → Has batches b → key_lt b.key (next_key version batches) ≡ true
next-above batches version top b has = before-from b.key (next_key version batches) (by (eq-or-lt_of_le least))
  where
    least : b.key.version ≤ version
    least = let v = version-up-to batches b (has-among batches b has) in omega (arith, v, top)

    tasks : b.key.task ≤ greatest_task batches
    tasks = task-up-to batches b (has-among batches b has)

    by : (b.key.version ≡ version) ⊎ (b.key.version < version) → (b.key.version < version) ⊎ ((b.key.version ≡ version) × (b.key.task < greatest_task batches + 1))
    by (inl e) = inr (e, omega (arith, tasks))
    by (inr l) = inl l

-- a key comes before the one after it
behind-later : (key : BatchKey) → key_lt key (key_behind key) ≡ true
behind-later key = before-from key (key_behind key) (inr (refl, omega arith))

-- a key that comes after all is new
above-fresh : (batches : List Batch) (key : BatchKey) → ((b : Batch) → Has batches b → key_lt b.key key ≡ true) → batch_at key batches ≡ None
above-fresh batches key above = by (batch_at key batches) refl
  where
    by : (o : Option Batch) → batch_at key batches ≡ o → o ≡ None
    by None e = refl
    by (Some b) e =
        let same : b.key ≡ key = found-key batches key b e in
        absurd (before-irrefl key (subst (λ (k : BatchKey). key_lt k key ≡ true) same (above b (found-has batches key b e))))

-- the tip is learned
pub tip-has : (batches : List Batch) → IsSound batches → (tip : Batch) → workflow_tip batches ≡ Some tip → Has batches tip
tip-has batches sound tip e =
    among-has batches tip sound.set.ordered
    (greatest-among batches tip (sym (workflow_is_greatest batches sound.set sound.closed sound.parents sound.chains) ∙ e))

module _ (batches : List Batch) (domain workflow : Name) (key : BatchKey) (above : (b : Batch) → Has batches b → key_lt b.key key ≡ true) (next : key.task ≤ greatest_task batches + 1) where
  below-back : (tip : Batch) → Has batches tip → (s : StateValue) (kinds : List EventKind) → PointsBack (batch_below domain workflow key tip s kinds)
  below-back tip has s kinds parent e = let same : tip.key ≡ parent = cc in subst (λ (k : BatchKey). key_lt k key ≡ true) same (above tip has)

  below-written : (tip : Batch) → Has batches tip → (s : StateValue) (kinds : List EventKind) (second : Option Batch) → IfSome second (IsSecond domain workflow (batch_below domain workflow key tip s kinds))
      → IsWrittenTo batches domain workflow (record { batch = batch_below domain workflow key tip s kinds; second = second })
  below-written tip has s kinds second fits = record { of = record { domain_is = refl; workflow_is = refl }; above = above; task_most = next; back = below-back tip has s kinds; second = fits }

  first-written : (kinds : List EventKind) → IsWrittenTo batches domain workflow (alone (first_batch domain workflow key None kinds))
  first-written kinds = record { of = record { domain_is = refl; workflow_is = refl }; above = above; task_most = next; back = λ earlier e. absurd (cc); second = tt }

  carried-second : (b : Batch) → b.key ≡ key → (o : Option Name) → IfSome (carried_by domain workflow key o) (IsSecond domain workflow b)
  carried-second b same None = tt
  carried-second b same (Some workflow_type) = record {
    of = record { domain_is = refl; workflow_is = refl };
    carried = record { key = ap key_behind (sym same); parent = refl; carrier = ap Some (sym same) };
    run = refl;
  }

  entry-written : (begins : Bool) (tip : Option Batch) → ((t : Batch) → tip ≡ Some t → Has batches t) → (kinds : List EventKind)
      → IsWrittenTo batches domain workflow (entry_of domain workflow begins key tip batches kinds)
  entry-written true tip has kinds = first-written kinds
  entry-written false None has kinds = first-written kinds
  entry-written false (Some tip) has kinds =
      let s = state_to tip.run tip.key batches in
      below-written tip (has tip refl) s kinds (carried_by domain workflow key (goes_on_as kinds)) (carried-second (batch_below domain workflow key tip s kinds) refl (goes_on_as kinds))

-- what the first batch of a new run is written to, where the old one is closed before
closed-above : (batches : List Batch) → IsSound batches → (b : Batch) → ((x : Batch) → Has batches x → key_lt x.key b.key ≡ true)
    → (x : Batch) → Has (arrived b batches) x → key_lt x.key (key_behind b.key) ≡ true
closed-above batches sound b above x has = by (was_or_new b batches x sound.set.ordered has)
  where
    by : (x ≡ b) ⊎ Has batches x → key_lt x.key (key_behind b.key) ≡ true
    by (inl same) = subst (λ (y : Batch). key_lt y.key (key_behind b.key) ≡ true) (sym same) (behind-later b.key)
    by (inr old) = before-trans x.key b.key (key_behind b.key) (above x old) (behind-later b.key)

closed-next : (batches : List Batch) → IsSound batches → (b : Batch) → ((x : Batch) → Has batches x → key_lt x.key b.key ≡ true) → (key_behind b.key).task ≤ greatest_task (arrived b batches) + 1
closed-next batches sound b above =
    let there = is_there b batches sound.set.ordered (above-fresh batches b.key above) in
    let most = task-up-to (arrived b batches) b (has-among (arrived b batches) b there) in
    omega (arith, most)

-- what holds where there is a value holds of what is made of it
pub after-ok : {A B E : Type 0} (P : B → Type 0) (r : Result A E) (f : A → Result B E) → ((x : A) → r ≡ Ok x → IfOk (f x) P) → IfOk (r >>= f) P
after-ok P (Ok x) f each = each x refl
after-ok P (Err error) f each = tt

module _ (batches : List Batch) (version : ℕ) (domain workflow : Name) (sound : IsSound batches) (top : greatest_version batches ≤ version) where
  abbrev key : BatchKey
  key = next_key version batches

  abbrev above : (b : Batch) → Has batches b → key_lt b.key key ≡ true
  above = next-above batches version top

  next : key.task ≤ greatest_task batches + 1
  next = omega arith

  pub command-behind : (limit : ℕ) (command : Command) → IfOk (command_entries domain workflow command limit version batches) (AreWrittenTo batches domain workflow)
  command-behind limit command =
      after-ok (AreWrittenTo batches domain workflow) (plan_of _ command version limit (run_of (key_behind key))) _
      (λ kinds e. (entry-written batches domain workflow key above next (begins_run command) (workflow_tip batches) (tip-has batches sound) kinds, tt))

  reset-written : (limit : ℕ) (tip : Batch) → Has batches tip → (s : StateValue) (kinds : List EventKind) → IfOk (reset_entries domain workflow limit key tip s kinds) (AreWrittenTo batches domain workflow)
  reset-written limit tip has s kinds = by (is_close_full limit s version) s.running
    where
      closing : Batch
      closing = batch_below domain workflow key tip s (reset_close s version)

      by : (full running : Bool) → IfOk (if full then Err (Refused refusal.HistoryFull) else Ok ((if running then alone closing ∷ [] else []) ++ alone (first_batch domain workflow (if running then key_behind key else key) None kinds) ∷ [])) (AreWrittenTo batches domain workflow)
      by true running = tt
      by false true = (
        below-written batches domain workflow key above next tip has s (reset_close s version) None tt,
        (first-written (arrived closing batches) domain workflow (key_behind key) (closed-above batches sound closing above) (closed-next batches sound closing above) kinds, tt),
      )
      by false false = (first-written batches domain workflow key above next kinds, tt)

  pub reset-behind : (event limit : ℕ) (tip : Option Batch) → workflow_tip batches ≡ tip → IfOk (reset_below domain workflow event limit version tip batches) (AreWrittenTo batches domain workflow)
  reset-behind event limit None e = tt
  reset-behind event limit (Some tip) e =
      after-ok (AreWrittenTo batches domain workflow) (reset_refused (reset_of (events_to tip.key batches) tip.run event limit)) _
      (λ kinds f. reset-written limit tip (tip-has batches sound tip e) (state_to tip.run tip.key batches) kinds)

  pub reapplication-behind : (tip : Option Batch) → workflow_tip batches ≡ tip → (list : List Stray) → AreWrittenTo batches domain workflow (reapplication_below domain workflow version tip batches list)
  reapplication-behind None e list = tt
  reapplication-behind (Some tip) e [] = tt
  reapplication-behind (Some tip) e (stray ∷ list) = by s.running
    where
      s : StateValue
      s = state_to tip.run tip.key batches

      by : (running : Bool) → AreWrittenTo batches domain workflow (if running then alone (batch_below domain workflow key tip s (reapplied s version (stray ∷ list))) ∷ [] else [])
      by true = (below-written batches domain workflow key above next tip (tip-has batches sound tip e) s (reapplied s version (stray ∷ list)) None tt, tt)
      by false = tt

-- what is sent of an entry
module _ (batches : List Batch) (domain workflow : Name) (entry : Entry) (sent : Message) (is : IsWrittenTo batches domain workflow entry) (one : sent.batch ≡ entry.batch) (two : sent.second ≡ entry.second) where
  pub sent-message : IsMessage sent
  sent-message = record {
    back = subst PointsBack (sym one) is.back;
    second = subst (λ (o : Option Batch). IfSome o (IsCarriedBy sent.batch)) (sym two) (subst (λ (b : Batch). IfSome entry.second (IsCarriedBy b)) (sym one) (by entry.second is.second));
  }
    where
      by : (o : Option Batch) → IfSome o (IsSecond domain workflow entry.batch) → IfSome o (IsCarriedBy entry.batch)
      by None none = tt
      by (Some second) it = it.carried

  pub sent-new : IsNewTo batches sent
  sent-new = (
    ap (λ (b : Batch). batch_at b.key batches) one ∙ above-fresh batches entry.batch.key is.above,
    subst (λ (o : Option Batch). AllByRecursion (λ b. batch_at b.key batches ≡ None) (option_to_list o)) (sym two) (by entry.second is.second),
  )
    where
      by : (o : Option Batch) → IfSome o (IsSecond domain workflow entry.batch) → AllByRecursion (λ b. batch_at b.key batches ≡ None) (option_to_list o)
      by None none = tt
      by (Some second) it = (
        ap (λ (k : BatchKey). batch_at k batches) it.carried.key
            ∙ above-fresh batches (key_behind entry.batch.key) (λ b has. before-trans b.key entry.batch.key (key_behind entry.batch.key) (is.above b has) (behind-later entry.batch.key)),
        tt,
      )

-- the batch that is carried, after the one that carries it
module _ (batches : List Batch) (domain workflow : Name) (entry : Entry) (second : Batch) (sound : IsSound batches) (is : IsWrittenTo batches domain workflow entry) (two : entry.second ≡ Some second) where
  carried : IsSecond domain workflow entry.batch second
  carried = subst (λ (o : Option Batch). IfSome o (IsSecond domain workflow entry.batch)) two is.second

  pub second-fresh : batch_at second.key (arrived entry.batch batches) ≡ None
  second-fresh =
      ap (λ (k : BatchKey). batch_at k (arrived entry.batch batches)) carried.carried.key
      ∙ above-fresh (arrived entry.batch batches) (key_behind entry.batch.key) (closed-above batches sound entry.batch is.above)

  pub second-begins : IsSound (arrived entry.batch batches) → greatest_task batches ≤ 10 ^ 12 → part_of second.run (arrived entry.batch batches) ≡ []
  second-begins after few =
      let key = ap (λ (k : BatchKey). k.task) carried.carried.key in
      let most = is.task_most in
      ap (λ (run : RunId). part_of run (arrived entry.batch batches)) carried.run
      ∙ no-part (arrived entry.batch batches) after small second.key (omega (arith, key, most, few)) second-fresh
    where
      small : (b : Batch) → Has (arrived entry.batch batches) b → b.key.task < 2 ^ 64
      small b has = by (was_or_new entry.batch batches b sound.set.ordered has)
        where
          by : (b ≡ entry.batch) ⊎ Has batches b → b.key.task < 2 ^ 64
          by (inl same) = let e = ap (λ (x : Batch). x.key.task) same in let most = is.task_most in omega (arith, e, most, few)
          by (inr old) = let most = task-up-to batches b (has-among batches b old) in omega (arith, most, few)
