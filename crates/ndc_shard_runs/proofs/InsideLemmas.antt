-- What is learned of a workflow, with one more batch.
use Rattle.std.proofs.Common.{◌≡◌, ℕ, Bool, true, false, not, ◌&&◌, nat_lt, ◌==◌, max, List, [], ◌∷◌, Option, Some, None, if◌then◌else◌, refl, sym, ◌∙◌, subst, ap, true≢false, arith}
use Rattle.std.specs.Prelude.{is_some}
use Rattle.std.specs.List.{AllByRecursion}
use Rattle.std.specs.Option.{option_map}
use Rattle.ndc_event.specs.Key.{key_lt, key_eq}
use Rattle.ndc_event.specs.declared.batch.Batch.{Batch}
use Rattle.ndc_event.specs.declared.key.BatchKey.{BatchKey}
use Rattle.ndc_event.specs.declared.key.RunId.{RunId}
use Rattle.ndc_model_cells.specs.Writing.{greatest_task}
use Rattle.ndc_model_sets.specs.Branches.{same_run}
use Rattle.ndc_model_sets.specs.Sets.{Rise, batch_at, Has, arrived}
use Rattle.ndc_model_sets.specs.Sound.{CopiesNamed, IsSound}
use Rattle.std.proofs.lemmas.Bool.Decides.{nat_tests}
use Rattle.ndc_model_sets.proofs.ArrivalLemmas.{is_there}
use Rattle.ndc_model_sets.proofs.KeyLemmas.{key_eq-self, same-keys}
use Rattle.ndc_model_sets.specs.Last.{is_nil}
use Rattle.ndc_tree.specs.Tree.{TreeValue}
use Rattle.ndc_shard_runs.specs.declared.runs.Runs.TheInside.{Inside}
use Rattle.ndc_shard_runs.specs.Fields.{IsRunsInside}
use Rattle.std.proofs.lemmas.Bool.{and_parts}
use Rattle.ndc_reapply.specs.declared.stray.Stray.{Stray}
use Rattle.ndc_model_sets.specs.Current.{current_state}
use Rattle.ndc_state.specs.Value.{StateValue}
use Rattle.ndc_shard_runs.specs.Kept.{AreKnown, after_batch, follows, is_open, Follows, after_any, lies_beside}
use Rattle.ndc_shard_runs.specs.RunMap.{all_of, batches_of, part_of, run_at, begun, grown, with_run, with_grown, with_batch}
use Rattle.ndc_shard_runs.proofs.AllLemmas.{all-with, parts-with}
use Rattle.ndc_shard_runs.proofs.ArrivedLemmas.{Rise-arrived, none-before, none-after, filter-arrived, arrived-swap, greatest-arrived}
use Rattle.ndc_shard_runs.proofs.BesideLemmas.{known-any}
use Rattle.ndc_shard_runs.proofs.FollowLemmas.{known-when, follows-is, follows-both}
use Rattle.ndc_shard_runs.proofs.LearnLemmas.{found-run}
use Rattle.ndc_shard_runs.proofs.PartLemmas.{has-part}
use Rattle.ndc_shard_runs.proofs.StrayLemmas.{part-current}

-- what holds of the fields whatever the batches are
pub record IsIndex (runs : List TreeValue) (task : ℕ) : Type 0 where
  pub rise : Rise (all_of runs)
  pub parts : (run : RunId) → batches_of (run_at run runs) ≡ part_of run (all_of runs)
  pub full : AllByRecursion (λ run. is_nil run.batches ≡ false) runs
  pub greatest : task ≡ greatest_task (all_of runs)

pub index-of : (r : Inside) → IsRunsInside r → IsIndex r.runs r.greatest_task
index-of r inside = record { rise = inside.sound.set.ordered; parts = inside.parts; full = inside.full; greatest = inside.task }

pub inside-of : (r : Inside) → IsSound (all_of r.runs) → AreKnown (all_of r.runs) r.strays → IsIndex r.runs r.greatest_task → (r.named ≡ true → CopiesNamed (all_of r.runs)) → IsRunsInside r
inside-of r sound known x named = record { sound = sound; known = known; parts = x.parts; full = x.full; task = x.greatest; named = named }

not-empty : (b : Batch) (batches : List Batch) → is_nil (arrived b batches) ≡ false
not-empty b [] = refl
not-empty b (x ∷ xs) = by (key_lt b.key x.key) (key_eq b.key x.key)
  where
    by : (l e : Bool) → is_nil (if l then b ∷ x ∷ xs else if e then x ∷ xs else x ∷ arrived b xs) ≡ false
    by true e = refl
    by false true = refl
    by false false = refl

full-grown : (b : Batch) (runs : List TreeValue) → AllByRecursion (λ run. is_nil run.batches ≡ false) runs → AllByRecursion (λ run. is_nil run.batches ≡ false) (with_grown b runs)
full-grown b [] full = tt
full-grown b (x ∷ xs) full = by (same_run x.run b.run) (full-grown b xs full.1)
  where
    by : (t : Bool) → AllByRecursion (λ run. is_nil run.batches ≡ false) (with_grown b xs) → AllByRecursion (λ run. is_nil run.batches ≡ false) (if t then grown b x ∷ xs else x ∷ with_grown b xs)
    by true rest = (not-empty b x.batches, full.1)
    by false rest = (full.0, rest)

full-begun : (b : Batch) (runs : List TreeValue) → AllByRecursion (λ run. is_nil run.batches ≡ false) runs → AllByRecursion (λ run. is_nil run.batches ≡ false) (with_run (begun b) runs)
full-begun b [] full = (refl, tt)
full-begun b (x ∷ xs) full = by (nat_lt b.run.value x.run.value) (same_run x.run b.run) (full-begun b xs full.1)
  where
    by : (l t : Bool) → AllByRecursion (λ run. is_nil run.batches ≡ false) (with_run (begun b) xs)
        → AllByRecursion (λ run. is_nil run.batches ≡ false) (if l then begun b ∷ x ∷ xs else if t then begun b ∷ xs else x ∷ with_run (begun b) xs)
    by true t rest = (refl, full)
    by false true rest = (refl, full.1)
    by false false rest = (full.0, rest)

full-with : (b : Batch) (runs : List TreeValue) → AllByRecursion (λ run. is_nil run.batches ≡ false) runs → AllByRecursion (λ run. is_nil run.batches ≡ false) (with_batch b runs)
full-with b runs full = by (is_some (run_at b.run runs))
  where
    by : (t : Bool) → AllByRecursion (λ run. is_nil run.batches ≡ false) (if t then with_grown b runs else with_run (begun b) runs)
    by true = full-grown b runs full
    by false = full-begun b runs full

pub index-moved : (runs others : List TreeValue) (task most : ℕ) → runs ≡ others → task ≡ most → IsIndex runs task → IsIndex others most
index-moved runs others task most p q x = subst (λ n. IsIndex others n) q (subst (λ (l : List TreeValue). IsIndex l task) p x)

-- the run of an id, where it has no batch, is none
pub no-run : (run : RunId) (runs : List TreeValue) → AllByRecursion (λ r. is_nil r.batches ≡ false) runs → batches_of (run_at run runs) ≡ [] → run_at run runs ≡ None
no-run run [] full e = refl
no-run run (x ∷ xs) full e = by (same_run x.run run) e (no-run run xs full.1)
  where
    by : (t : Bool) → batches_of (if t then Some x else run_at run xs) ≡ [] → (batches_of (run_at run xs) ≡ [] → run_at run xs ≡ None) → (if t then Some x else run_at run xs) ≡ None
    by true h rest = let no : is_nil x.batches ≡ true = ap is_nil h in let some : is_nil x.batches ≡ false = full.0 in absurd (cc)
    by false h rest = rest h

module _ (runs : List TreeValue) (task : ℕ) (x : IsIndex runs task) (b : Batch) (none : batch_at b.key (all_of runs) ≡ None) where
  pub all-is : all_of (with_batch b runs) ≡ arrived b (all_of runs)
  all-is = all-with b runs none

  task-is : max task b.key.task ≡ greatest_task (all_of (with_batch b runs))
  task-is = ap (λ n. max n b.key.task) x.greatest ∙ turn (greatest_task (all_of runs)) b.key.task ∙ sym (greatest-arrived b (all_of runs) none) ∙ ap greatest_task (sym all-is)
    where
      turn : (m n : ℕ) → max m n ≡ max n m
      turn m n = omega arith

  -- the fields with one more batch
  pub index-with : IsIndex (with_batch b runs) (max task b.key.task)
  index-with = record {
    rise = subst Rise (sym all-is) (Rise-arrived b (all_of runs) x.rise);
    parts = parts-with b runs x.rise none x.parts;
    full = full-with b runs x.full;
    greatest = task-is;
  }

module _ (r : Inside) (inside : IsRunsInside r) (b : Batch) (none : batch_at b.key (all_of r.runs) ≡ None) where
  pub inside-with : (after : Inside) (s t : Bool) → IsSound (arrived b (all_of r.runs)) → s ≡ lies_beside (all_of r.runs) b → t ≡ follows (all_of r.runs) b → after.strays ≡ after_any b s t r.strays → after.runs ≡ with_batch b r.runs
      → after.greatest_task ≡ max r.greatest_task b.key.task → (after.named ≡ true → CopiesNamed (arrived b (all_of r.runs))) → IsRunsInside after
  inside-with after s t sound lies told strays runs task named =
      let all : all_of after.runs ≡ arrived b (all_of r.runs) = ap all_of runs ∙ all-is r.runs r.greatest_task (index-of r inside) b none in
      inside-of after (subst IsSound (sym all) sound)
      (subst (λ (l : List Batch). AreKnown l after.strays) (sym all)
      (subst (AreKnown (arrived b (all_of r.runs))) (sym strays) (known-any (all_of r.runs) b r.strays s t inside.sound sound none lies told inside.known)))
      (index-moved (with_batch b r.runs) after.runs (max r.greatest_task b.key.task) after.greatest_task (sym runs) (sym task)
      (index-with r.runs r.greatest_task (index-of r inside) b none)) (λ e. subst CopiesNamed (sym all) (named e))

-- the fields with two more batches, of which the second begins a run
module _ (r : Inside) (inside : IsRunsInside r) (b second : Batch) (none : batch_at b.key (all_of r.runs) ≡ None) (fresh : batch_at second.key (arrived b (all_of r.runs)) ≡ None)
    (begins : part_of second.run (arrived b (all_of r.runs)) ≡ []) where
  x : IsIndex r.runs r.greatest_task
  x = index-of r inside

  pub other-key : key_eq b.key second.key ≡ false
  other-key = (none-before b (all_of r.runs) second.key fresh).0

  pub second-none : batch_at second.key (all_of r.runs) ≡ None
  second-none = (none-before b (all_of r.runs) second.key fresh).1

  apart : (key_eq second.key b.key ≡ false)
  apart = by (key_eq second.key b.key) refl
    where
      by : (t : Bool) → key_eq second.key b.key ≡ t → key_eq second.key b.key ≡ false
      by true e = absurd (true≢false (sym (subst (λ (k : BatchKey). key_eq b.key k ≡ true) (sym (same-keys second.key b.key e)) (key_eq-self b.key)) ∙ other-key))
      by false e = e

  pub second-apart : key_eq second.key b.key ≡ false
  second-apart = apart

  parts-before : (if same_run b.run second.run then arrived b (part_of second.run (all_of r.runs)) else part_of second.run (all_of r.runs)) ≡ []
  parts-before = sym (filter-arrived (λ y. same_run y.run second.run) b (all_of r.runs) x.rise none) ∙ begins

  run-apart : same_run b.run second.run ≡ false
  run-apart = by (same_run b.run second.run) refl
    where
      by : (t : Bool) → same_run b.run second.run ≡ t → same_run b.run second.run ≡ false
      by true e =
          let some : is_nil (arrived b (part_of second.run (all_of r.runs))) ≡ false = not-empty b (part_of second.run (all_of r.runs)) in
          let no : arrived b (part_of second.run (all_of r.runs)) ≡ [] = ap (λ t. if t then arrived b (part_of second.run (all_of r.runs)) else part_of second.run (all_of r.runs)) (sym e) ∙ parts-before in
          absurd (true≢false (sym (ap is_nil no) ∙ some))
      by false e = e

  pub other-run : same_run second.run b.run ≡ false
  other-run = flip second.run.value b.run.value ∙ run-apart
    where
      flip : (m n : ℕ) → (m == n) ≡ (n == m)
      flip m n = grind (arith, nat_tests)

  pub second-run : run_at second.run r.runs ≡ None
  second-run = no-run second.run r.runs x.full
      (x.parts second.run ∙ ap (λ t. if t then arrived b (part_of second.run (all_of r.runs)) else part_of second.run (all_of r.runs)) (sym run-apart) ∙ parts-before)

  both-none : batch_at b.key (all_of (with_batch second r.runs)) ≡ None
  both-none = ap (batch_at b.key) (all-is r.runs r.greatest_task x second second-none) ∙ none-after second (all_of r.runs) b.key apart none

  pub all-both : all_of (with_batch b (with_batch second r.runs)) ≡ arrived second (arrived b (all_of r.runs))
  all-both =
      all-with b (with_batch second r.runs) both-none ∙ ap (arrived b) (all-is r.runs r.greatest_task x second second-none) ∙ arrived-swap b second (all_of r.runs) other-key

  pub inside-both : (after : Inside) → IsSound (arrived second (arrived b (all_of r.runs))) → AreKnown (arrived second (arrived b (all_of r.runs))) after.strays → after.runs ≡ with_batch b (with_batch second r.runs)
      → after.greatest_task ≡ max (max r.greatest_task second.key.task) b.key.task → (after.named ≡ true → CopiesNamed (arrived second (arrived b (all_of r.runs)))) → IsRunsInside after
  inside-both after sound known runs task named =
      inside-of after (subst IsSound (sym (ap all_of runs ∙ all-both)) sound) (subst (λ (l : List Batch). AreKnown l after.strays) (sym (ap all_of runs ∙ all-both)) known)
      (index-moved (with_batch b (with_batch second r.runs)) after.runs (max (max r.greatest_task second.key.task) b.key.task) after.greatest_task (sym runs) (sym task)
      (index-with (with_batch second r.runs) (max r.greatest_task second.key.task) (index-with r.runs r.greatest_task x second second-none) b both-none))
      (λ e. subst CopiesNamed (sym (ap all_of runs ∙ all-both)) (named e))

  -- the state of the first batch's run, in the map, is that of its current branch
  state-both : IsSound (arrived b (all_of r.runs)) → is_open (option_map (λ v. current_state v.run v.batches) (run_at b.run (with_batch b (with_batch second r.runs)))) ≡ false
      → (current_state b.run (arrived b (all_of r.runs))).running ≡ false
  state-both sound h = by (run_at b.run (with_batch b (with_batch second r.runs))) refl h
    where
      parts-both : batches_of (run_at b.run (with_batch b (with_batch second r.runs))) ≡ part_of b.run (arrived b (all_of r.runs))
      parts-both =
          (index-with (with_batch second r.runs) (max r.greatest_task second.key.task) (index-with r.runs r.greatest_task x second second-none) b both-none).parts b.run
          ∙ ap (part_of b.run) all-both ∙ filter-arrived (λ y. same_run y.run b.run) second (arrived b (all_of r.runs)) sound.set.ordered fresh
          ∙ ap (λ t. if t then arrived second (part_of b.run (arrived b (all_of r.runs))) else part_of b.run (arrived b (all_of r.runs))) other-run

      mine : Has (part_of b.run (arrived b (all_of r.runs))) b
      mine = has-part (arrived b (all_of r.runs)) sound b.run b (is_there b (all_of r.runs) x.rise none) refl

      by : (o : Option TreeValue) → run_at b.run (with_batch b (with_batch second r.runs)) ≡ o → is_open (option_map (λ v. current_state v.run v.batches) o) ≡ false
          → (current_state b.run (arrived b (all_of r.runs))).running ≡ false
      by None e g =
          let empty : part_of b.run (arrived b (all_of r.runs)) ≡ [] = sym parts-both ∙ ap batches_of e in
          let no : Has [] b = subst (λ (l : List Batch). Has l b) empty mine in absurd (cc)
      by (Some v) e g =
          ap (λ (s : StateValue). s.running) (sym (part-current (arrived b (all_of r.runs)) sound b.run))
          ∙ ap (λ (l : List Batch). (current_state b.run l).running) (sym parts-both ∙ ap batches_of e)
          ∙ ap (λ (i : RunId). (current_state i v.batches).running) (sym (found-run b.run (with_batch b (with_batch second r.runs)) v e)) ∙ g

  -- what is known of the strays after both
  pub known-both : (s t u : Bool) (mid last : Option (List Stray)) → IsSound (arrived b (all_of r.runs)) → IsSound (arrived second (arrived b (all_of r.runs))) → second.parent ≡ None
      → s ≡ lies_beside (all_of r.runs) b → t ≡ follows (all_of r.runs) b
      → u ≡ (t && (key_lt b.key second.key && not (is_open (option_map (λ v. current_state v.run v.batches) (run_at b.run (with_batch b (with_batch second r.runs)))))))
      → mid ≡ after_any b s t r.strays → last ≡ after_batch second u mid → AreKnown (arrived second (arrived b (all_of r.runs))) last
  known-both s t u mid last sound both first lies told tells m l =
      subst (AreKnown (arrived second (arrived b (all_of r.runs)))) (sym l)
      (known-when (arrived b (all_of r.runs)) second mid u sound both fresh follows-second
      (subst (AreKnown (arrived b (all_of r.runs))) (sym m) (known-any (all_of r.runs) b r.strays s t inside.sound sound none lies told inside.known)))
    where
      fails : (s : Bool) → not s ≡ true → s ≡ false
      fails true k = absurd (true≢false (sym k))
      fails false k = refl

      follows-second : u ≡ true → Follows (arrived b (all_of r.runs)) second
      follows-second h =
          let p = and_parts t (key_lt b.key second.key && not (is_open (option_map (λ v. current_state v.run v.batches) (run_at b.run (with_batch b (with_batch second r.runs)))))) (sym tells ∙ h) in
          let q = and_parts (key_lt b.key second.key) (not (is_open (option_map (λ v. current_state v.run v.batches) (run_at b.run (with_batch b (with_batch second r.runs)))))) p.1 in
          follows-both (all_of r.runs) b second inside.sound sound none (follows-is (all_of r.runs) b (sym told ∙ p.0)) first begins q.0
          (state-both sound (fails (is_open (option_map (λ v. current_state v.run v.batches) (run_at b.run (with_batch b (with_batch second r.runs))))) q.1))
