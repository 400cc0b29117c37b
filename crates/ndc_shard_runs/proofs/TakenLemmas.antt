-- A batch with which the set is sound is taken by its run.
use Rattle.std.proofs.Common.{◌≡◌, ◌+◌, ◌*◌, ◌<◌, ◌≤◌, ◌^◌, ℕ, Bool, true, false, not, ◌&&◌, ◌==◌, max, List, [], ◌∷◌, ◌⊎◌, inl, inr, Option, Some, None, Result, Ok, Err, IsOk, if◌then◌else◌, refl, sym, ◌∙◌, subst, ap, true≢false, arith}
use Rattle.std.specs.Prelude.{is_some}
use Rattle.std.proofs.lemmas.Bool.{and_parts, and_from, eqb-true, eq-eqb, cases_lt}
use Rattle.ndc_event.specs.Batch.{fault_of, is_first_fit}
use Rattle.ndc_event.specs.Key.{key_lt, run_of}
use Rattle.ndc_event.specs.Outcome.{◌>>=◌}
use Rattle.ndc_event.specs.declared.batch.Batch.{Batch}
use Rattle.ndc_event.specs.declared.key.BatchKey.{BatchKey}
use Rattle.ndc_event.specs.declared.key.RunId.{RunId}
use Rattle.ndc_run.specs.Learning.{or_error, of_state_error, of_tree_error, passes_by, joined, learned}
use Rattle.ndc_run.specs.declared.answer.Learned.TheVariants.{New}
use Rattle.ndc_model_cells.specs.Writing.{greatest_task}
use Rattle.ndc_model_sets.specs.Branches.{same_run, current_tip}
use Rattle.ndc_model_sets.specs.Learned.{has_key}
use Rattle.ndc_model_sets.specs.Paths.{path_to, events_to, first_id, last_id}
use Rattle.ndc_model_sets.specs.Sets.{earlier_of, Rise, batch_at, Has, arrived}
use Rattle.ndc_model_sets.specs.Sound.{IsSound}
use Rattle.ndc_model_sets.proofs.ArrivalLemmas.{is_there, stays, was_or_new}
use Rattle.ndc_model_sets.proofs.BranchLemmas.{has-among, among-has, same-run, Rise-filter}
use Rattle.ndc_model_sets.proofs.CurrentLemmas.{path-begins}
use Rattle.ndc_model_sets.proofs.FaultLemmas.{passes}
use Rattle.ndc_model_sets.proofs.ForkLemmas.{path-run}
use Rattle.ndc_model_sets.proofs.KeyLemmas.{before-from, before-irrefl, key-parts}
use Rattle.ndc_model_sets.proofs.Lists.{Among, find-among}
use Rattle.ndc_model_sets.proofs.PathLemmas.{parent-back, part-path, path_is}
use Rattle.ndc_model_sets.proofs.SetLemmas.{found-key, found-has, has-found}
use Rattle.ndc_model_sets.proofs.SoundLemmas.{faultless-back}
use Rattle.ndc_state.specs.Replay.{replay_of}
use Rattle.ndc_tree.specs.Fitting.{key_behind, is_of_version, splits_version, goes_on, is_below, fits}
use Rattle.ndc_tree.specs.Inserting.{inserted, placed}
use Rattle.ndc_tree.proofs.RiseLemmas.{find-passes}
use Rattle.ndc_model_sets.specs.Last.{is_nil, first_from}
use Rattle.ndc_shard_runs.specs.RunMap.{part_of}
use Rattle.ndc_shard_runs.proofs.ArrivedLemmas.{none-filter, filter-arrived, greatest-arrived}
use Rattle.ndc_shard_runs.proofs.PartLemmas.{part-has, found-part, part-events}
use Rattle.ndc_shard_runs.proofs.ReadLemmas.{new-faultless}
use Rattle.ndc_shard_runs.proofs.TreeLemmas.{next-of-version}

-- run ids of one number are those of one key
pub one-key : (v t w u : ℕ) → t < 2 ^ 64 → u < 2 ^ 64 → v * 2 ^ 64 + t ≡ w * 2 ^ 64 + u → (v ≡ w) × (t ≡ u)
one-key v t w u l m e = (omega (arith, l, m, e), omega (arith, l, m, e))

-- a batch that begins a run, and whose key is new, is the first of it
pub run-is-new : (batches : List Batch) (b : Batch) → IsSound batches → fault_of b ≡ None → b.parent ≡ None → batch_at b.key batches ≡ None → ((x : Batch) → Has batches x → x.key.task < 2 ^ 64) → b.key.task < 2 ^ 64
    → part_of b.run batches ≡ []
run-is-new batches b sound ok first none small own-small = by (part_of b.run batches) refl
  where
    number : (y : Batch) → fault_of y ≡ None → y.parent ≡ None → y.run.value ≡ y.key.version * 2 ^ 64 + y.key.task
    number y f g =
        let fit : is_first_fit y (passes y f).event.id None ≡ true = subst (λ (o : Option BatchKey). is_first_fit y (passes y f).event.id o ≡ true) g (passes y f).first in
        eqb-true y.run.value (run_of y.key).value (and_parts ((passes y f).event.id == 1) (y.run.value == (run_of y.key).value) fit).1

    never : (x : Batch) → Has (part_of b.run batches) x → ⊥
    never x h =
        let q = part-has batches sound b.run x h in
        let s = path-begins batches x (path_to x.key batches) sound.parents (path_is batches x sound.set sound.closed q.0) in
        let same : s.0.run.value ≡ b.run.value = ap (λ (r : RunId). r.value) (s.3 ∙ q.1) in
        let k = one-key s.0.key.version s.0.key.task b.key.version b.key.task (small s.0 s.1) own-small (sym (number s.0 (sound.faultless s.0 s.1) s.2) ∙ same ∙ number b ok first) in
        let found : batch_at b.key batches ≡ Some s.0 = has-found batches b.key s.0 (key-parts s.0.key b.key k.0 k.1) s.1 in cc

    by : (l : List Batch) → part_of b.run batches ≡ l → l ≡ []
    by [] f = refl
    by (x ∷ l) f = absurd (never x (among-has (part_of b.run batches) x (Rise-filter (λ y. same_run y.run b.run) batches sound.set.ordered) (subst (Among x) (sym f) (inl refl))))

module _ (batches : List Batch) (b : Batch) (sound : IsSound batches) (after : IsSound (arrived b batches)) (none : batch_at b.key batches ≡ None) where
  there : Has (arrived b batches) b
  there = is_there b batches sound.set.ordered none

  faultless : fault_of b ≡ None
  faultless = new-faultless b batches sound after none

  absent : Has batches b → ⊥
  absent has = cc

  parent-found : (key : BatchKey) → b.parent ≡ Some key → (c : Batch) × (batch_at key batches ≡ Some c) × (c.run ≡ b.run) × (last_id c.events + 1 ≡ first_id b.events)
  parent-found key e = by (batch_at key (arrived b batches)) refl (sym (ap (λ o. has_key o (arrived b batches)) (ap (λ p. earlier_of p b.carrier) e)) ∙ after.closed b there)
    where
      by : (o : Option Batch) → batch_at key (arrived b batches) ≡ o → is_some o ≡ true → (c : Batch) × (batch_at key batches ≡ Some c) × (c.run ≡ b.run) × (last_id c.events + 1 ≡ first_id b.events)
      by None at h = absurd (cc)
      by (Some c) at h = which (was_or_new b batches c sound.set.ordered (found-has (arrived b batches) key c at))
        where
          which : (c ≡ b) ⊎ Has batches c → (d : Batch) × (batch_at key batches ≡ Some d) × (d.run ≡ b.run) × (last_id d.events + 1 ≡ first_id b.events)
          which (inl same) =
              let own : b.key ≡ key = ap (λ (x : Batch). x.key) (sym same) ∙ found-key (arrived b batches) key c at in
              absurd (before-irrefl b.key (subst (λ (k : BatchKey). key_lt k b.key ≡ true) (sym own) (parent-back b (faultless-back b faultless) key e)))
          which (inr has) =
              let fit = after.parents b c key there e at in
              (c, has-found batches key c (found-key (arrived b batches) key c at) has, fit.run, fit.ids)

  -- a batch of its version in its run comes before the key after the parent
  module _ (x : Batch) (has : Has batches x) (own : x.run ≡ b.run) (version : x.key.version ≡ b.key.version) where
    in-both : Has (arrived b batches) x
    in-both = stays b batches sound.set.ordered x has

    not-behind : b.key.task < x.key.task → ⊥
    not-behind l =
        let on : Has (path_to x.key (arrived b batches)) b = after.chains b x there in-both (sym own) (sym version) l in
        let same = part-path batches (arrived b batches) x sound.set sound.closed after.set after.closed (stays b batches sound.set.ordered) has in
        let on2 : Has (path_to x.key batches) b = subst (λ (p : List Batch). Has p b) (sym same) on in
        absent (path-run batches x b (path_to x.key batches) sound.parents (path_is batches x sound.set sound.closed has) (has-among (path_to x.key batches) b on2)).0

    not-same : x.key.task ≡ b.key.task → ⊥
    not-same e =
        let one : x.key ≡ b.key = key-parts x.key b.key version e in
        let found : batch_at b.key batches ≡ Some x = has-found batches b.key x one has in cc

    before : x.key.task < b.key.task
    before = by (cases_lt x.key.task b.key.task) (cases_lt b.key.task x.key.task)
      where
        by : (x.key.task < b.key.task) ⊎ (b.key.task ≤ x.key.task) → (b.key.task < x.key.task) ⊎ (x.key.task ≤ b.key.task) → x.key.task < b.key.task
        by (inl l) _ = l
        by (inr l) (inl m) = absurd (not-behind m)
        by (inr l) (inr m) = absurd (not-same (omega (arith, l, m)))

    pub comes-before : key_lt x.key (key_behind b.key.version b.parent) ≡ true
    comes-before =
        let n = next-of-version (arrived b batches) after x b in-both there own version before in
        subst (λ (o : Option BatchKey). key_lt x.key (key_behind b.key.version o) ≡ true) (sym n.named)
        (subst (λ (t : Bool). key_lt x.key (if t then record { version = b.key.version; task = n.parent.task + 1 } else record { version = b.key.version; task = 0 }) ≡ true)
        (sym (eq-eqb n.parent.version b.key.version n.version)) (before-from x.key (record { version = b.key.version; task = n.parent.task + 1 }) (inr (version, omega (arith, n.next)))))

  unsplit : splits_version (part_of b.run batches) b.key.version b.parent ≡ false
  unsplit = by (first_from (key_behind b.key.version b.parent) (part_of b.run batches)) refl
    where
      by : (o : Option Batch) → first_from (key_behind b.key.version b.parent) (part_of b.run batches) ≡ o → is_of_version b.key.version o ≡ false
      by None e = refl
      by (Some x) e = of (x.key.version == b.key.version) refl
        where
          p : Has (part_of b.run batches) x → Has batches x × (x.run ≡ b.run)
          p h = part-has batches sound b.run x h

          mine : Has (part_of b.run batches) x
          mine = among-has (part_of b.run batches) x (part-rise) (find-among (λ y. not (key_lt y.key (key_behind b.key.version b.parent))) (part_of b.run batches) x e)
            where
              part-rise : Rise (part_of b.run batches)
              part-rise = Rise-filter (λ y. same_run y.run b.run) batches sound.set.ordered

          of : (t : Bool) → (x.key.version == b.key.version) ≡ t → (x.key.version == b.key.version) ≡ false
          of false f = f
          of true f =
              let q = p mine in
              let l : key_lt x.key (key_behind b.key.version b.parent) ≡ true = comes-before x q.0 q.1 (eqb-true x.key.version b.key.version f) in
              let n : not (key_lt x.key (key_behind b.key.version b.parent)) ≡ true = find-passes (λ y. not (key_lt y.key (key_behind b.key.version b.parent))) (part_of b.run batches) x e in
              absurd (true≢false (sym n ∙ ap not l))

  module _ (small : (x : Batch) → Has batches x → x.key.task < 2 ^ 64) (own-small : b.key.task < 2 ^ 64) where
    -- a batch without a parent is the only one of its run
    alone : b.parent ≡ None → is_nil (part_of b.run batches) ≡ true
    alone e = ap is_nil (run-is-new batches b sound faultless e none small own-small)

    reached : has_key b.parent (part_of b.run batches) ≡ true
    reached = by b.parent refl
      where
        by : (o : Option BatchKey) → b.parent ≡ o → has_key o (part_of b.run batches) ≡ true
        by None e = refl
        by (Some key) e = let c = parent-found key e in ap is_some (found-part batches sound b.run key c.0 c.1 c.2)

    is-below : is_below (part_of b.run batches) b b.parent ≡ true
    is-below = by b.parent refl
      where
        by : (o : Option BatchKey) → b.parent ≡ o → is_below (part_of b.run batches) b o ≡ true
        by None e = alone e
        by (Some key) e =
            let c = parent-found key e in
            ap (goes_on b) (found-part batches sound b.run key c.0 c.1 c.2) ∙ eq-eqb (last_id c.0.events + 1) (first_id b.events) c.3

    fitting : fits b.run (part_of b.run batches) b ≡ true
    fitting =
        and_from (same_run b.run b.run && not (is_some (batch_at b.key (part_of b.run batches)))) (is_below (part_of b.run batches) b b.parent && not (splits_version (part_of b.run batches) b.key.version b.parent))
        (and_from (same_run b.run b.run) (not (is_some (batch_at b.key (part_of b.run batches)))) (same-run b.run b.run refl)
        (ap (λ o. not (is_some o)) (none-filter (λ y. same_run y.run b.run) batches b.key none)))
        (and_from (is_below (part_of b.run batches) b b.parent) (not (splits_version (part_of b.run batches) b.key.version b.parent)) is-below (ap not unsplit))

    placed-there : inserted b.run (part_of b.run batches) b ≡ Ok (placed b.run (part_of b.run batches) b.key b.parent)
    placed-there = rw (reached, fitting) refl

    replays : IsOk (replay_of b.run (events_to b.key (arrived b (part_of b.run batches))))
    replays =
        subst (λ (l : List Batch). IsOk (replay_of b.run (events_to b.key l)))
        (filter-arrived (λ y. same_run y.run b.run) b batches sound.set.ordered none ∙ ap (λ t. if t then arrived b (part_of b.run batches) else part_of b.run batches) (same-run b.run b.run refl))
        (subst (λ events. IsOk (replay_of b.run events)) (sym (part-events (arrived b batches) after b.run b there refl)) (after.replays b there))

    -- its run takes it
    pub taken : IsOk (learned b.run (part_of b.run batches) b)
    taken = subst (λ r. IsOk (or_error of_tree_error r >>= (λ place. joined b.run (part_of b.run batches) b))) (sym placed-there) (goes of_state_error (λ _. New (passes_by b (current_tip b.run (part_of b.run batches)))) (replay_of b.run (events_to b.key (arrived b (part_of b.run batches)))) replays)
      where
        goes : {X E F Y : Type 0} (f : E → F) (y : X → Y) (r : Result X E) → IsOk r → IsOk (or_error f r >>= (λ x. Ok (y x)))
        goes f y (Ok x) ok = refl
        goes f y (Err e) ok = absurd (cc)

-- each task is at most the greatest
pub task-up-to : (batches : List Batch) (x : Batch) → Among x batches → x.key.task ≤ greatest_task batches
task-up-to [] x h = absurd h
task-up-to (y ∷ batches) x (inl same) = subst (λ (z : Batch). z.key.task ≤ max y.key.task (greatest_task batches)) (sym same) (omega arith)
task-up-to (y ∷ batches) x (inr h) = omega (arith, task-up-to batches x h)

-- where the greatest task is small, a batch with which the set is sound is taken by its run, and one after it as well
pub taken-small : (batches : List Batch) (b : Batch) → IsSound batches → IsSound (arrived b batches) → batch_at b.key batches ≡ None → greatest_task batches < 2 ^ 64 → b.key.task < 2 ^ 64
    → IsOk (learned b.run (part_of b.run batches) b)
taken-small batches b sound after none most own =
    taken batches b sound after none (λ x has. omega (arith, task-up-to batches x (has-among batches x has), most)) own

pub taken-second : (batches : List Batch) (b second : Batch) → IsSound (arrived b batches) → IsSound (arrived second (arrived b batches)) → batch_at b.key batches ≡ None
    → batch_at second.key (arrived b batches) ≡ None → part_of second.run (arrived b batches) ≡ [] → max (max (greatest_task batches) second.key.task) b.key.task < 2 ^ 64
    → IsOk (learned second.run [] second)
taken-second batches b second after both none fresh begins most =
    subst (λ (l : List Batch). IsOk (learned second.run l second)) begins
    (taken-small (arrived b batches) second after both fresh
    (subst (λ n. n < 2 ^ 64) (sym (greatest-arrived b batches none)) (omega (arith, most))) (omega (arith, most)))
