-- A batch that fits a tree joins it.
use Rattle.std.proofs.Common.{◌≡◌, ◌+◌, ◌<◌, ◌≤◌, Bool, true, false, not, ◌&&◌, ◌==◌, cond, List, [], ◌∷◌, inl, inr, Option, Some, None, Ok, Err, IsOk, if◌then◌else◌, refl, sym, ◌∙◌, subst, ap, arith}
use Rattle.std.specs.Prelude.{is_some}
use Rattle.std.proofs.lemmas.Bool.{and_parts, eqb-true, eq-eqb}
use Rattle.ndc_event.specs.Key.{key_lt}
use Rattle.ndc_event.specs.declared.batch.Batch.{Batch}
use Rattle.ndc_event.specs.declared.key.BatchKey.{BatchKey}
use Rattle.ndc_event.specs.declared.key.RunId.{RunId}
use Rattle.ndc_event.specs.Batch.{fault_of}
use Rattle.ndc_model_sets.specs.Sets.{Rise, batch_at, Has}
use Rattle.ndc_model_sets.specs.Learned.{has_key}
use Rattle.ndc_model_sets.specs.Paths.{first_id, last_id}
use Rattle.ndc_model_sets.specs.Branches.{same_run}
use Rattle.ndc_model_sets.proofs.Lists.{Among, all-among}
use Rattle.ndc_model_sets.proofs.BranchLemmas.{has-among, run-same}
use Rattle.ndc_model_sets.proofs.KeyLemmas.{IsBefore, before-parts, before-from}
use Rattle.ndc_model_sets.specs.Last.{is_nil, first_from}
use Rattle.ndc_tree.specs.Fitting.{is_of_version, splits_version, goes_on, is_below, fits}
use Rattle.ndc_tree.specs.Inserting.{inserted, placed as place_of}
use Rattle.ndc_tree.specs.declared.answer.TreeError.TheVariants.{MissingParent, NotWellFormed}
use Rattle.ndc_tree.specs.Tree.{IsNextOfVersion, IsTree, Joins}

-- where the first batch from a key on is not of its version, all batches of the version come before the key
pub before-start : (batches : List Batch) (start : BatchKey) (one : Batch) → Rise batches → Among one batches → one.key.version ≡ start.version
    → is_of_version start.version (first_from start batches) ≡ false → key_lt one.key start ≡ true
before-start [] start one rise among v h = absurd among
before-start (x ∷ xs) start one rise among v h = by (key_lt x.key start) refl among h (λ m g. before-start xs start one rise.1 m v g)
  where
    not_before : key_lt x.key start ≡ false → (x.key.version < start.version → ⊥)
    not_before e l = let t : key_lt x.key start ≡ true = before-from x.key start (inl l) in absurd (cc)

    same_version : key_lt x.key start ≡ false → key_lt x.key one.key ≡ true → x.key.version ≡ start.version
    same_version e l = parts (before-parts x.key one.key l)
      where
        up : x.key.version < one.key.version → x.key.version ≡ start.version
        up m = absurd (not_before e (omega (arith, m, v)))

        parts : IsBefore x.key one.key → x.key.version ≡ start.version
        parts (inl m) = up m
        parts (inr m) = m.0 ∙ v

    by : (t : Bool) → key_lt x.key start ≡ t → Among one (x ∷ xs) → is_of_version start.version (cond (not t) (Some x) (first_from start xs)) ≡ false
        → (Among one xs → is_of_version start.version (first_from start xs) ≡ false → key_lt one.key start ≡ true) → key_lt one.key start ≡ true
    by true e (inl same) g rest = subst (λ (b : Batch). key_lt b.key start ≡ true) (sym same) e
    by true e (inr m) g rest = rest m g
    by false e (inl same) g rest =
        let w : x.key.version ≡ start.version = sym (ap (λ (b : Batch). b.key.version) same) ∙ v in
        let t : (x.key.version == start.version) ≡ true = eq-eqb x.key.version start.version w in absurd (cc)
    by false e (inr m) g rest =
        let l : key_lt x.key one.key ≡ true = all-among (λ (b : Batch). key_lt x.key b.key ≡ true) xs one rise.0 m in
        let t : (x.key.version == start.version) ≡ true = eq-eqb x.key.version start.version (same_version e l) in absurd (cc)

not-true : (t : Bool) → not t ≡ true → t ≡ false
not-true true h = absurd (cc)
not-true false h = refl

none-where : (o : Option Batch) → not (is_some o) ≡ true → o ≡ None
none-where None h = refl
none-where (Some b) h = absurd (cc)

module _ (run : RunId) (batches : List Batch) (new : Batch) (tree : IsTree run batches) (h : fits run batches new ≡ true) where
  outer : ((same_run new.run run && not (is_some (batch_at new.key batches))) ≡ true)
      × ((is_below batches new new.parent && not (splits_version batches new.key.version new.parent)) ≡ true)
  outer = and_parts (same_run new.run run && not (is_some (batch_at new.key batches))) (is_below batches new new.parent && not (splits_version batches new.key.version new.parent)) h

  mine : (same_run new.run run ≡ true) × (not (is_some (batch_at new.key batches)) ≡ true)
  mine = and_parts (same_run new.run run) (not (is_some (batch_at new.key batches))) outer.0

  placed : (is_below batches new new.parent ≡ true) × (not (splits_version batches new.key.version new.parent) ≡ true)
  placed = and_parts (is_below batches new new.parent) (not (splits_version batches new.key.version new.parent)) outer.1

  ids : (before : Batch) (key : BatchKey) → new.parent ≡ Some key → batch_at key batches ≡ Some before → last_id before.events + 1 ≡ first_id new.events
  ids before key e at =
      let below : goes_on new (batch_at key batches) ≡ true = subst (λ (o : Option BatchKey). is_below batches new o ≡ true) e placed.0 in
      let t : (last_id before.events + 1 == first_id new.events) ≡ true = subst (λ (o : Option Batch). goes_on new o ≡ true) at below in
      eqb-true (last_id before.events + 1) (first_id new.events) t

  next : (one : Batch) → Has batches one → one.key.version ≡ new.key.version → IsNextOfVersion one new
  next one has v = by new.parent refl placed.0 (not-true (splits_version batches new.key.version new.parent) placed.1)
    where
      none : (l : List Batch) → is_nil l ≡ true → Among one l → ⊥
      none [] t m = m
      none (x ∷ l) t m = absurd (cc)

      parent_is : (key : BatchKey) → new.parent ≡ Some key → (t : Bool) → (key.version == new.key.version) ≡ t
          → key_lt one.key (if t then record { version = new.key.version; task = key.task + 1 } else record { version = new.key.version; task = 0 }) ≡ true → IsNextOfVersion one new
      parent_is key e true f l = record {
        parent = key;
        named = e;
        version = eqb-true key.version new.key.version f;
        next = parts (before-parts one.key (record { version = new.key.version; task = key.task + 1 }) l);
      }
        where
          parts : IsBefore one.key (record { version = new.key.version; task = key.task + 1 }) → one.key.task ≤ key.task
          parts (inl m) = absurd (omega (arith, m, v))
          parts (inr m) = omega (arith, m.1)
      parent_is key e false f l = absurd (parts (before-parts one.key (record { version = new.key.version; task = 0 }) l))
        where
          parts : IsBefore one.key (record { version = new.key.version; task = 0 }) → ⊥
          parts (inl m) = absurd (omega (arith, m, v))
          parts (inr m) = absurd (omega (arith, m.1))

      start : (key : BatchKey) (t : Bool) → is_of_version new.key.version (first_from (if t then record { version = new.key.version; task = key.task + 1 } else record { version = new.key.version; task = 0 }) batches) ≡ false
          → key_lt one.key (if t then record { version = new.key.version; task = key.task + 1 } else record { version = new.key.version; task = 0 }) ≡ true
      start key true g = before-start batches (record { version = new.key.version; task = key.task + 1 }) one tree.set.ordered (has-among batches one has) v g
      start key false g = before-start batches (record { version = new.key.version; task = 0 }) one tree.set.ordered (has-among batches one has) v g

      by : (o : Option BatchKey) → new.parent ≡ o → is_below batches new o ≡ true → splits_version batches new.key.version o ≡ false → IsNextOfVersion one new
      by None e below g = absurd (none batches below (has-among batches one has))
      by (Some key) e below g = parent_is key e (key.version == new.key.version) refl (start key (key.version == new.key.version) g)

  alone : new.parent ≡ None → batches ≡ []
  alone e = by batches (subst (λ (o : Option BatchKey). is_below batches new o ≡ true) e placed.0)
    where
      by : (l : List Batch) → is_nil l ≡ true → l ≡ []
      by [] t = refl
      by (x ∷ l) t = absurd (cc)

  -- a batch without a fault that fits a tree, and whose parent is there, joins it
  pub fit-joins : has_key new.parent batches ≡ true → fault_of new ≡ None → Joins run batches new
  fit-joins reached faultless = record {
    fresh = none-where (batch_at new.key batches) mine.1;
    faultless = faultless;
    run_is = run-same new.run run mine.0;
    reached = reached;
    first = alone;
    ids = ids;
    next = next;
  }

-- a batch without a fault that a tree takes joins it
pub taken_joins : (run : RunId) (batches : List Batch) (new : Batch) → IsTree run batches → fault_of new ≡ None → IsOk (inserted run batches new) → Joins run batches new
taken_joins run batches new tree faultless taken = by (has_key new.parent batches) refl (fits run batches new) refl taken
  where
    by : (reached : Bool) → has_key new.parent batches ≡ reached → (fit : Bool) → fits run batches new ≡ fit
        → IsOk (if not reached then Err (MissingParent new.key) else if not fit then Err (NotWellFormed new.key) else Ok (place_of run batches new.key new.parent)) → Joins run batches new
    by true r true f ok = fit-joins run batches new tree f r faultless
    by true r false f ok = absurd (cc)
    by false r fit f ok = absurd (cc)
