-- The runs by their ids are those of the first batches, in one order.
use Rattle.std.proofs.Common.{◌≡◌, ◌<◌, ◌+◌, ◌*◌, ◌^◌, ◌==◌, Bool, true, false, List, [], ◌∷◌, ◌⊎◌, inl, inr, Option, Some, None, cond, map, refl, sym, ◌∙◌, subst, ap, true≢false, arith}
use Rattle.std.specs.Prelude.{is_none}
use Rattle.std.specs.List.{AllByRecursion, filter}
use Rattle.std.proofs.lemmas.Bool.{and_parts, eqb-true, ltb-true, ne_eqb}
use Rattle.ndc_event.specs.Batch.{is_first_fit}
use Rattle.ndc_event.specs.Key.{key_lt, run_of}
use Rattle.ndc_event.specs.declared.batch.Batch.{Batch}
use Rattle.ndc_event.specs.declared.key.BatchKey.{BatchKey}
use Rattle.ndc_event.specs.declared.key.RunId.{RunId}
use Rattle.ndc_model_cells.specs.Writing.{greatest_task}
use Rattle.ndc_model_sets.specs.Branches.{runs, same_run}
use Rattle.ndc_model_sets.specs.Last.{is_nil}
use Rattle.ndc_model_sets.specs.Sets.{Has, Rise}
use Rattle.ndc_model_sets.specs.Sound.{IsSound}
use Rattle.ndc_model_sets.proofs.BranchLemmas.{among-has, has-among, run-same, same-run}
use Rattle.ndc_model_sets.proofs.CurrentLemmas.{path-begins}
use Rattle.ndc_model_sets.proofs.FaultLemmas.{passes}
use Rattle.ndc_model_sets.proofs.KeyLemmas.{before-parts}
use Rattle.ndc_model_sets.proofs.Lists.{Among, all-among, all-from, among-filter, among-map, filter-among, find-among, map-among}
use Rattle.ndc_model_sets.proofs.PathLemmas.{path_is}
use Rattle.ndc_tree.specs.Tree.{TreeValue}
use Rattle.ndc_shard_runs.specs.RunMap.{AreInOrder, AreParts, IsRunBefore, all_of, batches_of, part_of, run_at, run_in}
use Rattle.ndc_shard_runs.proofs.TakenLemmas.{task-up-to}
use Rattle.ndc_tree.proofs.RiseLemmas.{find-passes}

-- ids that rise
abbrev Climb : List RunId → Type 0
Climb [] = Unit {0}
Climb (x ∷ xs) = AllByRecursion (λ y. x.value < y.value) xs × Climb xs

-- the first of two lists that rise and have the same ids
first-one : (x y : RunId) (xs ys : List RunId) → Climb (x ∷ xs) → Climb (y ∷ ys) → Among x (y ∷ ys) → Among y (x ∷ xs) → x ≡ y
first-one x y xs ys a b (inl e) other = e
first-one x y xs ys a b (inr h) (inl e) = sym e
first-one x y xs ys a b (inr h) (inr k) =
    absurd (omega (arith, all-among (λ (z : RunId). y.value < z.value) ys x b.0 h, all-among (λ (z : RunId). x.value < z.value) xs y a.0 k))

-- what stands after it
others-one : (x y : RunId) (xs ys : List RunId) → Climb (x ∷ xs) → x ≡ y → ((z : RunId) → Among z (x ∷ xs) → Among z (y ∷ ys)) → (z : RunId) → Among z xs → Among z ys
others-one x y xs ys a same to z h = by (to z (inr h))
  where
    above : x.value < z.value
    above = all-among (λ (w : RunId). x.value < w.value) xs z a.0 h

    by : (z ≡ y) ⊎ Among z ys → Among z ys
    by (inl e) = let level : x.value ≡ z.value = ap (λ (w : RunId). w.value) (same ∙ sym e) in absurd (omega (arith, above, level))
    by (inr k) = k

-- lists that rise and have the same ids are one
one-list : (xs ys : List RunId) → Climb xs → Climb ys → ((z : RunId) → Among z xs → Among z ys) → ((z : RunId) → Among z ys → Among z xs) → xs ≡ ys
one-list [] [] a b to from = refl
one-list [] (y ∷ ys) a b to from = absurd (from y (inl refl))
one-list (x ∷ xs) [] a b to from = absurd (to x (inl refl))
one-list (x ∷ xs) (y ∷ ys) a b to from =
    let first : x ≡ y = first-one x y xs ys a b (to x (inl refl)) (from y (inl refl)) in
    let rest : xs ≡ ys = one-list xs ys a.1 b.1 (others-one x y xs ys a first to) (others-one y x ys xs b (sym first) from) in
    λ i. first i ∷ rest i

-- the ids of runs in order rise
climb-runs : (list : List TreeValue) → AreInOrder list → Climb (map (λ r. r.run) list)
climb-runs [] order = tt
climb-runs (x ∷ list) order = (
  all-from (λ (z : RunId). x.run.value < z.value) (map (λ (r : TreeValue). r.run) list)
      (λ z h. let m = map-among (λ (r : TreeValue). r.run) list z h in
      let after : x.run.value < m.0.run.value = ltb-true x.run.value m.0.run.value (all-among (IsRunBefore x) list m.0 order.0 m.1) in
      let level : z.value ≡ m.0.run.value = ap (λ (w : RunId). w.value) m.2 in omega (arith, after, level)),
  climb-runs list order.1,
)

-- so do those of first batches
climb-firsts : (batches : List Batch) → Rise batches → ((b : Batch) → Among b batches → is_none b.parent ≡ true → b.run.value ≡ b.key.version * 2 ^ 64 + b.key.task)
    → ((b : Batch) → Among b batches → b.key.task < 2 ^ 64) → Climb (runs batches)
climb-firsts [] rise number small = tt
climb-firsts (b ∷ batches) rise number small = by (is_none b.parent) refl (climb-firsts batches rise.1 (λ c h. number c (inr h)) (λ c h. small c (inr h)))
  where
    above : (c : Batch) → is_none b.parent ≡ true → Among c batches → is_none c.parent ≡ true → b.run.value < c.run.value
    above c first h other = of (before-parts b.key c.key (all-among (λ (x : Batch). key_lt b.key x.key ≡ true) batches c rise.0 h))
      where
        of : (b.key.version < c.key.version) ⊎ ((b.key.version ≡ c.key.version) × (b.key.task < c.key.task)) → b.run.value < c.run.value
        of (inl l) = omega (arith, l, number b (inl refl) first, number c (inr h) other, small b (inl refl), small c (inr h))
        of (inr p) = omega (arith, p.0, p.1, number b (inl refl) first, number c (inr h) other)

    by : (t : Bool) → is_none b.parent ≡ t → Climb (runs batches) → Climb (map (λ (x : Batch). x.run) (cond t (b ∷ filter (λ (x : Batch). is_none x.parent) batches) (filter (λ (x : Batch). is_none x.parent) batches)))
    by true e rest = (
      all-from (λ (z : RunId). b.run.value < z.value) (runs batches)
          (λ z h. let m = map-among (λ (x : Batch). x.run) (filter (λ (x : Batch). is_none x.parent) batches) z h in
          let f = filter-among (λ (x : Batch). is_none x.parent) batches m.0 m.1 in
          let level : z.value ≡ m.0.run.value = ap (λ (w : RunId). w.value) m.2 in omega (arith, level, above m.0 e f.1 f.0)),
      rest,
    )
    by false e rest = rest

-- a run is found by its id
at-own : (list : List TreeValue) (r : TreeValue) → AreInOrder list → Among r list → run_at r.run list ≡ Some r
at-own [] r order h = absurd h
at-own (x ∷ list) r order (inl e) = ap (λ t. cond t (Some x) (run_at r.run list)) (same-run x.run r.run (ap (λ (y : TreeValue). y.run) (sym e))) ∙ ap Some (sym e)
at-own (x ∷ list) r order (inr h) = ap (λ t. cond t (Some x) (run_at r.run list)) apart ∙ at-own list r order.1 h
  where
    after : x.run.value < r.run.value
    after = ltb-true x.run.value r.run.value (all-among (IsRunBefore x) list r order.0 h)

    apart : same_run x.run r.run ≡ false
    apart = ne_eqb x.run.value r.run.value (λ e. absurd (omega (arith, after, e)))

module _ (list : List TreeValue) (order : AreInOrder list) (sound : IsSound (all_of list)) (parts : AreParts list) (full : AllByRecursion (λ (r : TreeValue). is_nil r.batches ≡ false) list)
    (most : greatest_task (all_of list) < 2 ^ 64) where
  -- each run has its part of the batches
  part-own : (r : TreeValue) → Among r list → r.batches ≡ part_of r.run (all_of list)
  part-own r h = ap batches_of (sym (at-own list r order h)) ∙ parts r.run

  pub parts_own : AllByRecursion (λ (r : TreeValue). r ≡ run_in (all_of list) r.run) list
  parts_own = all-from (λ (r : TreeValue). r ≡ run_in (all_of list) r.run) list (λ r h i. record { run = r.run; batches = part-own r h i })

  -- a first batch has the number of its run
  number : (b : Batch) → Among b (all_of list) → is_none b.parent ≡ true → b.run.value ≡ b.key.version * 2 ^ 64 + b.key.task
  number b h first =
      let p = passes b (sound.faultless b (among-has (all_of list) b sound.set.ordered h)) in
      let fit : is_first_fit b p.event.id None ≡ true = subst (λ (o : Option BatchKey). is_first_fit b p.event.id o ≡ true) (none-is b.parent first) p.first in
      eqb-true b.run.value (run_of b.key).value (and_parts (p.event.id == 1) (b.run.value == (run_of b.key).value) fit).1
    where
      none-is : (o : Option BatchKey) → is_none o ≡ true → o ≡ None
      none-is None e = refl
      none-is (Some key) e = absurd (cc)

  -- each run has a first batch
  to : (z : RunId) → Among z (map (λ (r : TreeValue). r.run) list) → Among z (runs (all_of list))
  to z h =
      let m = map-among (λ (r : TreeValue). r.run) list z h in
      by m.0.batches (part-own m.0 m.1) m.2 (all-among (λ (r : TreeValue). is_nil r.batches ≡ false) list m.0 full m.1)
    where
      of : (run : RunId) (x : Batch) → z ≡ run → Among x (part_of run (all_of list)) → Among z (runs (all_of list))
      of run x same k =
          let f = filter-among (λ (y : Batch). same_run y.run run) (all_of list) x k in
          let has : Has (all_of list) x = among-has (all_of list) x sound.set.ordered f.1 in
          let s = path-begins (all_of list) x _ sound.parents (path_is (all_of list) x sound.set sound.closed has) in
          subst (λ (w : RunId). Among w (runs (all_of list))) (s.3 ∙ run-same x.run run f.0 ∙ sym same)
          (among-map (λ (y : Batch). y.run) (filter (λ (y : Batch). is_none y.parent) (all_of list)) s.0
          (among-filter (λ (y : Batch). is_none y.parent) (all_of list) s.0 (ap is_none s.2) (has-among (all_of list) s.0 s.1)))

      by : {run : RunId} (own : List Batch) → own ≡ part_of run (all_of list) → z ≡ run → is_nil own ≡ false → Among z (runs (all_of list))
      by [] e same some = absurd (true≢false some)
      by {run} (x ∷ own) e same some = of run x same (subst (Among x) e (inl refl))

  -- each first batch is one of a run
  from : (z : RunId) → Among z (runs (all_of list)) → Among z (map (λ (r : TreeValue). r.run) list)
  from z h =
      let m = map-among (λ (b : Batch). b.run) (filter (λ (b : Batch). is_none b.parent) (all_of list)) z h in
      let f = filter-among (λ (b : Batch). is_none b.parent) (all_of list) m.0 m.1 in
      by m.0 (run_at z list) refl (among-filter (λ (b : Batch). same_run b.run z) (all_of list) m.0 (same-run m.0.run z (sym m.2)) f.1)
    where
      by : (b : Batch) (o : Option TreeValue) → run_at z list ≡ o → Among b (part_of z (all_of list)) → Among z (map (λ (r : TreeValue). r.run) list)
      by b None e k = absurd (subst (Among b) (sym (parts z) ∙ ap batches_of e) k)
      by b (Some r) e k =
          subst (λ (w : RunId). Among w (map (λ (x : TreeValue). x.run) list)) (run-same r.run z (find-passes (λ (x : TreeValue). same_run x.run z) list r e))
          (among-map (λ (x : TreeValue). x.run) list r (find-among (λ (x : TreeValue). same_run x.run z) list r e))

  pub runs_listed : map (λ (r : TreeValue). r.run) list ≡ runs (all_of list)
  runs_listed =
      one-list (map (λ (r : TreeValue). r.run) list) (runs (all_of list)) (climb-runs list order)
      (climb-firsts (all_of list) sound.set.ordered number (λ b h. omega (arith, most, task-up-to (all_of list) b h))) to from
