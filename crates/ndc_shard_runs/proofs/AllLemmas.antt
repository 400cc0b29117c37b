-- The batches of all runs, with one more.
use Rattle.std.proofs.Common.{◌≡◌, Bool, true, false, nat_lt, List, [], ◌∷◌, Option, Some, None, if◌then◌else◌, cond, refl, sym, ◌∙◌, subst, ap, true≢false}
use Rattle.ndc_event.specs.Key.{key_eq}
use Rattle.ndc_event.specs.declared.batch.Batch.{Batch}
use Rattle.ndc_event.specs.declared.key.BatchKey.{BatchKey}
use Rattle.ndc_event.specs.declared.key.RunId.{RunId}
use Rattle.ndc_model_sets.specs.Branches.{same_run}
use Rattle.ndc_model_sets.specs.Sets.{Rise, batch_at, arrived}
use Rattle.ndc_model_sets.proofs.BranchLemmas.{run-same, same-run}
use Rattle.ndc_model_sets.proofs.KeyLemmas.{key_eq-self}
use Rattle.ndc_tree.specs.Tree.{TreeValue}
use Rattle.ndc_shard_runs.specs.RunMap.{part_of, run_at, batches_of, begun, with_run, with_grown, with_batch, without_run, all_arrived, all_of}
use Rattle.ndc_shard_runs.proofs.ArrivedLemmas.{Compared, less, same, more, compared, arrived-less, arrived-more, arrived-swap, none-parts, none-before, filter-arrived}
use Rattle.ndc_shard_runs.proofs.LearnLemmas.{with-there, with-begun}

-- a key that is not there once batches have arrived was not there, nor among them
pub none-arrived : (batches others : List Batch) (key : BatchKey) → batch_at key (all_arrived batches others) ≡ None → (batch_at key batches ≡ None) × (batch_at key others ≡ None)
none-arrived [] others key none = (refl, none)
none-arrived (b ∷ batches) others key none =
    let p = none-before b (all_arrived batches others) key none in
    let q = none-arrived batches others key p.1 in
    (ap (λ t. cond t (Some b) (batch_at key batches)) p.0 ∙ q.0, q.1)

-- a batch that arrives before others, arrives after them as well
arrived-behind : (b : Batch) (batches others : List Batch) → batch_at b.key batches ≡ None → all_arrived batches (arrived b others) ≡ arrived b (all_arrived batches others)
arrived-behind b [] others none = refl
arrived-behind b (x ∷ xs) others none =
    let p = none-parts x xs b.key none in
    ap (arrived x) (arrived-behind b xs others p.1) ∙ arrived-swap x b (all_arrived xs others) p.0

arrived-among : (b : Batch) (batches others : List Batch) → batch_at b.key batches ≡ None → all_arrived (arrived b batches) others ≡ arrived b (all_arrived batches others)
arrived-among b [] others none = refl
arrived-among b (x ∷ xs) others none = by (compared b.key x.key) (none-parts x xs b.key none) (arrived-among b xs others (none-parts x xs b.key none).1)
  where
    by : Compared b.key x.key → (key_eq x.key b.key ≡ false) × (batch_at b.key xs ≡ None) → all_arrived (arrived b xs) others ≡ arrived b (all_arrived xs others)
        → all_arrived (arrived b (x ∷ xs)) others ≡ arrived b (all_arrived (x ∷ xs) others)
    by (less l) p rest = ap (λ m. all_arrived m others) (arrived-less b x xs l)
    by (same e) p rest = absurd (true≢false (sym (subst (λ (k : BatchKey). key_eq k b.key ≡ true) e (key_eq-self b.key)) ∙ p.0))
    by (more l) p rest = ap (λ m. all_arrived m others) (arrived-more b x xs l) ∙ ap (arrived x) rest ∙ arrived-swap x b (all_arrived xs others) p.0

all-grown : (b : Batch) (runs : List TreeValue) (r : TreeValue) → run_at b.run runs ≡ Some r → batch_at b.key (all_of runs) ≡ None → all_of (with_grown b runs) ≡ arrived b (all_of runs)
all-grown b [] r at none = absurd (cc)
all-grown b (x ∷ xs) r at none = by (same_run x.run b.run) refl at (none-arrived x.batches (all_of xs) b.key none) (all-grown b xs r)
  where
    by : (t : Bool) → same_run x.run b.run ≡ t → (if t then Some x else run_at b.run xs) ≡ Some r → (batch_at b.key x.batches ≡ None) × (batch_at b.key (all_of xs) ≡ None)
        → (run_at b.run xs ≡ Some r → batch_at b.key (all_of xs) ≡ None → all_of (with_grown b xs) ≡ arrived b (all_of xs))
        → all_of (with_grown b (x ∷ xs)) ≡ arrived b (all_of (x ∷ xs))
    by true e h p rest = rw e (arrived-among b x.batches (all_of xs) p.0)
    by false e h p rest = rw e (ap (all_arrived x.batches) (rest h p.1) ∙ arrived-behind b x.batches (all_of xs) p.0)

all-begun : (b : Batch) (runs : List TreeValue) → run_at b.run runs ≡ None → batch_at b.key (all_of runs) ≡ None → all_of (with_run (begun b) runs) ≡ arrived b (all_of runs)
all-begun b [] at none = refl
all-begun b (x ∷ xs) at none = by (nat_lt b.run.value x.run.value) refl (same_run x.run b.run) refl at (none-arrived x.batches (all_of xs) b.key none) (all-begun b xs)
  where
    by : (l : Bool) → nat_lt b.run.value x.run.value ≡ l → (t : Bool) → same_run x.run b.run ≡ t → (if t then Some x else run_at b.run xs) ≡ None
        → (batch_at b.key x.batches ≡ None) × (batch_at b.key (all_of xs) ≡ None)
        → (run_at b.run xs ≡ None → batch_at b.key (all_of xs) ≡ None → all_of (with_run (begun b) xs) ≡ arrived b (all_of xs))
        → all_of (with_run (begun b) (x ∷ xs)) ≡ arrived b (all_of (x ∷ xs))
    by true f t e h p rest = rw f refl
    by false f true e h p rest = absurd (cc)
    by false f false e h p rest = rw (f, e) (ap (all_arrived x.batches) (rest h p.1) ∙ arrived-behind b x.batches (all_of xs) p.0)

-- the batches of all runs, with one more
pub all-with : (b : Batch) (runs : List TreeValue) → batch_at b.key (all_of runs) ≡ None → all_of (with_batch b runs) ≡ arrived b (all_of runs)
all-with b runs none = by (run_at b.run runs) refl
  where
    by : (o : Option TreeValue) → run_at b.run runs ≡ o → all_of (with_batch b runs) ≡ arrived b (all_of runs)
    by None at = ap all_of (with-begun b runs at) ∙ all-begun b runs at none
    by (Some r) at = ap all_of (with-there b runs r at) ∙ all-grown b runs r at none

-- the batches of each run, with one more
at-grown : (b : Batch) (runs : List TreeValue) (run : RunId) (r : TreeValue) → run_at b.run runs ≡ Some r
    → batches_of (run_at run (with_grown b runs)) ≡ (if same_run b.run run then arrived b (batches_of (run_at run runs)) else batches_of (run_at run runs))
at-grown b [] run r at = absurd (cc)
at-grown b (x ∷ xs) run r at = by (same_run x.run b.run) refl (same_run x.run run) refl (same_run b.run run) refl at (at-grown b xs run r)
  where
    by : (t : Bool) → same_run x.run b.run ≡ t → (s : Bool) → same_run x.run run ≡ s → (o : Bool) → same_run b.run run ≡ o → (if t then Some x else run_at b.run xs) ≡ Some r
        → (run_at b.run xs ≡ Some r → batches_of (run_at run (with_grown b xs)) ≡ (if same_run b.run run then arrived b (batches_of (run_at run xs)) else batches_of (run_at run xs)))
        → batches_of (run_at run (with_grown b (x ∷ xs))) ≡ (if same_run b.run run then arrived b (batches_of (run_at run (x ∷ xs))) else batches_of (run_at run (x ∷ xs)))
    by true e true f true k h rest = rw (e, f, k) refl
    by true e true f false k h rest = absurd (true≢false (sym (subst (λ (i : RunId). same_run i run ≡ true) (run-same x.run b.run e) f) ∙ k))
    by true e false f true k h rest = absurd (true≢false (sym (subst (λ (i : RunId). same_run i run ≡ true) (sym (run-same x.run b.run e)) k) ∙ f))
    by true e false f false k h rest = rw (e, f, k) refl
    by false e true f true k h rest =
        absurd (true≢false (sym (same-run x.run b.run (run-same x.run run f ∙ sym (run-same b.run run k))) ∙ e))
    by false e true f false k h rest = rw (e, f, k) refl
    by false e false f true k h rest = rw (e, f, k) (rest h ∙ ap (λ t. if t then arrived b (batches_of (run_at run xs)) else batches_of (run_at run xs)) k)
    by false e false f false k h rest = rw (e, f, k) (rest h ∙ ap (λ t. if t then arrived b (batches_of (run_at run xs)) else batches_of (run_at run xs)) k)

at-begun : (b : Batch) (runs : List TreeValue) (run : RunId) → run_at b.run runs ≡ None
    → batches_of (run_at run (with_run (begun b) runs)) ≡ (if same_run b.run run then arrived b (batches_of (run_at run runs)) else batches_of (run_at run runs))
at-begun b [] run at = by (same_run b.run run) refl
  where
    by : (o : Bool) → same_run b.run run ≡ o → batches_of (run_at run (begun b ∷ [])) ≡ (if same_run b.run run then b ∷ [] else [])
    by true k = rw k refl
    by false k = rw k refl
at-begun b (x ∷ xs) run at = by (nat_lt b.run.value x.run.value) refl (same_run x.run b.run) refl (same_run x.run run) refl (same_run b.run run) refl at (at-begun b xs run)
  where
    nothing : run_at b.run xs ≡ None → same_run b.run run ≡ true → run_at run xs ≡ None
    nothing h k = subst (λ (i : RunId). run_at i xs ≡ None) (run-same b.run run k) h

    by : (l : Bool) → nat_lt b.run.value x.run.value ≡ l → (t : Bool) → same_run x.run b.run ≡ t → (s : Bool) → same_run x.run run ≡ s → (o : Bool) → same_run b.run run ≡ o
        → (if t then Some x else run_at b.run xs) ≡ None
        → (run_at b.run xs ≡ None → batches_of (run_at run (with_run (begun b) xs)) ≡ (if same_run b.run run then arrived b (batches_of (run_at run xs)) else batches_of (run_at run xs)))
        → batches_of (run_at run (with_run (begun b) (x ∷ xs))) ≡ (if same_run b.run run then arrived b (batches_of (run_at run (x ∷ xs))) else batches_of (run_at run (x ∷ xs)))
    by l q true e s f o k h rest = absurd (cc)
    by true q false e true f true k h rest = absurd (true≢false (sym (same-run x.run b.run (run-same x.run run f ∙ sym (run-same b.run run k))) ∙ e))
    by true q false e true f false k h rest = rw (q, f, k) refl
    by true q false e false f true k h rest = rw (q, f, k) (ap (λ o. arrived b (batches_of o)) (sym (nothing h k)))
    by true q false e false f false k h rest = rw (q, f, k) refl
    by false q false e true f true k h rest = absurd (true≢false (sym (same-run x.run b.run (run-same x.run run f ∙ sym (run-same b.run run k))) ∙ e))
    by false q false e true f false k h rest = rw (q, e, f, k) refl
    by false q false e false f true k h rest = rw (q, e, f, k) (rest h ∙ ap (λ t. if t then arrived b (batches_of (run_at run xs)) else batches_of (run_at run xs)) k)
    by false q false e false f false k h rest = rw (q, e, f, k) (rest h ∙ ap (λ t. if t then arrived b (batches_of (run_at run xs)) else batches_of (run_at run xs)) k)

pub at-with : (b : Batch) (runs : List TreeValue) (run : RunId)
    → batches_of (run_at run (with_batch b runs)) ≡ (if same_run b.run run then arrived b (batches_of (run_at run runs)) else batches_of (run_at run runs))
at-with b runs run = by (run_at b.run runs) refl
  where
    by : (o : Option TreeValue) → run_at b.run runs ≡ o → batches_of (run_at run (with_batch b runs)) ≡ (if same_run b.run run then arrived b (batches_of (run_at run runs)) else batches_of (run_at run runs))
    by None at = ap (λ l. batches_of (run_at run l)) (with-begun b runs at) ∙ at-begun b runs run at
    by (Some r) at = ap (λ l. batches_of (run_at run l)) (with-there b runs r at) ∙ at-grown b runs run r at

-- each run has its part, with one more batch
pub parts-with : (b : Batch) (runs : List TreeValue) → Rise (all_of runs) → batch_at b.key (all_of runs) ≡ None
    → ((run : RunId) → batches_of (run_at run runs) ≡ part_of run (all_of runs)) → (run : RunId) → batches_of (run_at run (with_batch b runs)) ≡ part_of run (all_of (with_batch b runs))
parts-with b runs rise none parts run =
    at-with b runs run ∙ ap (λ l. if same_run b.run run then arrived b l else l) (parts run)
    ∙ sym (filter-arrived (λ x. same_run x.run run) b (all_of runs) rise none) ∙ ap (part_of run) (sym (all-with b runs none))

-- a run that a batch has begun is taken out again
pub without-begun : (b : Batch) (runs : List TreeValue) → run_at b.run runs ≡ None → without_run b.run (with_batch b runs) ≡ runs
without-begun b runs none = ap (without_run b.run) (with-begun b runs none) ∙ from b runs none
  where
    from : (b : Batch) (runs : List TreeValue) → run_at b.run runs ≡ None → without_run b.run (with_run (begun b) runs) ≡ runs
    from b [] none = rw (same-run b.run b.run refl) refl
    from b (x ∷ xs) none = by (nat_lt b.run.value x.run.value) refl (same_run x.run b.run) refl none (from b xs)
      where
        by : (l : Bool) → nat_lt b.run.value x.run.value ≡ l → (t : Bool) → same_run x.run b.run ≡ t → (if t then Some x else run_at b.run xs) ≡ None
            → (run_at b.run xs ≡ None → without_run b.run (with_run (begun b) xs) ≡ xs) → without_run b.run (with_run (begun b) (x ∷ xs)) ≡ x ∷ xs
        by true f t e h rest = rw (f, same-run b.run b.run refl) refl
        by false f true e h rest = absurd (cc)
        by false f false e h rest =
            let behind : with_run (begun b) (x ∷ xs) ≡ x ∷ with_run (begun b) xs = rw (f, e) refl in
            ap (without_run b.run) behind ∙ ap (λ t. if t then with_run (begun b) xs else x ∷ without_run b.run (with_run (begun b) xs)) e ∙ ap (λ l. x ∷ l) (rest h)

-- another run stays as it was
pub at-other : (b : Batch) (runs : List TreeValue) (run : RunId) → same_run b.run run ≡ false → batches_of (run_at run (with_batch b runs)) ≡ batches_of (run_at run runs)
at-other b runs run e = at-with b runs run ∙ ap (λ t. if t then arrived b (batches_of (run_at run runs)) else batches_of (run_at run runs)) e
