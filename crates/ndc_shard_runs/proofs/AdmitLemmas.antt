-- What is tested of a batch that nobody vouches for, and of the one that goes right after it, decides whether what is learned then is sound.
use Rattle.std.proofs.Common.{◌≡◌, ◌+◌, ◌<◌, ◌^◌, ◌==◌, ◌⊎◌, ℕ, Bool, true, false, not, ◌||◌, ◌&&◌, is_some, IfSome, List, [], ◌∷◌, inl, inr, Option, Some, None, Result, Ok, Err, IsOk, if◌then◌else◌, refl, sym, ◌∙◌, subst, ap, arith}
use Rattle.std.specs.List.{AllByRecursion}
use Rattle.std.proofs.lemmas.Bool.{and_from, and_parts, eqb-true}
use Rattle.std.proofs.lemmas.Bool.Decides.{nat_tests}
use Rattle.ndc_event.specs.Batch.{fault_of}
use Rattle.ndc_event.specs.Key.{key_eq}
use Rattle.ndc_event.specs.Outcome.{◌>>=◌}
use Rattle.ndc_event.specs.declared.batch.Batch.{Batch}
use Rattle.ndc_event.specs.declared.batch.Event.{Event}
use Rattle.ndc_event.specs.declared.key.BatchKey.{BatchKey}
use Rattle.ndc_event.specs.declared.key.Origin.{Origin}
use Rattle.ndc_event.specs.declared.key.RunId.{RunId}
use Rattle.ndc_event.specs.declared.kind.EventKind.{EventKind}
use Rattle.ndc_event.specs.declared.kind.EventKind.TheVariants.{WorkflowExecutionContinuedAsNew, WorkflowExecutionSignaled}
use Rattle.ndc_event.specs.declared.name.Name.{Name}
use Rattle.ndc_model_cells.specs.Laws.{arrived_second}
use Rattle.ndc_model_cells.specs.Writing.{greatest_task}
use Rattle.ndc_model_sets.specs.Branches.{same_run}
use Rattle.ndc_model_sets.specs.Learned.{has_key}
use Rattle.ndc_model_sets.specs.Paths.{last_event}
use Rattle.ndc_model_sets.specs.Sets.{Has, IsSet, arrived, batch_at, earlier_of}
use Rattle.ndc_model_sets.specs.Sound.{ContinuesAs, IsCopyFit, IsSound}
use Rattle.ndc_model_sets.specs.Writing.{CopiesFitBothWays, CopiesFitWith}
use Rattle.ndc_model_sets.proofs.ArrivalLemmas.{is_there, stays, was_or_new}
use Rattle.ndc_model_sets.proofs.BranchLemmas.{has-among, run-same, same-run}
use Rattle.ndc_model_sets.proofs.KeyLemmas.{same-keys}
use Rattle.ndc_model_sets.proofs.Lists.{Among, all-from, each-list_all}
use Rattle.ndc_model_sets.proofs.SoundLemmas.{new-closed, new-set, part_is_sound}
use Rattle.ndc_run.specs.Learning.{learned, of_tree_error, or_error}
use Rattle.ndc_run.specs.declared.answer.Learned.{Learned}
use Rattle.ndc_run.specs.declared.answer.RunError.{RunError}
use Rattle.ndc_tree.specs.Inserting.{inserted}
use Rattle.ndc_tree.specs.declared.answer.Inserted.{Inserted}
use Rattle.ndc_tree.specs.declared.answer.TreeError.{TreeError}
use Rattle.ndc_shard_runs.specs.Copies.{are_fit_copies, are_fit_to, are_open_fit, copies_fit_both_ways, event_of, is_none_or_original, is_open_fit, open_copies_fit, second_copies_fit}
use Rattle.ndc_shard_runs.specs.Fitting.{ComesNext, Fits, GoesWithNew, IsCarrierFit, both_learned, continues, fit_alone, fit_both, fit_of, is_carrying_fit, is_continued_by, of_run_error}
use Rattle.ndc_shard_runs.specs.declared.misfit.Misfit.{Misfit}
use Rattle.ndc_shard_runs.specs.declared.misfit.Misfit.TheVariants as misfit
use Rattle.ndc_shard_runs.specs.RunMap.{part_of}
use Rattle.ndc_shard_runs.proofs.ArrivedLemmas.{filter-arrived, greatest-arrived, none-after}
use Rattle.ndc_shard_runs.proofs.CopyLemmas.{fit-tested, original-found, own-found, tested-fit, to-fit, to-tested}
use Rattle.ndc_shard_runs.proofs.FitLemmas.{sound-is-fit}
use Rattle.ndc_shard_runs.proofs.JudgeLemmas.{both-fine, placed-fine}
use Rattle.ndc_shard_runs.proofs.NamedLemmas.{open-copies-fit, open-tested}
use Rattle.ndc_shard_runs.proofs.OriginLemmas.{found-named}
use Rattle.ndc_shard_runs.proofs.PartLemmas.{has-part}
use Rattle.ndc_shard_runs.proofs.TakenLemmas.{run-is-new, taken-second, task-up-to}

-- runs of different ids are different
pub runs-apart : (one two : RunId) → (one.value ≡ two.value → ⊥) → same_run one two ≡ false
runs-apart one two apart = by (same_run one two) refl
  where
    by : (t : Bool) → same_run one two ≡ t → same_run one two ≡ false
    by true e = absurd (apart (eqb-true one.value two.value e))
    by false e = e

-- ---- a batch

pub alone-copies : (batches : List Batch) (b : Batch) → IsSound batches → ComesNext batches b → copies_fit_both_ways batches b ≡ true → IsOk (learned b.run (part_of b.run batches) b) → CopiesFitWith batches b
alone-copies batches b sound next fit taken =
    let p = and_parts (are_fit_copies batches b) (open_copies_fit batches b) fit in
    open-copies-fit batches b sound next taken (tested-fit batches b sound next.faultless p.0) p.1

-- a batch that no other carries has no carrier to fit
pub lone-carrier : (batches : List Batch) (b : Batch) → b.carrier ≡ None → IsCarrierFit batches b
lone-carrier batches b lone carrier key e at = absurd (cc)

-- ---- the last event

continued : (run : RunId) (event : Event) (kind : EventKind) → event.kind ≡ kind → continues run kind ≡ true → (type : Name) × (event.kind ≡ WorkflowExecutionContinuedAsNew run type)
continued run event (WorkflowExecutionContinuedAsNew next type) e h = (type, e ∙ ap (λ r. WorkflowExecutionContinuedAsNew r type) (run-same next run h))
continued run event _ e h = absurd (cc)

ends-for : (run : RunId) (b : Batch) → is_continued_by run (last_event b.events) ≡ true → ContinuesAs run b.events
ends-for run b h = by (last_event b.events) refl h
  where
    by : (o : Option Event) → last_event b.events ≡ o → is_continued_by run o ≡ true → ContinuesAs run b.events
    by None e h = absurd (cc)
    by (Some event) e h = let c = continued run event event.kind refl h in record { event = event; last = e; workflow_type = c.0; kind = c.1 }

-- ---- a batch with one that goes right after it

pub first-taken : (part : List Batch) (b second : Batch) → IsOk (both_learned part b second) → IsOk (learned b.run part b)
first-taken part b second = by (inserted b.run part b) (learned second.run [] second) (learned b.run part b)
  where
    by : (r : Result Inserted TreeError) (two one : Result Learned RunError) → IsOk (or_error of_tree_error r >>= (λ place. two >>= (λ begun. one))) → IsOk one
    by (Ok place) (Ok begun) one ok = ok
    by (Ok place) (Err e) one ok = absurd (cc)
    by (Err e) two one ok = absurd (cc)

module _ (batches : List Batch) (b second : Batch) (sound : IsSound batches) (next : ComesNext batches b) (new : GoesWithNew batches b second) where
  keys-apart : key_eq b.key second.key ≡ false
  keys-apart = by (key_eq b.key second.key) refl
    where
      by : (t : Bool) → key_eq b.key second.key ≡ t → key_eq b.key second.key ≡ false
      by false e = e
      by true e =
          let task : b.key.task ≡ b.key.task + 1 = ap (λ (k : BatchKey). k.task) (same-keys b.key second.key e ∙ new.goes.key) in
          absurd (omega (arith, task))

  pub second-fresh : batch_at second.key (arrived b batches) ≡ None
  second-fresh = none-after b batches second.key keys-apart new.fresh

  there : batch_at b.key (arrived b batches) ≡ Some b
  there = is_there b batches sound.set.ordered next.fresh

  -- the carrier that the second batch names, where it names one, is the first
  carrier-there : (o : Option BatchKey) → IfSome o (λ key. key ≡ b.key) → has_key o (arrived b batches) ≡ true
  carrier-there None is = refl
  carrier-there (Some key) is = ap (λ k. has_key (Some k) (arrived b batches)) is ∙ ap is_some there

  pub second-next : ComesNext (arrived b batches) second
  second-next = record {
    fresh = second-fresh;
    faultless = new.faultless;
    reached = ap (λ o. has_key (earlier_of o second.carrier) (arrived b batches)) new.goes.parent ∙ carrier-there second.carrier new.goes.carrier;
  }

  module _ (apart : same_run second.run b.run ≡ false) (small : greatest_task batches < 2 ^ 64) (own : second.key.task < 2 ^ 64) where
    no-batch : part_of second.run batches ≡ []
    no-batch = run-is-new batches second sound new.faultless new.goes.parent new.fresh (λ x has. let t = task-up-to batches x (has-among batches x has) in omega (arith, t, small)) own

    pub second-begins : part_of second.run (arrived b batches) ≡ []
    second-begins =
        filter-arrived (λ y. same_run y.run second.run) b batches sound.set.ordered next.fresh
        ∙ ap (λ t. if t then arrived b (part_of second.run batches) else part_of second.run batches) (flip b.run.value second.run.value ∙ apart) ∙ no-batch
      where
        flip : (m n : ℕ) → (m == n) ≡ (n == m)
        flip m n = grind (arith, nat_tests)

    module _ (goes : is_carrying_fit b second ≡ true) where
      pub second-carrier : IsCarrierFit (arrived b batches) second
      second-carrier carrier key e at =
          let one : key ≡ b.key = subst (λ (o : Option BatchKey). IfSome o (λ k. k ≡ b.key)) e new.goes.carrier in
          let found : Some b ≡ Some carrier = sym there ∙ ap (λ k. batch_at k (arrived b batches)) (sym one) ∙ at in
          let same : b ≡ carrier = cc in
          let ends : is_continued_by second.run (last_event b.events) ≡ true = sym (ap (λ o. not (is_some o) || is_continued_by second.run (last_event b.events)) e) ∙ goes in
          subst (λ (x : Batch). ContinuesAs second.run x.events) same (ends-for second.run b ends)

    module _ (fit : second_copies_fit batches b second ≡ true) where
      parts : (copies_fit_both_ways batches second ≡ true) × (are_fit_to b second.events ≡ true) × (are_fit_to second b.events ≡ true)
      parts =
          let p = and_parts (copies_fit_both_ways batches second) _ fit in
          let q = and_parts (are_fit_to b second.events) (are_fit_to second b.events) p.1 in
          (p.0, q.0, q.1)

      into : (are_fit_copies batches second ≡ true) × (open_copies_fit batches second ≡ true)
      into = and_parts (are_fit_copies batches second) (open_copies_fit batches second) parts.0

      -- no learned event is of the run that begins
      none-named : (origin : Origin) (event : Event) → event_of origin batches ≡ Some event → origin.run ≡ second.run → ⊥
      none-named origin event at run =
          let n = found-named batches sound origin event at in
          let has : Has (part_of second.run batches) n.batch = has-part batches sound second.run n.batch n.has (sym n.named.run_is ∙ run) in
          let no : Has [] n.batch = subst (λ (l : List Batch). Has l n.batch) no-batch has in
          absurd (cc)

      old-fits : (x : Batch) → Has batches x → (copy event : Event) → Among copy x.events → Among event second.events → IsCopyFit copy second.run event
      old-fits x has copy event h among name input origin kind names = by (event_of origin batches) refl tested
        where
          tested : is_open_fit batches second (WorkflowExecutionSignaled name input (Some origin)) ≡ true
          tested =
              sym (ap (is_open_fit batches second) kind)
              ∙ each-list_all (λ e. is_open_fit batches second e.kind) x.events copy (each-list_all (λ other. are_open_fit batches second other.events) batches x into.1 (has-among batches x has)) h

          by : (o : Option Event) → event_of origin batches ≡ o → is_open_fit batches second (WorkflowExecutionSignaled name input (Some origin)) ≡ true → event.kind ≡ WorkflowExecutionSignaled name input None
          by (Some one) e t = absurd (none-named origin one e names.run_is)
          by None e t =
              original-found name input (event_of origin (second ∷ [])) event (own-found second new.faultless origin event among names)
              (none-left (event_of origin batches) (is_none_or_original name input (event_of origin (second ∷ []))) e t)
            where
              none-left : (o : Option Event) (u : Bool) → o ≡ None → (is_some o || u) ≡ true → u ≡ true
              none-left None u e h = h
              none-left (Some x) u e h = absurd (cc)

      pub second-copies : CopiesFitWith (arrived b batches) second
      second-copies = record {
        own = (tested-fit batches second sound new.faultless into.0).own;
        others = λ x has. by x (was_or_new b batches x sound.set.ordered has);
      }
        where
          by : (x : Batch) → (x ≡ b) ⊎ Has batches x → CopiesFitBothWays second x
          by x (inl same) = record { mine = subst (λ (y : Batch). AllByRecursion (λ copy. AllByRecursion (IsCopyFit copy y.run) y.events) second.events) (sym same) (to-tested b second next.faultless parts.1); theirs = subst (λ (y : Batch). AllByRecursion (λ copy. AllByRecursion (IsCopyFit copy second.run) second.events) y.events) (sym same) (to-tested second b new.faultless parts.2) }
          by x (inr has) = record {
            mine = (tested-fit batches second sound new.faultless into.0).others x has;
            theirs = all-from (λ copy. AllByRecursion (IsCopyFit copy second.run) second.events) x.events
                (λ copy h. all-from (IsCopyFit copy second.run) second.events (λ event k. old-fits x has copy event h k));
          }

-- ---- what would be sound fits

ok-mapped : {X E F : Type 0} (f : E → F) (r : Result X E) → IsOk r → IsOk (or_error f r)
ok-mapped f (Ok x) ok = refl
ok-mapped f (Err e) ok = absurd (cc)

with-copies : (batches : List Batch) (b : Batch) → IsSound batches → fault_of b ≡ None → CopiesFitWith batches b → copies_fit_both_ways batches b ≡ true
with-copies batches b sound ok fit =
    and_from (are_fit_copies batches b) (open_copies_fit batches b)
    (fit-tested batches b sound ok (record { own = fit.own; others = λ x has. (fit.others x has).mine })) (open-tested batches b sound ok fit)

pub sound-alone : (batches : List Batch) (b : Batch) → IsSound batches → ComesNext batches b → greatest_task batches < 2 ^ 64 → b.key.task < 2 ^ 64 → IsSound (arrived b batches) → IsOk (fit_alone batches b)
sound-alone batches b sound next small own after =
    let fits = sound-is-fit batches b sound after next.fresh small own in
    subst (λ (t : Bool). IsOk (if not t then Err misfit.OriginUnfit else or_error of_run_error (learned b.run (part_of b.run batches) b))) (sym (with-copies batches b sound next.faultless fits.copies))
    (ok-mapped of_run_error (learned b.run (part_of b.run batches) b) fits.taken)

module _ (batches : List Batch) (b second : Batch) (sound : IsSound batches) (next : ComesNext batches b) (new : GoesWithNew batches b second) (small : greatest_task batches < 2 ^ 64) (first : b.key.task < 2 ^ 64)
    (own : second.key.task < 2 ^ 64) (after : IsSound (arrived second (arrived b batches))) where
  fresh : batch_at second.key (arrived b batches) ≡ None
  fresh = second-fresh batches b second sound next new

  set : IsSet (arrived b batches)
  set = new-set batches b sound next.fresh next.faultless next.reached

  middle : IsSound (arrived b batches)
  middle =
      part_is_sound (arrived second (arrived b batches)) (arrived b batches) after set (new-closed batches b sound next.fresh next.faultless next.reached)
      (λ x has. stays second (arrived b batches) set.ordered x has)

  itself : Has (arrived second (arrived b batches)) second
  itself = is_there second (arrived b batches) set.ordered fresh

  b-there : Has (arrived b batches) b
  b-there = is_there b batches sound.set.ordered next.fresh

  b-stays : Has (arrived second (arrived b batches)) b
  b-stays = stays second (arrived b batches) set.ordered b b-there

  old-stays : (x : Batch) → Has batches x → Has (arrived second (arrived b batches)) x
  old-stays x has = stays second (arrived b batches) set.ordered x (stays b batches sound.set.ordered x has)

  small-then : greatest_task (arrived b batches) < 2 ^ 64
  small-then = subst (λ n. n < 2 ^ 64) (sym (greatest-arrived b batches next.fresh)) (omega (arith, small, first))

  begins : part_of second.run (arrived b batches) ≡ []
  begins =
      run-is-new (arrived b batches) second middle new.faultless new.goes.parent fresh
      (λ x has. let t = task-up-to (arrived b batches) x (has-among (arrived b batches) x has) in let m = small-then in omega (arith, t, m)) own

  apart : same_run second.run b.run ≡ false
  apart = by (same_run second.run b.run) refl
    where
      by : (t : Bool) → same_run second.run b.run ≡ t → same_run second.run b.run ≡ false
      by false e = e
      by true e =
          let has : Has (part_of second.run (arrived b batches)) b = has-part (arrived b batches) middle second.run b b-there (sym (run-same second.run b.run e)) in
          let no : Has [] b = subst (λ (l : List Batch). Has l b) begins has in
          absurd (cc)

  goes : is_carrying_fit b second ≡ true
  goes = by second.carrier refl new.goes.carrier
    where
      by : (o : Option BatchKey) → second.carrier ≡ o → IfSome o (λ key. key ≡ b.key) → (not (is_some o) || is_continued_by second.run (last_event b.events)) ≡ true
      by None e is = refl
      by (Some key) e is =
          let c = after.carriers second b b.key itself (e ∙ ap Some is) b-stays in
          ap (is_continued_by second.run) c.last ∙ ap (continues second.run) c.kind ∙ same-run second.run second.run refl

  with-second : CopiesFitWith batches second
  with-second = record {
    own = after.copies second second itself itself;
    others = λ x has. record { mine = after.copies second x itself (old-stays x has); theirs = after.copies x second (old-stays x has) itself };
  }

  second-fit : second_copies_fit batches b second ≡ true
  second-fit =
      and_from (copies_fit_both_ways batches second) (are_fit_to b second.events && are_fit_to second b.events) (with-copies batches second sound new.faultless with-second)
      (and_from (are_fit_to b second.events) (are_fit_to second b.events) (to-fit b second next.faultless (after.copies second b itself b-stays)) (to-fit second b new.faultless (after.copies b second b-stays itself)))

  fits : Fits batches b
  fits = sound-is-fit batches b sound middle next.fresh small first

  taken : IsOk (both_learned (part_of b.run batches) b second)
  taken =
      placed-fine (part_of b.run batches) b second fits.taken
      (both-fine (learned second.run [] second) (learned b.run (part_of b.run batches) b)
      (taken-second batches b second middle after next.fresh fresh begins (omega (arith, small, first, own))) fits.taken)

  pub sound-both : IsOk (fit_both batches b second)
  sound-both =
      subst (λ (t : Bool). IsOk (if t then Err misfit.ParentUnfit else rest)) (sym apart) passed
    where
      rest : Result Learned Misfit
      rest =
          if not (copies_fit_both_ways batches b) then Err misfit.OriginUnfit
          else if not (is_carrying_fit b second) then Err misfit.CarrierUnfit
          else if not (second_copies_fit batches b second) then Err misfit.OriginUnfit
          else or_error of_run_error (both_learned (part_of b.run batches) b second)

      passed : IsOk rest
      passed = rw (with-copies batches b sound next.faultless fits.copies, goes, second-fit) (ok-mapped of_run_error (both_learned (part_of b.run batches) b second) taken)

pub would-be-sound : (batches : List Batch) (b : Batch) (second : Option Batch) → IsSound batches → ComesNext batches b → IfSome second (GoesWithNew batches b) → greatest_task batches < 2 ^ 64 → b.key.task < 2 ^ 64
    → IfSome second (λ s. s.key.task < 2 ^ 64) → IsSound (arrived_second second (arrived b batches)) → IsOk (fit_of batches b second)
would-be-sound batches b None sound next new small own more after = sound-alone batches b sound next small own after
would-be-sound batches b (Some second) sound next new small own more after = sound-both batches b second sound next new small own more after
