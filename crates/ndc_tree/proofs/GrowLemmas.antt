-- A tree with one more batch.
use Rattle.std.proofs.Common.{◌≡◌, ◌<◌, true, List, ◌⊎◌, inl, inr, Option, Some, None, refl, sym, ◌∙◌, subst, ap, arith}
use Rattle.std.specs.Prelude.{is_some, not, nat_lt, IfSome}
use Rattle.std.proofs.lemmas.Bool.{and_parts, ltb-true}
use Rattle.ndc_event.specs.declared.batch.Batch.{Batch}
use Rattle.ndc_event.specs.declared.key.BatchKey.{BatchKey}
use Rattle.ndc_event.specs.declared.key.RunId.{RunId}
use Rattle.ndc_event.specs.Batch.{is_parent_fit, fault_of}
use Rattle.ndc_model_sets.specs.Sets.{batch_at, Has, arrived}
use Rattle.ndc_model_sets.specs.Learned.{has_key, IsPart}
use Rattle.ndc_model_sets.specs.Sound.{AreFaultless, IsParentFit, ParentsFit}
use Rattle.ndc_model_sets.proofs.ArrivalLemmas.{arrival_keeps_sets, stays, was_or_new}
use Rattle.ndc_model_sets.proofs.FaultLemmas.{passes}
use Rattle.ndc_model_sets.proofs.SetLemmas.{found-key, found-has, has-found}
use Rattle.ndc_model_sets.proofs.SoundLemmas.{faultless-back}
use Rattle.ndc_tree.specs.Tree.{HaveParents, AreOfRun, IsNextOfVersion, VersionsFollow, IsTree, Joins}

-- the parent of a batch without a fault has a smaller task
pub parent-task : (b : Batch) (parent : BatchKey) → fault_of b ≡ None → b.parent ≡ Some parent → parent.task < b.key.task
parent-task b parent e at =
    let fit : is_parent_fit b.key (Some parent) ≡ true = subst (λ (o : Option BatchKey). is_parent_fit b.key o ≡ true) at (passes b e).parent in
    ltb-true parent.task b.key.task (and_parts (not (nat_lt b.key.version parent.version)) (nat_lt parent.task b.key.task) fit).1

module _ (run : RunId) (batches : List Batch) (new : Batch) (tree : IsTree run batches) (joins : Joins run batches new) where
  which : (b : Batch) → Has (arrived new batches) b → (b ≡ new) ⊎ Has batches b
  which b has = was_or_new new batches b tree.set.ordered has

  old-there : IsPart batches (arrived new batches)
  old-there = stays new batches tree.set.ordered

  more : (key : BatchKey) (b : Batch) → batch_at key batches ≡ Some b → batch_at key (arrived new batches) ≡ Some b
  more key b at = has-found (arrived new batches) key b (found-key batches key b at) (old-there b (found-has batches key b at))

  key-there : (o : Option BatchKey) → has_key o batches ≡ true → has_key o (arrived new batches) ≡ true
  key-there None h = refl
  key-there (Some key) h = by (batch_at key batches) refl h
    where
      by : (o : Option Batch) → batch_at key batches ≡ o → is_some o ≡ true → has_key (Some key) (arrived new batches) ≡ true
      by None at h = absurd (cc)
      by (Some b) at h = ap is_some (more key b at)

  -- what a key names that is one of the tree's stays
  was : (key : BatchKey) (before : Batch) → has_key (Some key) batches ≡ true → batch_at key (arrived new batches) ≡ Some before → batch_at key batches ≡ Some before
  was key before h at = by (batch_at key batches) refl h
    where
      by : (o : Option Batch) → batch_at key batches ≡ o → is_some o ≡ true → batch_at key batches ≡ Some before
      by None f t = absurd (cc)
      by (Some x) f t = let other : batch_at key (arrived new batches) ≡ Some x = more key x f in let same : x ≡ before = cc in f ∙ ap Some same

  grown-closed : HaveParents (arrived new batches)
  grown-closed b has = by (which b has)
    where
      by : (b ≡ new) ⊎ Has batches b → has_key b.parent (arrived new batches) ≡ true
      by (inl same) = subst (λ (x : Batch). has_key x.parent (arrived new batches) ≡ true) (sym same) (key-there new.parent joins.reached)
      by (inr h) = key-there b.parent (tree.closed b h)

  grown-faultless : AreFaultless (arrived new batches)
  grown-faultless b has = by (which b has)
    where
      by : (b ≡ new) ⊎ Has batches b → fault_of b ≡ None
      by (inl same) = subst (λ (x : Batch). fault_of x ≡ None) (sym same) joins.faultless
      by (inr h) = tree.faultless b h

  grown-runs : AreOfRun run (arrived new batches)
  grown-runs b has = by (which b has)
    where
      by : (b ≡ new) ⊎ Has batches b → b.run ≡ run
      by (inl same) = ap (λ (x : Batch). x.run) same ∙ joins.run_is
      by (inr h) = tree.runs b h

  grown-parents : ParentsFit (arrived new batches)
  grown-parents b before key has e at = by (which b has)
    where
      fit : batch_at key batches ≡ Some before → new.parent ≡ Some key → IsParentFit before new
      fit there f = record { run = tree.runs before (found-has batches key before there) ∙ sym joins.run_is; ids = joins.ids before key f there }

      by : (b ≡ new) ⊎ Has batches b → IsParentFit before b
      by (inl same) =
          let f : new.parent ≡ Some key = sym (ap (λ (x : Batch). x.parent) same) ∙ e in
          let there : batch_at key batches ≡ Some before = was key before (sym (ap (λ o. has_key o batches) f) ∙ joins.reached) at in
          subst (IsParentFit before) (sym same) (fit there f)
      by (inr h) = tree.parents b before key h e (was key before (sym (ap (λ o. has_key o batches) e) ∙ tree.closed b h) at)

  grown-follow : VersionsFollow (arrived new batches)
  grown-follow one two has other version less = by (which one has) (which two other)
    where
      by : (one ≡ new) ⊎ Has batches one → (two ≡ new) ⊎ Has batches two → IsNextOfVersion one two
      by (inl s) (inl t) = absurd (omega (arith, less, ap (λ (b : Batch). b.key.task) (s ∙ sym t)))
      by (inl s) (inr k) =
          let n : IsNextOfVersion two new = joins.next two k (sym version ∙ ap (λ (b : Batch). b.key.version) s) in
          let up : n.parent.task < new.key.task = parent-task new n.parent joins.faultless n.named in
          absurd (omega (arith, less, up, n.next, ap (λ (b : Batch). b.key.task) s))
      by (inr h) (inl t) = subst (IsNextOfVersion one) (sym t) (joins.next one h (version ∙ ap (λ (b : Batch). b.key.version) t))
      by (inr h) (inr k) = tree.follow one two h k version less

  -- a tree stays one where a batch joins it
  pub grown_is_tree : IsTree run (arrived new batches)
  grown_is_tree = record {
    set = arrival_keeps_sets new batches tree.set (faultless-back new joins.faultless);
    faultless = grown-faultless;
    closed = grown-closed;
    runs = grown-runs;
    parents = grown-parents;
    follow = grown-follow;
  }

-- the parent of a batch without a fault has a smaller task
pub parent-before : (b : Batch) → fault_of b ≡ None → IfSome b.parent (λ before. before.task < b.key.task)
parent-before b e = by b.parent refl
  where
    by : (o : Option BatchKey) → b.parent ≡ o → IfSome o (λ before. before.task < b.key.task)
    by None at = tt
    by (Some parent) at = parent-task b parent e at
