-- Paths in a tree, and its current branch.
use Rattle.std.proofs.Common.{◌≡◌, ℕ, zero, suc, ◌<◌, ◌≤◌, true, List, [], ◌∷◌, ◌⊎◌, inl, inr, Option, Some, None, refl, sym, ◌∙◌, subst, ap, arith}
use Rattle.std.specs.Prelude.{is_some}
use Rattle.std.proofs.lemmas.Bool.{cases_lt}
use Rattle.ndc_event.specs.declared.batch.Batch.{Batch}
use Rattle.ndc_event.specs.declared.key.BatchKey.{BatchKey}
use Rattle.ndc_event.specs.declared.key.RunId.{RunId}
use Rattle.ndc_model_sets.specs.Sets.{Rise, batch_at, Has}
use Rattle.ndc_model_sets.specs.Learned.{has_key, IsPart}
use Rattle.ndc_model_sets.specs.Paths.{path_to, IsPath, first, below}
use Rattle.ndc_model_sets.specs.Sound.{VersionsAreChains}
use Rattle.ndc_model_sets.proofs.KeyLemmas.{key-parts}
use Rattle.ndc_model_sets.proofs.SetLemmas.{found-key, found-has}
use Rattle.ndc_model_sets.proofs.Lists.{Among}
use Rattle.ndc_model_sets.proofs.PathLemmas.{path-below, path-first, one-path, path-more}
use Rattle.ndc_model_sets.proofs.BranchLemmas.{among-has, same-batch}
use Rattle.ndc_model_sets.proofs.ForkLemmas.{among-left, among-right, path-rises}
use Rattle.ndc_tree.specs.Tree.{IsNextOfVersion, IsTree}
use Rattle.ndc_tree.proofs.GrowLemmas.{parent-task}

-- what there is
pub there : (o : Option Batch) → is_some o ≡ true → (b : Batch) × (o ≡ Some b)
there None h = absurd (cc)
there (Some b) h = (b, refl)

-- a path ends with its batch
path-ends : (batches : List Batch) (b : Batch) (path : List Batch) → IsPath batches b path → Among b path
path-ends batches b path (first _ has e) = inl refl
path-ends batches b path (below _ before key up has e at r) = among-right b up (b ∷ []) (inl refl)

module _ (run : RunId) (batches : List Batch) (tree : IsTree run batches) where
  pub parent-there : (b : Batch) (key : BatchKey) → Has batches b → b.parent ≡ Some key → (before : Batch) × (batch_at key batches ≡ Some before)
  parent-there b key has e = there (batch_at key batches) (sym (ap (λ o. has_key o batches) e) ∙ tree.closed b has)

  -- a parent has a smaller task
  pub parent-less : (b before : Batch) (key : BatchKey) → Has batches b → b.parent ≡ Some key → batch_at key batches ≡ Some before → before.key.task < b.key.task
  parent-less b before key has e at =
      subst (λ (k : BatchKey). k.task < b.key.task) (sym (found-key batches key before at)) (parent-task b key (tree.faultless b has) e)

  path-within : (most : ℕ) (b : Batch) → b.key.task < most → Has batches b → IsPath batches b (path_to b.key batches)
  path-within zero b l has = absurd (omega (arith, l))
  path-within (suc most) b l has = by b.parent refl (λ x m h. path-within most x m h)
    where
      by : (o : Option BatchKey) → b.parent ≡ o → ((x : Batch) → x.key.task < most → Has batches x → IsPath batches x (path_to x.key batches)) → IsPath batches b (path_to b.key batches)
      by None e rest = subst (IsPath batches b) (sym (path-first batches b tree.set has e)) (first b has e)
      by (Some key) e rest =
          let p = parent-there b key has e in
          let less = parent-less b p.0 key has e p.1 in
          let up : IsPath batches p.0 (path_to p.0.key batches) = rest p.0 (omega (arith, less, l)) (found-has batches key p.0 p.1) in
          subst (IsPath batches b) (sym (path-below batches b key tree.set has e))
          (below b p.0 key (path_to key batches) has e p.1 (subst (λ (k : BatchKey). IsPath batches p.0 (path_to k batches)) (found-key batches key p.0 p.1) up))

  -- in a tree each batch has its path
  pub path_is : (b : Batch) → Has batches b → IsPath batches b (path_to b.key batches)
  path_is b has = path-within (suc b.key.task) b (omega arith) has

  pub path-rise : (b : Batch) → Has batches b → Rise (path_to b.key batches)
  path-rise b has = (path-rises batches b (path_to b.key batches) tree.set (path_is b has)).0

  -- a batch ends its own path
  pub on-own-path : (b : Batch) → Has batches b → Among b (path_to b.key batches)
  on-own-path b has = path-ends batches b (path_to b.key batches) (path_is b has)

  chain-within : (most : ℕ) (one two : Batch) → two.key.task < most → Has batches one → Has batches two → one.key.version ≡ two.key.version → one.key.task < two.key.task
      → Among one (path_to two.key batches)
  chain-within zero one two l has other version less = absurd (omega (arith, l))
  chain-within (suc most) one two l has other version less =
      let n : IsNextOfVersion one two = tree.follow one two has other version less in
      let p = parent-there two n.parent other n.named in
      let own : p.0.key ≡ n.parent = found-key batches n.parent p.0 p.1 in
      let up = parent-less two p.0 n.parent other n.named p.1 in
      by n p.0 (found-has batches n.parent p.0 p.1) own up (cases_lt one.key.task n.parent.task) (λ v t m. chain-within most one p.0 m has (found-has batches n.parent p.0 p.1) v t)
    where
      by : (n : IsNextOfVersion one two) (p : Batch) → Has batches p → p.key ≡ n.parent → p.key.task < two.key.task → (one.key.task < n.parent.task) ⊎ (n.parent.task ≤ one.key.task)
          → (one.key.version ≡ p.key.version → one.key.task < p.key.task → p.key.task < most → Among one (path_to p.key batches)) → Among one (path_to two.key batches)
      by n p hp own up cases rest =
          subst (Among one) (sym (path-below batches two n.parent tree.set other n.named))
          (among-left one (path_to n.parent batches) (two ∷ []) (subst (λ (k : BatchKey). Among one (path_to k batches)) own (above cases)))
        where
          versions : one.key.version ≡ p.key.version
          versions = version ∙ sym n.version ∙ sym (ap (λ (k : BatchKey). k.version) own)

          tasks : p.key.task ≡ n.parent.task
          tasks = ap (λ (k : BatchKey). k.task) own

          above : (one.key.task < n.parent.task) ⊎ (n.parent.task ≤ one.key.task) → Among one (path_to p.key batches)
          above (inl m) = rest versions (omega (arith, m, tasks)) (omega (arith, up, l))
          above (inr m) =
              let same : one ≡ p = same-batch batches one p has hp (key-parts one.key p.key versions (omega (arith, m, tasks, n.next))) in
              subst (λ (x : Batch). Among x (path_to p.key batches)) (sym same) (on-own-path p hp)

  -- of two batches of one version, the one with the smaller task is an ancestor of the other
  pub chain : (one two : Batch) → Has batches one → Has batches two → one.key.version ≡ two.key.version → one.key.task < two.key.task → Among one (path_to two.key batches)
  chain one two has other version less = chain-within (suc two.key.task) one two (omega arith) has other version less

  pub versions_are_chains : VersionsAreChains batches
  versions_are_chains one two has other run version less =
      among-has (path_to two.key batches) one (path-rise two other) (chain one two has other version less)

-- where a tree is a part of another one, paths are the same there
pub paths_stay : (run : RunId) (batches more : List Batch) (b : Batch) → IsTree run batches → IsTree run more → IsPart batches more → Has batches b → path_to b.key more ≡ path_to b.key batches
paths_stay run batches more b tree other within has =
    one-path more b (path_to b.key more) (path_to b.key batches) (path_is run more other b (within b has))
    (path-more batches more b (path_to b.key batches) within (path_is run batches tree b has))
