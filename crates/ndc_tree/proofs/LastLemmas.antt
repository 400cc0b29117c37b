-- The current branch of a tree ends with its last batch.
use Rattle.std.proofs.Common.{◌≡◌, ◌<◌, Bool, true, false, not, ◌&&◌, ◌||◌, nat_lt, List, [], ◌∷◌, ◌⊎◌, inl, inr, Option, Some, None, refl, sym, ◌∙◌, subst, ap, true≢false, arith}
use Rattle.std.specs.Option.{option_or}
use Rattle.std.proofs.lemmas.Bool.{and_parts, and_from, lt-ltb, ltb-true}
use Rattle.ndc_event.specs.Key.{key_lt, key_eq}
use Rattle.ndc_event.specs.declared.batch.Batch.{Batch}
use Rattle.ndc_event.specs.declared.key.RunId.{RunId}
use Rattle.ndc_model_sets.specs.Sets.{PointsBack, Rise, Has}
use Rattle.ndc_model_sets.specs.Paths.{is_wanted, path_to}
use Rattle.ndc_model_sets.specs.Branches.{same_run, has_child, tips, leads, current_tip, greatest_key}
use Rattle.ndc_model_sets.proofs.KeyLemmas.{IsBefore, before-parts, before-irrefl, before-trans, same-keys, key_eq-self}
use Rattle.ndc_model_sets.proofs.SetLemmas.{found-all}
use Rattle.ndc_model_sets.proofs.Lists.{Among, all-among, among-filter, filter-among, list_all-each, each-list_all, list_any-none, find-only}
use Rattle.ndc_model_sets.proofs.PathLemmas.{parent-back}
use Rattle.ndc_model_sets.proofs.BranchLemmas.{has-among, among-has, same-batch, same-run, greatest-of}
use Rattle.ndc_model_sets.proofs.CurrentLemmas.{key-wanted, path-child}
use Rattle.ndc_model_sets.specs.Last.{last_batch}
use Rattle.ndc_tree.specs.Tree.{IsTree}
use Rattle.ndc_tree.proofs.PathLemmas.{path_is, path-rise, chain}

-- the last is one of them
pub last-among : (batches : List Batch) (m : Batch) → last_batch batches ≡ Some m → Among m batches
last-among [] m h = absurd (cc)
last-among (b ∷ batches) m h = by (last_batch batches) refl h (λ g. last-among batches m g)
  where
    by : (o : Option Batch) → last_batch batches ≡ o → option_or o (Some b) ≡ Some m → (last_batch batches ≡ Some m → Among m batches) → Among m (b ∷ batches)
    by None e h rest = inl (cc)
    by (Some x) e h rest = inr (rest (e ∙ h))

pub none-last : (batches : List Batch) → last_batch batches ≡ None → batches ≡ []
none-last [] h = refl
none-last (b ∷ batches) h = by (last_batch batches) h
  where
    by : (o : Option Batch) → option_or o (Some b) ≡ None → b ∷ batches ≡ []
    by None h = absurd (cc)
    by (Some x) h = absurd (cc)

-- each other one comes before the last
pub last-top : (batches : List Batch) (m x : Batch) → Rise batches → last_batch batches ≡ Some m → Among x batches → (x ≡ m) ⊎ (key_lt x.key m.key ≡ true)
last-top [] m x rise h among = absurd among
last-top (b ∷ batches) m x rise h among = by (last_batch batches) refl h among (λ g k. last-top batches m x rise.1 g k)
  where
    empty : last_batch batches ≡ None → Among x batches → ⊥
    empty e k = subst (Among x) (none-last batches e) k

    by : (o : Option Batch) → last_batch batches ≡ o → option_or o (Some b) ≡ Some m → (x ≡ b) ⊎ Among x batches
        → (last_batch batches ≡ Some m → Among x batches → (x ≡ m) ⊎ (key_lt x.key m.key ≡ true)) → (x ≡ m) ⊎ (key_lt x.key m.key ≡ true)
    by None e h (inl same) rest = let last : b ≡ m = cc in inl (same ∙ last)
    by None e h (inr k) rest = absurd (empty e k)
    by (Some y) e h (inl same) rest =
        inr (subst (λ (z : Batch). key_lt z.key m.key ≡ true) (sym same) (all-among (λ (z : Batch). key_lt b.key z.key ≡ true) batches m rise.0 (last-among batches m (e ∙ h))))
    by (Some y) e h (inr k) rest = rest (e ∙ h) k

module _ (run : RunId) (batches : List Batch) (tree : IsTree run batches) (m : Batch) (last : last_batch batches ≡ Some m) where
  pub last-has : Has batches m
  last-has = among-has batches m tree.set.ordered (last-among batches m last)

  pub up-to-last : (x : Batch) → Has batches x → (x ≡ m) ⊎ (key_lt x.key m.key ≡ true)
  up-to-last x has = last-top batches m x tree.set.ordered last (has-among batches x has)

  not-above : (x : Batch) → Has batches x → key_lt m.key x.key ≡ true → ⊥
  not-above x has l = by (up-to-last x has)
    where
      by : (x ≡ m) ⊎ (key_lt x.key m.key ≡ true) → ⊥
      by (inl same) = before-irrefl m.key (subst (λ (z : Batch). key_lt m.key z.key ≡ true) same l)
      by (inr g) = before-irrefl m.key (before-trans m.key x.key m.key l g)

  pub last-childless : has_child m batches ≡ false
  last-childless = list_any-none (λ child. is_wanted child.parent m) batches (λ x among. by x (among-has batches x tree.set.ordered among) (is_wanted x.parent m) refl)
    where
      by : (x : Batch) → Has batches x → (t : Bool) → is_wanted x.parent m ≡ t → t ≡ false
      by x has true e = absurd (not-above x has (parent-back x (found-all PointsBack batches x.key x tree.set.back has) m.key (key-wanted x.parent m e)))
      by x has false e = refl

  last-tip : Among m (tips run batches)
  last-tip = among-filter (λ b. same_run b.run run && not (has_child b batches)) batches m (and_from (same_run m.run run) (not (has_child m batches)) (same-run m.run run (tree.runs m last-has)) (ap not last-childless)) (has-among batches m last-has)

  tip-has : (x : Batch) → Among x (tips run batches) → Has batches x × (has_child x batches ≡ false)
  tip-has x among =
      let k = filter-among (λ b. same_run b.run run && not (has_child b batches)) batches x among in
      (among-has batches x tree.set.ordered k.1, childless (has_child x batches) refl (and_parts (same_run x.run run) (not (has_child x batches)) k.0).1)
    where
      childless : (t : Bool) → has_child x batches ≡ t → not t ≡ true → has_child x batches ≡ false
      childless true e h = absurd (cc)
      childless false e h = e

  -- another tip has a smaller version
  below-last : (x : Batch) → Among x (tips run batches) → key_lt x.key m.key ≡ true → x.key.version < m.key.version
  below-last x among l = by (before-parts x.key m.key l)
    where
      t : Has batches x × (has_child x batches ≡ false)
      t = tip-has x among

      on : (x ≡ m) ⊎ (has_child x batches ≡ true) → x.key.version < m.key.version
      on (inl same) = absurd (before-irrefl m.key (subst (λ (z : Batch). key_lt z.key m.key ≡ true) same l))
      on (inr child) = absurd (true≢false (sym child ∙ t.1))

      by : IsBefore x.key m.key → x.key.version < m.key.version
      by (inl v) = v
      by (inr s) = on (path-child batches m x (path_to m.key batches) (path_is run batches tree m last-has)
          (among-has (path_to m.key batches) x (path-rise run batches tree m last-has) (chain run batches tree x m t.0 last-has s.0 s.1)))

  last-leads : leads (tips run batches) m ≡ true
  last-leads = list_all-each (λ other. key_eq other.key m.key || nat_lt other.key.version m.key.version) (tips run batches) (λ x among. by x among (up-to-last x (tip-has x among).0))
    where
      second : (a b : Bool) → b ≡ true → (a || b) ≡ true
      second true b h = refl
      second false b h = h

      by : (x : Batch) → Among x (tips run batches) → (x ≡ m) ⊎ (key_lt x.key m.key ≡ true) → (key_eq x.key m.key || nat_lt x.key.version m.key.version) ≡ true
      by x among (inl same) = rw (subst (λ (z : Batch). key_eq z.key m.key ≡ true) (sym same) (key_eq-self m.key)) refl
      by x among (inr l) = second (key_eq x.key m.key) (nat_lt x.key.version m.key.version) (lt-ltb x.key.version m.key.version (below-last x among l))

  only-last : (x : Batch) → Among x (tips run batches) → leads (tips run batches) x ≡ true → x ≡ m
  only-last x among h = by (up-to-last x (tip-has x among).0)
    where
      mine : (key_eq m.key x.key || nat_lt m.key.version x.key.version) ≡ true
      mine = each-list_all (λ other. key_eq other.key x.key || nat_lt other.key.version x.key.version) (tips run batches) m h last-tip

      cases : (t : Bool) → key_eq m.key x.key ≡ t → (t || nat_lt m.key.version x.key.version) ≡ true → key_lt x.key m.key ≡ true → x ≡ m
      cases true e g l = sym (same-batch batches m x last-has (tip-has x among).0 (same-keys m.key x.key e))
      cases false e g l = absurd (omega (arith, ltb-true m.key.version x.key.version g, below-last x among l))

      by : (x ≡ m) ⊎ (key_lt x.key m.key ≡ true) → x ≡ m
      by (inl same) = same
      by (inr l) = cases (key_eq m.key x.key) refl mine l

  pub current-is-last : current_tip run batches ≡ Some m
  current-is-last = find-only (leads (tips run batches)) (tips run batches) m last-leads last-tip only-last

  pub greatest-is-last : greatest_key batches ≡ Some m
  greatest-is-last = greatest-of batches m (has-among batches m last-has) (λ x among. up-to-last x (among-has batches x tree.set.ordered among))

-- the current branch of a tree ends with its last batch
pub current_is_last : (run : RunId) (batches : List Batch) → IsTree run batches → current_tip run batches ≡ last_batch batches
current_is_last run batches tree = by (last_batch batches) refl
  where
    by : (o : Option Batch) → last_batch batches ≡ o → current_tip run batches ≡ last_batch batches
    by None e = ap (current_tip run) (none-last batches e) ∙ sym (ap last_batch (none-last batches e))
    by (Some m) e = current-is-last run batches tree m e ∙ sym e

-- and it is the greatest
pub current_is_greatest : (run : RunId) (batches : List Batch) → IsTree run batches → current_tip run batches ≡ greatest_key batches
current_is_greatest run batches tree = by (last_batch batches) refl
  where
    by : (o : Option Batch) → last_batch batches ≡ o → current_tip run batches ≡ greatest_key batches
    by None e = ap (current_tip run) (none-last batches e) ∙ sym (ap greatest_key (none-last batches e))
    by (Some m) e = current-is-last run batches tree m e ∙ sym (greatest-is-last run batches tree m e)
