-- The gap between what is learned and a batch that is put off.
use Rattle.std.proofs.Common.{◌≡◌, ℕ, ◌+◌, ◌<◌, Bool, true, false, not, ◌&&◌, nat_lt, List, [], ◌∷◌, ◌++◌, ◌⊎◌, inl, inr, Option, Some, None, refl, sym, ◌∙◌, subst, ap, true≢false, arith}
use Rattle.std.specs.Prelude.{if◌then◌else◌, is_some}
use Rattle.std.specs.List.{filter}
use Rattle.std.proofs.lemmas.Bool.{and_from, ltb-true, lt-ltb}
use Rattle.ndc_event.specs.Key.{key_lt}
use Rattle.ndc_event.specs.declared.batch.Batch.{Batch}
use Rattle.ndc_event.specs.declared.key.BatchKey.{BatchKey}
use Rattle.ndc_history.specs.declared.item.Item.{Item}
use Rattle.ndc_history.specs.Common.{common_of, better, best_from}
use Rattle.ndc_model_sets.specs.Sets.{IsSet, PointsBack, batch_at, Has}
use Rattle.ndc_model_sets.specs.Learned.{IsClosed}
use Rattle.ndc_model_sets.specs.Paths.{IsPath, first, below, path_to, is_wanted, best_item}
use Rattle.ndc_model_sets.specs.Branches.{same_run, has_child, tips, greatest_key}
use Rattle.ndc_model_sets.specs.Sound.{ParentsFit}
use Rattle.ndc_model_sets.proofs.KeyLemmas.{before-irrefl, before-trans}
use Rattle.ndc_model_sets.proofs.SetLemmas.{found-key, found-has, found-all}
use Rattle.ndc_model_sets.proofs.Lists.{Among, among-filter, filter-among, list_any-none}
use Rattle.ndc_model_sets.proofs.PathLemmas.{path_is, path-below, parent-back}
use Rattle.ndc_model_sets.proofs.BranchLemmas.{has-among, among-has, same-batch, same-run, greatest-among, greatest-top, greatest-some, IsUpTo}
use Rattle.ndc_model_sets.proofs.CurrentLemmas.{key-wanted}
use Rattle.ndc_model_sets.proofs.ForkLemmas.{path-run, path-rises, among-left, among-right}

-- the item is this one, or of a smaller id, or there is none
abbrev pub IsAtMost : Item → Option Item → Type 0
IsAtMost m o = (o ≡ None) ⊎ ((x : Item) × (o ≡ Some x) × ((x ≡ m) ⊎ (x.id < m.id)))

-- the better of two, by whether the later one has a greater id
better-cases : (P : Option (ℕ × Item) → Type 0) (place : ℕ) (item : Item) (later : ℕ × Item) → (item.id < later.1.id → P (Some later)) → (P (Some (place, item))) → P (better place (Some item) (Some later))
better-cases P place item later less other = by (nat_lt item.id later.1.id) refl
  where
    by : (t : Bool) → nat_lt item.id later.1.id ≡ t → P (if t then Some later else Some (place, item))
    by true e = less (ltb-true item.id later.1.id e)
    by false e = other

at-most-better : (m : Item) (place : ℕ) (o : Option Item) (later : Option (ℕ × Item)) → IsAtMost m o → IsAtMost m (best_item later) → IsAtMost m (best_item (better place o later))
at-most-better m place None later a b = b
at-most-better m place (Some x) None a b = a
at-most-better m place (Some x) (Some l) a b = better-cases (λ r. IsAtMost m (best_item r)) place x l (λ _. b) a

-- the best of several is at most what each is
pub at-most : (m : Item) (place : ℕ) (locals : List (List Item)) (remote : List Item) → ((h : List Item) → Among h locals → IsAtMost m (common_of h remote)) → IsAtMost m (best_item (best_from place locals remote))
at-most m place [] remote each = inl refl
at-most m place (h ∷ hs) remote each =
    at-most-better m place (common_of h remote) (best_from (place + 1) hs remote) (each h (inl refl)) (at-most m (place + 1) hs remote (λ k r. each k (inr r)))

first-best : (m : Item) (place : ℕ) (later : Option (ℕ × Item)) → IsAtMost m (best_item later) → best_item (better place (Some m) later) ≡ Some m
first-best m place None a = refl
first-best m place (Some l) a = by a
  where
    less : m.id < l.1.id → IsAtMost m (Some l.1) → Some l.1 ≡ Some m
    less s (inl e) = absurd (cc)
    less s (inr (x, e, inl same)) = e ∙ ap Some same
    less s (inr (x, e, inr fewer)) = let same : l.1 ≡ x = cc in let ids : l.1.id ≡ x.id = ap (λ (i : Item). i.id) same in absurd (omega (arith, s, fewer, ids))

    by : IsAtMost m (Some l.1) → best_item (better place (Some m) (Some l)) ≡ Some m
    by a = better-cases (λ r. best_item r ≡ Some m) place m l (λ s. less s a) refl

further-best : (m : Item) (place : ℕ) (o : Option Item) (later : Option (ℕ × Item)) → IsAtMost m o → best_item later ≡ Some m → best_item (better place o later) ≡ Some m
further-best m place None later a e = e
further-best m place (Some x) None a e = absurd (cc)
further-best m place (Some x) (Some l) a e = by (nat_lt x.id l.1.id) refl a
  where
    by : (t : Bool) → nat_lt x.id l.1.id ≡ t → IsAtMost m (Some x) → best_item (if t then Some l else Some (place, x)) ≡ Some m
    by true f a = e
    by false f (inl none) = absurd (cc)
    by false f (inr (y, s, inl same)) = s ∙ ap Some same
    by false f (inr (y, s, inr fewer)) =
        let one : x ≡ y = cc in let ids : x.id ≡ y.id = ap (λ (i : Item). i.id) one in
        let top : l.1 ≡ m = cc in let tops : l.1.id ≡ m.id = ap (λ (i : Item). i.id) top in
        absurd (true≢false (sym (lt-ltb x.id l.1.id (omega (arith, fewer, ids, tops))) ∙ f))

-- the best of several is the one that none exceeds
pub best-is : (m : Item) (place : ℕ) (locals : List (List Item)) (remote h : List Item) → ((h : List Item) → Among h locals → IsAtMost m (common_of h remote))
    → Among h locals → common_of h remote ≡ Some m → best_item (best_from place locals remote) ≡ Some m
best-is m place [] remote h each there e = absurd there
best-is m place (k ∷ ks) remote h each (inl same) e =
    let own : common_of k remote ≡ Some m = ap (λ l. common_of l remote) (sym same) ∙ e in
    ap (λ o. best_item (better place o (best_from (place + 1) ks remote))) own
    ∙ first-best m place (best_from (place + 1) ks remote) (at-most m (place + 1) ks remote (λ l r. each l (inr r)))
best-is m place (k ∷ ks) remote h each (inr there) e =
    further-best m place (common_of k remote) (best_from (place + 1) ks remote) (each k (inl refl)) (best-is m (place + 1) ks remote h (λ l r. each l (inr r)) there e)

-- nothing is best where nothing is in common
pub best-none : (place : ℕ) (locals : List (List Item)) (remote : List Item) → ((h : List Item) → Among h locals → common_of h remote ≡ None) → best_item (best_from place locals remote) ≡ None
best-none place [] remote none = refl
best-none place (h ∷ hs) remote none =
    ap (λ o. best_item (better place o (best_from (place + 1) hs remote))) (none h (inl refl)) ∙ best-none (place + 1) hs remote (λ k r. none k (inr r))

-- whether this batch is on the path to another
abbrev pub is_on : List Batch → Batch → Batch → Bool
is_on batches a x = is_some (batch_at a.key (path_to x.key batches))

module _ (batches : List Batch) (set : IsSet batches) (closed : IsClosed batches) (fit : ParentsFit batches) (a : Batch) (has : Has batches a) where
  on-path : (x : Batch) → Has batches x → is_on batches a x ≡ true → Among a (path_to x.key batches)
  on-path x h e = by (batch_at a.key (path_to x.key batches)) refl e
    where
      by : (o : Option Batch) → batch_at a.key (path_to x.key batches) ≡ o → is_some o ≡ true → Among a (path_to x.key batches)
      by None at e = absurd (cc)
      by (Some y) at e =
          let there : Among y (path_to x.key batches) = has-among (path_to x.key batches) y (found-has (path_to x.key batches) a.key y at) in
          let own : y ≡ a = same-batch batches y a (path-run batches x y (path_to x.key batches) fit (path_is batches x set closed h) there).0 has (found-key (path_to x.key batches) a.key y at) in
          subst (λ (z : Batch). Among z (path_to x.key batches)) own there

  path-on : (x : Batch) → Has batches x → Among a (path_to x.key batches) → is_on batches a x ≡ true
  path-on x h there = ap is_some (among-has (path_to x.key batches) a (path-rises batches x (path_to x.key batches) set (path_is batches x set closed h)).0 there)

  on-itself : is_on batches a a ≡ true
  on-itself = path-on a has (by (path_to a.key batches) (path_is batches a set closed has))
    where
      by : (p : List Batch) → IsPath batches a p → Among a p
      by p (first _ _ _) = inl refl
      by p (below _ before key up _ _ _ _) = among-right a up (a ∷ []) (inl refl)

  -- each batch is on a branch
  pub branch-above : (t : Batch) × Among t (tips a.run batches) × Among a (path_to t.key batches)
  branch-above = by (greatest-some (filter (is_on batches a) batches) a (among-filter (is_on batches a) batches a on-itself (has-among batches a has)))
    where
      by : (m : Batch) × (greatest_key (filter (is_on batches a) batches) ≡ Some m) → (t : Batch) × Among t (tips a.run batches) × Among a (path_to t.key batches)
      by (m, e) =
          let k = filter-among (is_on batches a) batches m (greatest-among (filter (is_on batches a) batches) m e) in
          let has_m : Has batches m = among-has batches m set.ordered k.1 in
          let on : Among a (path_to m.key batches) = on-path m has_m k.0 in
          let own : a.run ≡ m.run = (path-run batches m a (path_to m.key batches) fit (path_is batches m set closed has_m) on).1 in
          let none : has_child m batches ≡ false =
          list_any-none (λ c. is_wanted c.parent m) batches (λ c h. childless m e has_m on c (among-has batches c set.ordered h) (is_wanted c.parent m) refl) in (
            m,
            among-filter (λ x. same_run x.run a.run && not (has_child x batches)) batches m
                (and_from (same_run m.run a.run) (not (has_child m batches)) (same-run m.run a.run (sym own)) (ap not none)) k.1,
            on,
          )
        where
          childless : (m : Batch) → greatest_key (filter (is_on batches a) batches) ≡ Some m → Has batches m → Among a (path_to m.key batches) → (c : Batch) → Has batches c → (t : Bool) → is_wanted c.parent m ≡ t → is_wanted c.parent m ≡ false
          childless m e has_m on c h false w = w
          childless m e has_m on c h true w =
              let named : c.parent ≡ Some m.key = key-wanted c.parent m w in
              let longer : path_to c.key batches ≡ path_to m.key batches ++ c ∷ [] = path-below batches c m.key set h named in
              let there : Among a (path_to c.key batches) = subst (λ (l : List Batch). Among a l) (sym longer) (among-left a (path_to m.key batches) (c ∷ []) on) in
              let listed : Among c (filter (is_on batches a) batches) = among-filter (is_on batches a) batches c (path-on c h there) (has-among batches c h) in
              let l : key_lt m.key c.key ≡ true = parent-back c (found-all PointsBack batches c.key c set.back h) m.key named in
              absurd (up l (greatest-top (filter (is_on batches a) batches) m c e listed))
            where
              up : key_lt m.key c.key ≡ true → IsUpTo m.key c.key → ⊥
              up l (inl same) = before-irrefl m.key (subst (λ (k : BatchKey). key_lt m.key k ≡ true) same l)
              up l (inr k) = before-irrefl m.key (before-trans m.key c.key m.key l k)
