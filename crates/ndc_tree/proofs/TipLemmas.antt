-- The tips of a tree with one more batch.
use Rattle.std.proofs.Common.{◌≡◌, Bool, true, false, not, ◌&&◌, ◌||◌, cond, List, [], ◌∷◌, map, Option, Some, None, refl, sym, ◌∙◌, subst, ap}
use Rattle.std.specs.List.{filter, list_any}
use Rattle.ndc_event.specs.Key.{key_lt, key_eq}
use Rattle.ndc_event.specs.declared.batch.Batch.{Batch}
use Rattle.ndc_event.specs.declared.key.BatchKey.{BatchKey}
use Rattle.ndc_event.specs.declared.key.RunId.{RunId}
use Rattle.ndc_model_sets.specs.Sets.{ComeAfter, Rise, batch_at, Has, arrived}
use Rattle.ndc_model_sets.specs.Paths.{is_wanted}
use Rattle.ndc_model_sets.specs.Branches.{same_run, has_child, tips}
use Rattle.ndc_model_sets.proofs.KeyLemmas.{before-irrefl, key_eq-self, same-keys}
use Rattle.ndc_model_sets.proofs.SetLemmas.{after-trans, has-found}
use Rattle.ndc_model_sets.proofs.ArrivalLemmas.{arrival_keeps_sets}
use Rattle.ndc_model_sets.proofs.BranchLemmas.{same-run, among-has}
use Rattle.ndc_model_sets.proofs.CurrentLemmas.{key-wanted}
use Rattle.ndc_model_sets.proofs.SoundLemmas.{faultless-back}
use Rattle.ndc_model_sets.proofs.Lists.{Among, list_any-none, map-among, filter-among}
use Rattle.ndc_model_sets.specs.Learned.{has_key}
use Rattle.ndc_tree.specs.Tree.{IsTree, Joins}
use Rattle.std.specs.Prelude.{is_some}
use Rattle.ndc_tree.specs.Tips.{tip_keys, without_parent}
use Rattle.ndc_model_sets.specs.Keys.{is_key_among, with_key, without_key}

-- the keys of the batches that pass
abbrev pub keys_where : (Batch → Bool) → List Batch → List BatchKey
keys_where p batches = map (λ b. b.key) (filter p batches)

-- a key that comes before all of these goes first
with-first : (key : BatchKey) (p : Batch → Bool) (batches : List Batch) → ComeAfter key batches → with_key key (keys_where p batches) ≡ key ∷ keys_where p batches
with-first key p [] all = refl
with-first key p (b ∷ batches) all = by (p b) refl (with-first key p batches all.1)
  where
    by : (t : Bool) → p b ≡ t → with_key key (map (λ x. x.key) (filter p batches)) ≡ key ∷ map (λ x. x.key) (filter p batches)
        → with_key key (map (λ x. x.key) (filter p (b ∷ batches))) ≡ key ∷ map (λ x. x.key) (filter p (b ∷ batches))
    by true e rest = rw (e, all.0) refl
    by false e rest = rw e rest

-- those of the batches with one more that pass are those that passed before, with the new one
pub keys-arrived : (p : Batch → Bool) (new : Batch) (batches : List Batch) → Rise batches → batch_at new.key batches ≡ None → p new ≡ true
    → keys_where p (arrived new batches) ≡ with_key new.key (keys_where p batches)
keys-arrived p new [] rise none t = rw t refl
keys-arrived p new (b ∷ batches) rise none t =
    by (key_lt new.key b.key) (key_eq new.key b.key) (key_eq b.key new.key) (p b) refl refl refl refl none (λ n. keys-arrived p new batches rise.1 n t)
  where
    apart : new.key ≡ b.key → key_eq b.key new.key ≡ true
    apart same = subst (λ (k : BatchKey). key_eq k new.key ≡ true) same (key_eq-self new.key)

    by : (l e r q : Bool) → key_lt new.key b.key ≡ l → key_eq new.key b.key ≡ e → key_eq b.key new.key ≡ r → p b ≡ q → cond r (Some b) (batch_at new.key batches) ≡ None
        → (batch_at new.key batches ≡ None → map (λ x. x.key) (filter p (arrived new batches)) ≡ with_key new.key (map (λ x. x.key) (filter p batches)))
        → map (λ x. x.key) (filter p (arrived new (b ∷ batches))) ≡ with_key new.key (map (λ x. x.key) (filter p (b ∷ batches)))
    by l e true q f g h i n rest = absurd (cc)
    by true e false true f g h i n rest = rw (f, t, i, f) refl
    by true e false false f g h i n rest = rw (f, t, i) (sym (with-first new.key p batches (after-trans new.key b.key batches f rise.0)))
    by false true false q f g h i n rest = let k : key_eq b.key new.key ≡ true = apart (same-keys new.key b.key g) in absurd (cc)
    by false false false true f g h i n rest = rw (f, g, i, f, g) (ap (λ l. b.key ∷ l) (rest n))
    by false false false false f g h i n rest = rw (f, g, i) (rest n)

-- where no key is this one, all but it are all
none-without : (key : BatchKey) (p : Batch → Bool) (batches : List Batch) → ComeAfter key batches
    → keys_where (λ b. p b && not (key_eq b.key key)) batches ≡ keys_where p batches
none-without key p [] all = refl
none-without key p (b ∷ batches) all = by (p b) (key_eq b.key key) refl refl (none-without key p batches all.1)
  where
    by : (t r : Bool) → p b ≡ t → key_eq b.key key ≡ r → keys_where (λ x. p x && not (key_eq x.key key)) batches ≡ keys_where p batches
        → keys_where (λ x. p x && not (key_eq x.key key)) (b ∷ batches) ≡ keys_where p (b ∷ batches)
    by t true e f rest = absurd (before-irrefl key (subst (λ (k : BatchKey). key_lt key k ≡ true) (same-keys b.key key f) all.0))
    by true false e f rest = rw (e, f) (ap (λ l. b.key ∷ l) rest)
    by false false e f rest = rw e rest

-- those that pass but for a key
keys-without : (key : BatchKey) (p : Batch → Bool) (batches : List Batch) → Rise batches
    → keys_where (λ b. p b && not (key_eq b.key key)) batches ≡ without_key key (keys_where p batches)
keys-without key p [] rise = refl
keys-without key p (b ∷ batches) rise = by (p b) (key_eq b.key key) refl refl (keys-without key p batches rise.1)
  where
    by : (t r : Bool) → p b ≡ t → key_eq b.key key ≡ r → keys_where (λ x. p x && not (key_eq x.key key)) batches ≡ without_key key (keys_where p batches)
        → keys_where (λ x. p x && not (key_eq x.key key)) (b ∷ batches) ≡ without_key key (keys_where p (b ∷ batches))
    by true true e f rest = rw (e, f) (none-without key p batches (subst (λ (k : BatchKey). ComeAfter k batches) (same-keys b.key key f) rise.0))
    by true false e f rest = rw (e, f) (ap (λ l. b.key ∷ l) rest)
    by false true e f rest = rw e rest
    by false false e f rest = rw e rest

-- a test of some batch, with one batch more
pub any-arrived : (g : Batch → Bool) (new : Batch) (batches : List Batch) → batch_at new.key batches ≡ None → list_any g (arrived new batches) ≡ (list_any g batches || g new)
any-arrived g new [] none = by (g new) refl
  where
    by : (t : Bool) → g new ≡ t → list_any g (new ∷ []) ≡ (list_any g [] || g new)
    by true e = rw e refl
    by false e = rw e refl
any-arrived g new (b ∷ batches) none =
    by (key_lt new.key b.key) (key_eq new.key b.key) (key_eq b.key new.key) (g b) (g new) (list_any g batches) refl refl refl refl refl refl none (λ n. any-arrived g new batches n)
  where
    apart : new.key ≡ b.key → key_eq b.key new.key ≡ true
    apart same = subst (λ (k : BatchKey). key_eq k new.key ≡ true) same (key_eq-self new.key)

    by : (l e r q n a : Bool) → key_lt new.key b.key ≡ l → key_eq new.key b.key ≡ e → key_eq b.key new.key ≡ r → g b ≡ q → g new ≡ n → list_any g batches ≡ a
        → cond r (Some b) (batch_at new.key batches) ≡ None
        → (batch_at new.key batches ≡ None → list_any g (arrived new batches) ≡ (list_any g batches || g new))
        → list_any g (arrived new (b ∷ batches)) ≡ (list_any g (b ∷ batches) || g new)
    by l e true q n a h1 h2 h3 h4 h5 h6 none rest = absurd (cc)
    by true e false true true a h1 h2 h3 h4 h5 h6 none rest = rw (h1, h5, h4) refl
    by true e false true false a h1 h2 h3 h4 h5 h6 none rest = rw (h1, h5, h4) refl
    by true e false false true true h1 h2 h3 h4 h5 h6 none rest = rw (h1, h5, h4, h6) refl
    by true e false false true false h1 h2 h3 h4 h5 h6 none rest = rw (h1, h5, h4, h6) refl
    by true e false false false true h1 h2 h3 h4 h5 h6 none rest = rw (h1, h5, h4, h6) refl
    by true e false false false false h1 h2 h3 h4 h5 h6 none rest = rw (h1, h5, h4, h6) refl
    by false true false q n a h1 h2 h3 h4 h5 h6 none rest = let k : key_eq b.key new.key ≡ true = apart (same-keys new.key b.key h2) in absurd (cc)
    by false false false true n a h1 h2 h3 h4 h5 h6 none rest = rw (h1, h2, h4) refl
    by false false false false n a h1 h2 h3 h4 h5 h6 none rest = rw (h1, h2, h4) (rest none)

bool-parts : (r a w : Bool) → (r && not (a || w)) ≡ ((r && not a) && not w)
bool-parts true true true = refl
bool-parts true true false = refl
bool-parts true false true = refl
bool-parts true false false = refl
bool-parts false a w = refl

module _ (run : RunId) (batches : List Batch) (new : Batch) (tree : IsTree run batches) (joins : Joins run batches new) where
  -- whether a batch was a tip
  is_tip : Batch → Bool
  is_tip b = same_run b.run run && not (has_child b batches)

  rise-new : Rise (arrived new batches)
  rise-new = (arrival_keeps_sets new batches tree.set (faultless-back new joins.faultless)).ordered

  no-child : has_child new batches ≡ false
  no-child = list_any-none (λ child. is_wanted child.parent new) batches (λ x among. by x (among-has batches x tree.set.ordered among) (is_wanted x.parent new) refl)
    where
      by : (x : Batch) → Has batches x → (t : Bool) → is_wanted x.parent new ≡ t → t ≡ false
      by x has true e =
          let p : x.parent ≡ Some new.key = key-wanted x.parent new e in
          let r : has_key (Some new.key) batches ≡ true = sym (ap (λ (o : Option BatchKey). has_key o batches) p) ∙ tree.closed x has in
          let n : is_some (batch_at new.key batches) ≡ false = ap is_some joins.fresh in absurd (cc)
      by x has false e = refl

  is-new-tip : (same_run new.run run && not (has_child new batches)) ≡ true
  is-new-tip = rw (same-run new.run run joins.run_is, no-child) refl

  tip-now : (b : Batch) → (same_run b.run run && not (has_child b (arrived new batches))) ≡ ((same_run b.run run && not (has_child b batches)) && not (is_wanted new.parent b))
  tip-now b =
      ap (λ t. same_run b.run run && not t) (any-arrived (λ child. is_wanted child.parent b) new batches joins.fresh)
      ∙ bool-parts (same_run b.run run) (has_child b batches) (is_wanted new.parent b)

  before-parent : (o : Option BatchKey) → keys_where (λ b. (same_run b.run run && not (has_child b batches)) && not (is_wanted o b)) (arrived new batches)
      ≡ without_parent o (keys_where (λ b. same_run b.run run && not (has_child b batches)) (arrived new batches))
  before-parent None = ap (λ p. keys_where p (arrived new batches)) (λ i b. all (same_run b.run run && not (has_child b batches)) i)
    where
      all : (t : Bool) → (t && true) ≡ t
      all true = refl
      all false = refl
  before-parent (Some key) = keys-without key (λ b. same_run b.run run && not (has_child b batches)) (arrived new batches) rise-new

  -- the new batch is a tip, and its parent is none
  pub tips-grown : tip_keys run (arrived new batches) ≡ without_parent new.parent (with_key new.key (tip_keys run batches))
  tips-grown =
      ap (λ p. keys_where p (arrived new batches)) (λ i b. tip-now b i)
      ∙ before-parent new.parent
      ∙ ap (without_parent new.parent) (keys-arrived (λ b. same_run b.run run && not (has_child b batches)) new batches tree.set.ordered joins.fresh is-new-tip)

-- a key that was put where it was not, and taken again
pub with-without : (key : BatchKey) (keys : List BatchKey) → is_key_among key keys ≡ false → without_key key (with_key key keys) ≡ keys
with-without key [] none = rw (key_eq-self key) refl
with-without key (k ∷ keys) none = by (key_lt key k) (key_eq key k) (key_eq k key) refl refl refl none (with-without key keys)
  where
    by : (l e r : Bool) → key_lt key k ≡ l → key_eq key k ≡ e → key_eq k key ≡ r → (r || is_key_among key keys) ≡ false
        → (is_key_among key keys ≡ false → without_key key (with_key key keys) ≡ keys) → without_key key (with_key key (k ∷ keys)) ≡ k ∷ keys
    by l e true f g h n rest = absurd (cc)
    by true e false f g h n rest = rw (f, key_eq-self key) refl
    by false true false f g h n rest = let t : key_eq k key ≡ true = subst (λ (x : BatchKey). key_eq x key ≡ true) (same-keys key k g) (key_eq-self key) in absurd (cc)
    by false false false f g h n rest = rw (f, g, h) (ap (λ l. k ∷ l) (rest n))

-- a key that is not there is that of no tip
pub fresh-no-tip : (run : RunId) (batches : List Batch) (key : BatchKey) → Rise batches → batch_at key batches ≡ None → is_key_among key (tip_keys run batches) ≡ false
fresh-no-tip run batches key rise none = list_any-none (λ other. key_eq other key) (tip_keys run batches) (λ other among. by other among (key_eq other key) refl)
  where
    there : (other : BatchKey) → Among other (tip_keys run batches) → other ≡ key → ⊥
    there other among same =
        let b = map-among (λ (x : Batch). x.key) (tips run batches) other among in
        let in_batches = (filter-among (λ (x : Batch). same_run x.run run && not (has_child x batches)) batches b.0 b.1).1 in
        let has : Has batches b.0 = among-has batches b.0 rise in_batches in
        let found : batch_at key batches ≡ Some b.0 = has-found batches key b.0 (sym b.2 ∙ same) has in absurd (cc)

    by : (other : BatchKey) → Among other (tip_keys run batches) → (t : Bool) → key_eq other key ≡ t → t ≡ false
    by other among true e = absurd (there other among (same-keys other key e))
    by other among false e = refl
