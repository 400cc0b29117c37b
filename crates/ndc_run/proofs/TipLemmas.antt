-- The current branch of a tree that a batch joins.
use Rattle.std.proofs.Common.{◌≡◌, Bool, true, false, not, ◌&&◌, ◌||◌, List, [], ◌∷◌, ◌++◌, ◌⊎◌, ◌↔◌, inl, inr, Option, Some, None, if◌then◌else◌, refl, sym, ◌∙◌, subst, ap, true≢false}
use Rattle.std.specs.Option.{option_map}
use Rattle.std.proofs.lemmas.List.{append-nil}
use Rattle.ndc_event.specs.Key.{key_lt, key_eq}
use Rattle.ndc_event.specs.declared.batch.Batch.{Batch}
use Rattle.ndc_event.specs.declared.key.BatchKey.{BatchKey}
use Rattle.ndc_event.specs.declared.key.RunId.{RunId}
use Rattle.ndc_model_sets.specs.Branches.{has_child, current_tip, later}
use Rattle.ndc_model_sets.specs.Learned.{IsPart}
use Rattle.ndc_model_sets.specs.Paths.{is_wanted, path_to}
use Rattle.ndc_model_sets.specs.Sets.{batch_at, Has, arrived}
use Rattle.ndc_model_sets.proofs.ArrivalLemmas.{is_there, stays, was_or_new}
use Rattle.ndc_model_sets.proofs.BranchLemmas.{has-among, among-has, greatest-of}
use Rattle.ndc_model_sets.proofs.CurrentLemmas.{key-wanted, wanted-key, path-child}
use Rattle.ndc_model_sets.proofs.ForkLemmas.{among-left}
use Rattle.ndc_model_sets.proofs.KeyLemmas.{before-irrefl, before-total, before-trans, same-keys}
use Rattle.ndc_model_sets.proofs.PathLemmas.{path-below, parent-back}
use Rattle.ndc_model_sets.proofs.Lists.{Among}
use Rattle.ndc_model_sets.proofs.SetLemmas.{has-found}
use Rattle.ndc_model_sets.proofs.SoundLemmas.{faultless-back}
use Rattle.ndc_model_sets.specs.Last.{last_batch}
use Rattle.ndc_model_sets.specs.Reading.{path_of, current_key}
use Rattle.ndc_tree.specs.Tree.{IsTree, Joins}
use Rattle.ndc_tree.proofs.GrowLemmas.{grown_is_tree}
use Rattle.ndc_tree.proofs.LastLemmas.{none-last, last-has, up-to-last, last-childless, current_is_last, current_is_greatest}
use Rattle.ndc_tree.proofs.PathLemmas.{path_is, path-rise, on-own-path, paths_stay}
use Rattle.ndc_tree.proofs.TipLemmas.{any-arrived}
use Rattle.ndc_run.specs.Learning.{passes_by, current_path, BeginsWith}

module _ (run : RunId) (batches : List Batch) (new : Batch) (tree : IsTree run batches) (j : Joins run batches new) where
  grown : IsTree run (arrived new batches)
  grown = grown_is_tree run batches new tree j

  there : Has (arrived new batches) new
  there = is_there new batches tree.set.ordered j.fresh

  within : IsPart batches (arrived new batches)
  within = stays new batches tree.set.ordered

  greatest : (m : Batch) → Has (arrived new batches) m → ((b : Batch) → (b ≡ new) ⊎ Has batches b → (b ≡ m) ⊎ (key_lt b.key m.key ≡ true)) → current_tip run (arrived new batches) ≡ Some m
  greatest m has top =
      current_is_greatest run (arrived new batches) grown
      ∙ greatest-of (arrived new batches) m (has-among (arrived new batches) m has)
      (λ x among. top x (was_or_new new batches x tree.set.ordered (among-has (arrived new batches) x grown.set.ordered among)))

  last-is : (m : Batch) → current_tip run batches ≡ Some m → last_batch batches ≡ Some m
  last-is m e = sym (current_is_last run batches tree) ∙ e

  -- the tip is the batch or the old tip, whichever is greater
  pub tip-grown : current_tip run (arrived new batches) ≡ later new (current_tip run batches)
  tip-grown = by (current_tip run batches) refl
    where
      by : (o : Option Batch) → current_tip run batches ≡ o → current_tip run (arrived new batches) ≡ later new o
      by None e = greatest new there (λ b which. none b which)
        where
          none : (b : Batch) → (b ≡ new) ⊎ Has batches b → (b ≡ new) ⊎ (key_lt b.key new.key ≡ true)
          none b (inl same) = inl same
          none b (inr has) =
              let empty : batches ≡ [] = none-last batches (sym (current_is_last run batches tree) ∙ e) in
              let no : Has [] b = subst (λ (l : List Batch). Has l b) empty has in absurd (cc)
      by (Some m) e = order (key_lt new.key m.key) refl
        where
          last : last_batch batches ≡ Some m
          last = last-is m e

          mine : Has batches m
          mine = last-has run batches tree m last

          apart : new.key ≡ m.key → ⊥
          apart same = let found : batch_at new.key batches ≡ Some m = has-found batches new.key m (sym same) mine in let none : batch_at new.key batches ≡ None = j.fresh in absurd (cc)

          above : key_lt new.key m.key ≡ false → key_lt m.key new.key ≡ true
          above l = before-total new.key m.key l (differ (key_eq new.key m.key) refl)
            where
              differ : (t : Bool) → key_eq new.key m.key ≡ t → key_eq new.key m.key ≡ false
              differ true g = absurd (apart (same-keys new.key m.key g))
              differ false g = g

          up : key_lt new.key m.key ≡ true → (b : Batch) → (b ≡ new) ⊎ Has batches b → (b ≡ m) ⊎ (key_lt b.key m.key ≡ true)
          up l b (inl same) = inr (subst (λ (x : Batch). key_lt x.key m.key ≡ true) (sym same) l)
          up l b (inr has) = up-to-last run batches tree m last b has

          over : key_lt m.key new.key ≡ true → (b : Batch) → (b ≡ new) ⊎ Has batches b → (b ≡ new) ⊎ (key_lt b.key new.key ≡ true)
          over l b (inl same) = inl same
          over l b (inr has) = cases (up-to-last run batches tree m last b has)
            where
              cases : (b ≡ m) ⊎ (key_lt b.key m.key ≡ true) → (b ≡ new) ⊎ (key_lt b.key new.key ≡ true)
              cases (inl same) = inr (subst (λ (x : Batch). key_lt x.key new.key ≡ true) (sym same) l)
              cases (inr g) = inr (before-trans b.key m.key new.key g l)

          order : (t : Bool) → key_lt new.key m.key ≡ t → current_tip run (arrived new batches) ≡ (if t then Some m else Some new)
          order true l = greatest m (within m mine) (up l)
          order false l = greatest new there (over (above l))

  old-path : (b : Batch) → Has batches b → path_to b.key (arrived new batches) ≡ path_to b.key batches
  old-path b has = paths_stay run batches (arrived new batches) b tree grown within has

  asym : (m : Batch) → key_lt m.key new.key ≡ true → key_lt new.key m.key ≡ false
  asym m l = by (key_lt new.key m.key) refl
    where
      by : (t : Bool) → key_lt new.key m.key ≡ t → key_lt new.key m.key ≡ false
      by true g = absurd (before-irrefl m.key (before-trans m.key new.key m.key l g))
      by false g = g

  later-new : (m : Batch) → key_lt m.key new.key ≡ true → later new (Some m) ≡ Some new
  later-new m l = ap (λ t. if t then Some m else Some new) (asym m l)

  parent-before : (key : BatchKey) → new.parent ≡ Some key → key_lt key new.key ≡ true
  parent-before key e = parent-back new (faultless-back new j.faultless) key e

  -- where the batch goes on from the tip, it is the next one
  pub tip-extended : new.parent ≡ current_key run batches → current_tip run (arrived new batches) ≡ Some new
  tip-extended e = tip-grown ∙ by (current_tip run batches) e
    where
      by : (o : Option Batch) → new.parent ≡ option_map (λ tip. tip.key) o → later new o ≡ Some new
      by None f = refl
      by (Some m) f = later-new m (parent-before m.key f)

  pub passes-extended : new.parent ≡ current_key run batches → passes_by new (current_tip run batches) ≡ false
  passes-extended e = by (current_tip run batches) e
    where
      never : (t : Bool) → (t && false) ≡ false
      never true = refl
      never false = refl

      by : (o : Option Batch) → new.parent ≡ option_map (λ tip. tip.key) o → passes_by new o ≡ false
      by None f = refl
      by (Some m) f = ap (λ w. key_lt m.key new.key && not w) (ap (λ o. is_wanted o m) f ∙ wanted-key m.key m refl) ∙ never (key_lt m.key new.key)

  module _ (m : Batch) (e : current_tip run batches ≡ Some m) where
    mine : Has batches m
    mine = last-has run batches tree m (last-is m e)

    apart : m ≡ new → ⊥
    apart same =
        let found : batch_at new.key batches ≡ Some m = has-found batches new.key m (ap (λ (b : Batch). b.key) same) mine in
        let none : batch_at new.key batches ≡ None = j.fresh in absurd (cc)

    -- a batch that does not name the tip as its parent does not have it on its path
    off-path : is_wanted new.parent m ≡ false → Among m (path_to new.key (arrived new batches)) → ⊥
    off-path w among =
        by (path-child (arrived new batches) new m (path_to new.key (arrived new batches)) (path_is run (arrived new batches) grown new there)
        (among-has (path_to new.key (arrived new batches)) m (path-rise run (arrived new batches) grown new there) among))
      where
        childless : has_child m (arrived new batches) ≡ false
        childless =
            any-arrived (λ child. is_wanted child.parent m) new batches j.fresh
            ∙ ap (λ t. t || is_wanted new.parent m) (last-childless run batches tree m (last-is m e)) ∙ w

        by : (m ≡ new) ⊎ (has_child m (arrived new batches) ≡ true) → ⊥
        by (inl same) = apart same
        by (inr child) = absurd (true≢false (sym child ∙ childless))

    extended-path : is_wanted new.parent m ≡ true → path_to new.key (arrived new batches) ≡ path_to m.key batches ++ new ∷ []
    extended-path w =
        path-below (arrived new batches) new m.key grown.set there (key-wanted new.parent m w)
        ∙ ap (λ (l : List Batch). l ++ new ∷ []) (old-path m mine)

    not-above : key_lt m.key new.key ≡ false → key_lt new.key m.key ≡ true
    not-above l = before-total m.key new.key l (differ (key_eq m.key new.key) refl)
      where
        differ : (t : Bool) → key_eq m.key new.key ≡ t → key_eq m.key new.key ≡ false
        differ true g =
            let found : batch_at new.key batches ≡ Some m = has-found batches new.key m (same-keys m.key new.key g) mine in
            let none : batch_at new.key batches ≡ None = j.fresh in absurd (cc)
        differ false g = g

    pub tip-leads : key_lt m.key new.key ≡ true → current_tip run (arrived new batches) ≡ Some new
    tip-leads l = tip-grown ∙ ap (later new) e ∙ later-new m l

    pub tip-stays : key_lt m.key new.key ≡ false → current_tip run (arrived new batches) ≡ Some m
    tip-stays l = tip-grown ∙ ap (later new) e ∙ ap (λ t. if t then Some m else Some new) (not-above l)

    switched-from : (passes_by new (Some m) ≡ false) ↔ BeginsWith (path_of (later new (Some m)) (arrived new batches)) (path_to m.key batches)
    switched-from = by (key_lt m.key new.key) refl (is_wanted new.parent m) refl
      where
        by : (t : Bool) → key_lt m.key new.key ≡ t → (w : Bool) → is_wanted new.parent m ≡ w
            → ((t && not w) ≡ false) ↔ BeginsWith (path_of (later new (Some m)) (arrived new batches)) (path_to m.key batches)
        by true l true w = (λ _. (new ∷ [], ap (λ o. path_of o (arrived new batches)) (later-new m l) ∙ extended-path w), λ _. refl)
        by true l false w = (
          λ h. absurd (true≢false h),
          λ b. absurd (off-path w (subst (Among m) (sym b.1 ∙ ap (λ o. path_of o (arrived new batches)) (later-new m l)) (among-left m (path_to m.key batches) b.0 (on-own-path run batches tree m mine)))),
        )
        by false l w f = (
          λ _. ([], ap (λ t. path_of (if t then Some m else Some new) (arrived new batches)) (not-above l) ∙ old-path m mine ∙ sym (append-nil (path_to m.key batches))),
          λ _. refl,
        )

  -- another branch is gone on with exactly where the old current path is not a prefix of the new one
  pub switched-exactly : (passes_by new (current_tip run batches) ≡ false) ↔ BeginsWith (current_path run (arrived new batches)) (current_path run batches)
  switched-exactly = subst (λ (o : Option Batch). (passes_by new (current_tip run batches) ≡ false) ↔ BeginsWith (path_of o (arrived new batches)) (current_path run batches)) (sym tip-grown)
      (by (current_tip run batches) refl)
    where
      by : (o : Option Batch) → current_tip run batches ≡ o → (passes_by new o ≡ false) ↔ BeginsWith (path_of (later new o) (arrived new batches)) (path_of o batches)
      by None e = (λ _. (path_of (later new None) (arrived new batches), refl), λ _. refl)
      by (Some m) e = switched-from m e
