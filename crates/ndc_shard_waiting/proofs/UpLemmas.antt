-- Upwards through what waits, where more waits and where less does.
use Rattle.std.proofs.Common.{◌≡◌, Bool, true, false, not, List, [], ◌∷◌, ◌++◌, ◌⊎◌, inl, inr, Option, Some, None, cond, refl, sym, ◌∙◌, subst, ap, true≢false}
use Rattle.std.specs.Prelude.{is_some, if◌then◌else◌}
use Rattle.std.specs.Option.{option_or}
use Rattle.std.specs.List.{AllByRecursion, filter}
use Rattle.ndc_model_cells.specs.declared.message.Message.{Message}
use Rattle.ndc_model_cells.specs.Cells.{both}
use Rattle.ndc_event.specs.Key.{key_lt, key_eq}
use Rattle.ndc_event.specs.declared.batch.Batch.{Batch}
use Rattle.ndc_event.specs.declared.key.BatchKey.{BatchKey}
use Rattle.ndc_model_sets.specs.Learned.{has_key}
use Rattle.ndc_model_sets.specs.Paths.{is_wanted}
use Rattle.ndc_model_sets.specs.Sets.{ComeAfter, Rise, earlier, batch_at, PointsBack}
use Rattle.ndc_model_sets.proofs.KeyLemmas.{before-trans, same-keys}
use Rattle.ndc_model_sets.proofs.SetLemmas.{after-trans, found-key, found-all}
use Rattle.ndc_model_sets.proofs.CurrentLemmas.{key-wanted, wanted-key}
use Rattle.ndc_model_sets.proofs.BranchLemmas.{Rise-filter}
use Rattle.ndc_model_sets.proofs.Lists.{filter-cases}
use Rattle.ndc_model_cells.specs.Messages.{batches_of, IsNewTo}
use Rattle.ndc_shard_waiting.specs.Waiting.{put_off, CanWait, AreWaiting, missing_from}
use Rattle.ndc_shard_waiting.specs.Shortcuts.{LeadsUp}
use Rattle.ndc_shard_waiting.proofs.OrderLemmas.{same-found}
use Rattle.ndc_shard_waiting.proofs.PutLemmas.{put-found, put-waiting}
use Rattle.ndc_shard_waiting.proofs.FreeLemmas.{filter-found}
use Rattle.ndc_shard_waiting.proofs.MissingLemmas.{over, missing-step, over-other, missing-before}

-- where nothing is wanted, nothing is
pub missing-none : (batches : List Batch) → missing_from None batches ≡ None
missing-none [] = refl
missing-none (b ∷ batches) = missing-step None b batches ∙ ap (over b) (missing-none batches)

-- from an earlier key one meets none of the batches after it
missing-early : (b : Batch) (batches : List Batch) → PointsBack b → ComeAfter b.key batches → missing_from (earlier b) (b ∷ batches) ≡ earlier b
missing-early b batches back after = by (earlier b) refl
  where
    by : (o : Option BatchKey) → earlier b ≡ o → missing_from o (b ∷ batches) ≡ o
    by None e = missing-none (b ∷ batches)
    by (Some key) e = missing-before key (b ∷ batches) (back key e, after-trans key b.key batches (back key e) after)

-- going up through some of the batches, and then through all, is going up through all
pub grow : (p : Batch → Bool) (batches : List Batch) (wanted : Option BatchKey) → Rise batches → AllByRecursion PointsBack batches
    → missing_from (missing_from wanted (filter p batches)) batches ≡ missing_from wanted batches
grow p [] wanted rise back = refl
grow p (x ∷ xs) wanted rise back =
    filter-cases (λ l. missing_from (missing_from wanted l) (x ∷ xs) ≡ missing_from wanted (x ∷ xs)) p x xs
    (λ _. ap (λ o. missing_from o (x ∷ xs)) (missing-step wanted x (filter p xs)) ∙ by (is_wanted (missing_from wanted (filter p xs)) x) refl (grow p xs wanted rise.1 back.1))
    (λ _. missing-step (missing_from wanted (filter p xs)) x xs ∙ ap (over x) (grow p xs wanted rise.1 back.1) ∙ sym (missing-step wanted x xs))
  where
    by : (t : Bool) → is_wanted (missing_from wanted (filter p xs)) x ≡ t → missing_from (missing_from wanted (filter p xs)) xs ≡ missing_from wanted xs
        → missing_from (over x (missing_from wanted (filter p xs))) (x ∷ xs) ≡ missing_from wanted (x ∷ xs)
    by false e same =
        ap (λ o. missing_from o (x ∷ xs)) (over-other x (missing_from wanted (filter p xs)) e)
        ∙ missing-step (missing_from wanted (filter p xs)) x xs ∙ ap (over x) same ∙ sym (missing-step wanted x xs)
    by true e same =
        ap (λ t. missing_from (if t then earlier x else missing_from wanted (filter p xs)) (x ∷ xs)) e
        ∙ missing-early x xs back.0 rise.0
        ∙ sym (ap (λ t. if t then earlier x else Some x.key) (wanted-key x.key x refl))
        ∙ ap (over x) (sym (missing-before x.key xs rise.0) ∙ ap (λ o. missing_from o xs) (sym (key-wanted (missing_from wanted (filter p xs)) x e)) ∙ same)
        ∙ sym (missing-step wanted x xs)

filter-id : (batches : List Batch) → filter (λ b. true) batches ≡ batches
filter-id [] = refl
filter-id (b ∷ batches) = ap (λ l. b ∷ l) (filter-id batches)

-- what one comes to is none of the batches' keys
pub missing-again : (batches : List Batch) (wanted : Option BatchKey) → Rise batches → AllByRecursion PointsBack batches → missing_from (missing_from wanted batches) batches ≡ missing_from wanted batches
missing-again batches wanted rise back =
    ap (λ l. missing_from (missing_from wanted l) batches) (sym (filter-id batches)) ∙ grow (λ b. true) batches wanted rise back

-- one comes to the key itself, or to one before it
pub missing-low : (batches : List Batch) (key end : BatchKey) → AllByRecursion PointsBack batches → missing_from (Some key) batches ≡ Some end → (end ≡ key) ⊎ (key_lt end key ≡ true)
missing-low [] key end back = λ h. inl (cc)
missing-low (b ∷ batches) key end back =
    λ h. by (missing_from (Some key) batches) refl (λ e g. missing-low batches key e back.1 g) (sym (missing-step (Some key) b batches) ∙ h)
  where
    up : (m : BatchKey) → (m ≡ key) ⊎ (key_lt m key ≡ true) → key_lt end m ≡ true → key_lt end key ≡ true
    up m (inl e) l = subst (λ (k : BatchKey). key_lt end k ≡ true) e l
    up m (inr k) l = before-trans end m key l k

    by : (o : Option BatchKey) → missing_from (Some key) batches ≡ o → ((e : BatchKey) → missing_from (Some key) batches ≡ Some e → (e ≡ key) ⊎ (key_lt e key ≡ true))
        → over b o ≡ Some end → (end ≡ key) ⊎ (key_lt end key ≡ true)
    by None f rest h = absurd (cc)
    by (Some m) f rest h = here (key_eq b.key m) refl h
      where
        here : (t : Bool) → key_eq b.key m ≡ t → (if t then earlier b else Some m) ≡ Some end → (end ≡ key) ⊎ (key_lt end key ≡ true)
        here false e g = let same : m ≡ end = cc in subst (λ (k : BatchKey). (k ≡ key) ⊎ (key_lt k key ≡ true)) same (rest m f)
        here true e g = inr (up m (rest m f) (subst (λ (k : BatchKey). key_lt end k ≡ true) (same-keys b.key m e) (back.0 end g)))

pub missing-append : (wanted : Option BatchKey) (front rest : List Batch) → missing_from wanted (front ++ rest) ≡ missing_from (missing_from wanted rest) front
missing-append wanted [] rest = refl
missing-append wanted (b ∷ front) rest = missing-step wanted b (front ++ rest) ∙ ap (over b) (missing-append wanted front rest) ∙ sym (missing-step (missing_from wanted rest) b front)

-- a shortcut stays one where more waits
pub put-leads : (waiting : List Message) (new : Message) (key to : BatchKey) → AreWaiting waiting → CanWait new → IsNewTo (batches_of waiting) new → LeadsUp (batches_of waiting) key to
    → LeadsUp (batches_of (put_off new waiting)) key to
put-leads waiting new key to are can apart leads = record {
  there = ap is_some (put-found new waiting key apart) ∙ some (batch_at key (batches_of waiting)) leads.there;
  before = leads.before;
  same = sym (through (Some to)) ∙ ap (λ o. missing_from o (batches_of (put_off new waiting))) leads.same ∙ through (Some key);
}
  where
    some : (o : Option Batch) → is_some o ≡ true → is_some (option_or o (batch_at key (both new))) ≡ true
    some None h = absurd (true≢false (sym h))
    some (Some x) h = refl

    now : AreWaiting (put_off new waiting)
    now = put-waiting new waiting are can apart

    parts : filter (λ b. not (has_key (Some b.key) (both new))) (batches_of (put_off new waiting)) ≡ batches_of waiting
    parts =
        same-found (filter (λ b. not (has_key (Some b.key) (both new))) (batches_of (put_off new waiting))) (batches_of waiting)
        (Rise-filter (λ b. not (has_key (Some b.key) (both new))) (batches_of (put_off new waiting)) now.set.ordered) are.set.ordered
        (λ q. filter-found (λ k. not (has_key (Some k) (both new))) (batches_of (put_off new waiting)) q
        ∙ ap (λ o. cond (not (has_key (Some q) (both new))) o None) (put-found new waiting q apart) ∙ by q (batch_at q (both new)) refl)
      where
        or-none : (o : Option Batch) → option_or o None ≡ o
        or-none None = refl
        or-none (Some x) = refl

        none : (q : BatchKey) (x : Batch) → batch_at q (both new) ≡ Some x → None ≡ batch_at q (batches_of waiting)
        none q x e =
            sym (subst (λ (k : BatchKey). batch_at k (batches_of waiting) ≡ None) (found-key (both new) q x e) (found-all (λ b. batch_at b.key (batches_of waiting) ≡ None) (both new) q x apart e))

        by : (q : BatchKey) (o : Option Batch) → batch_at q (both new) ≡ o
            → cond (not (is_some (batch_at q (both new)))) (option_or (batch_at q (batches_of waiting)) (batch_at q (both new))) None ≡ batch_at q (batches_of waiting)
        by q None e = ap (λ o. cond (not (is_some o)) (option_or (batch_at q (batches_of waiting)) o) None) e ∙ or-none (batch_at q (batches_of waiting))
        by q (Some x) e = ap (λ o. cond (not (is_some o)) (option_or (batch_at q (batches_of waiting)) o) None) e ∙ none q x e

    through : (o : Option BatchKey) → missing_from (missing_from o (batches_of waiting)) (batches_of (put_off new waiting)) ≡ missing_from o (batches_of (put_off new waiting))
    through o =
        ap (λ l. missing_from (missing_from o l) (batches_of (put_off new waiting))) (sym parts)
        ∙ grow (λ b. not (has_key (Some b.key) (both new))) (batches_of (put_off new waiting)) o now.set.ordered now.set.back
