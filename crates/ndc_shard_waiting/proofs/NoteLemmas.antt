-- What each batch misses, noted in key order.
use Rattle.std.proofs.Common.{◌≡◌, ℕ, ◌+◌, ◌<◌, length, take, drop, get_or, Bor, Bool, true, false, ◌||◌, List, [], ◌∷◌, ◌++◌, Option, Some, None, cond, map, refl, sym, ◌∙◌, subst, ap, true≢false}
use Rattle.std.specs.Prelude.{is_some, unwrap_or, if◌then◌else◌}
use Rattle.std.specs.List.{AllByRecursion}
use Rattle.std.proofs.lemmas.List.{map-append, take_more, drop_more, take-append-drop, get_or-map, length-map}
use Rattle.ndc_model_cells.specs.declared.message.Message.{Message}
use Rattle.ndc_event.specs.Key.{key_eq}
use Rattle.ndc_event.specs.declared.batch.Batch.{Batch}
use Rattle.ndc_event.specs.declared.key.BatchKey.{BatchKey}
use Rattle.ndc_model_sets.specs.Learned.{has_key}
use Rattle.ndc_model_sets.specs.Paths.{is_wanted}
use Rattle.ndc_model_sets.specs.Sets.{Rise, Has, earlier, batch_at, PointsBack}
use Rattle.ndc_model_sets.proofs.KeyLemmas.{same-keys}
use Rattle.ndc_model_sets.proofs.SetLemmas.{none-there, after-trans}
use Rattle.ndc_shard_waiting.specs.declared.waiting.PutOff.{PutOff}
use Rattle.ndc_shard_waiting.specs.Shortcuts.{shortcut_at, missed_from, missed_by}
use Rattle.ndc_model_cells.specs.Messages.{batches_of}
use Rattle.ndc_shard_waiting.specs.Waiting.{AreWaiting, missing_from}
use Rattle.ndc_shard_waiting.proofs.OrderLemmas.{all-back, rise-back, has-append}
use Rattle.ndc_shard_waiting.proofs.KeptLemmas.{at-neither}
use Rattle.ndc_shard_waiting.proofs.FreeLemmas.{all-there}
use Rattle.ndc_shard_waiting.proofs.MissingLemmas.{missing-step, missing-up, missing-absent}
use Rattle.ndc_shard_waiting.proofs.ShortcutLemmas.{batches-wait}

-- what is told of a batch, and what is to be told
abbrev pub told_of : PutOff → BatchKey × Option BatchKey
told_of one = (one.key, Some one.missing)

abbrev pub miss_of : List Batch → Batch → BatchKey × Option BatchKey
miss_of all b = (b.key, missing_from (Some b.key) all)

-- what is noted of the batches gone over: the end from each of their keys, and what each misses
pub record Noted (all : List Batch) (ends : List (BatchKey × BatchKey)) (found : List PutOff) (done : List Batch) : Type 0 where
  pub known : (one : BatchKey) → shortcut_at one ends ≡ (if has_key (Some one) done then missing_from (Some one) all else None)
  pub told : map told_of found ≡ map (miss_of all) done

-- from a key one comes to a key, where all batches have earlier ones
missing-some : (batches : List Batch) (key : BatchKey) → AllByRecursion (λ b. is_some (earlier b) ≡ true) batches → is_some (missing_from (Some key) batches) ≡ true
missing-some [] key all = refl
missing-some (b ∷ batches) key all =
    ap is_some (missing-step (Some key) b batches) ∙ by (is_wanted (missing_from (Some key) batches) b) (missing-some batches key all.1)
  where
    by : (t : Bool) → is_some (missing_from (Some key) batches) ≡ true → is_some (if t then earlier b else missing_from (Some key) batches) ≡ true
    by true h = all.0
    by false h = h

module _ (waiting : List Message) (are : AreWaiting waiting) (done : List Batch) (b : Batch) (rest : List Batch) (is : batches_of waiting ≡ done ++ b ∷ rest) where
  rise-here : Rise (b ∷ rest)
  rise-here = rise-back done (b ∷ rest) (subst Rise is are.set.ordered)

  back-here : PointsBack b
  back-here = (all-back PointsBack done (b ∷ rest) (subst (AllByRecursion PointsBack) is are.set.back)).0

  waits-here : is_some (earlier b) ≡ true
  waits-here = (all-back (λ x. is_some (earlier x) ≡ true) done (b ∷ rest) (subst (AllByRecursion (λ x. is_some (earlier x) ≡ true)) is (batches-wait waiting are.each))).0

  there-here : Has (batches_of waiting) b
  there-here =
      (all-back (λ (x : Batch). batch_at x.key (batches_of waiting) ≡ Some x) done (b ∷ rest)
      (subst (AllByRecursion (λ (x : Batch). batch_at x.key (batches_of waiting) ≡ Some x)) is (all-there (batches_of waiting) are.set.ordered))).0

  -- what the batch misses is as it is told
  missed-is : (ends : List (BatchKey × BatchKey)) → ((one : BatchKey) → shortcut_at one ends ≡ (if has_key (Some one) done then missing_from (Some one) (batches_of waiting) else None))
      → Some (missed_by ends b) ≡ missing_from (Some b.key) (batches_of waiting)
  missed-is ends known = by (earlier b) refl waits-here
    where
      done-before : (key : BatchKey) → earlier b ≡ Some key → (o : Option BatchKey) → missing_from (Some key) (batches_of waiting) ≡ o → is_some o ≡ true
          → shortcut_at key ends ≡ missing_from (Some key) (batches_of waiting) → Some (unwrap_or (shortcut_at key ends) key) ≡ missing_from (Some b.key) (batches_of waiting)
      done-before key e None f s g = absurd (true≢false (sym s))
      done-before key e (Some m) f s g =
          ap (λ o. Some (unwrap_or o key)) (g ∙ f) ∙ sym f ∙ sym (missing-up (batches_of waiting) b key are.set.ordered are.set.back there-here e)

      inner : (key : BatchKey) → earlier b ≡ Some key → (o : Option Batch) → batch_at key done ≡ o → Some (unwrap_or (shortcut_at key ends) key) ≡ missing_from (Some b.key) (batches_of waiting)
      inner key e (Some x) f =
          done-before key e (missing_from (Some key) (batches_of waiting)) refl (missing-some (batches_of waiting) key (batches-wait waiting are.each))
          (known key ∙ ap (λ o. if is_some o then missing_from (Some key) (batches_of waiting) else None) f)
      inner key e None f =
          let none : batch_at key (batches_of waiting) ≡ None =
          ap (batch_at key) is ∙ at-neither key done (b ∷ rest) f (none-there (b ∷ rest) key (back-here key e, after-trans key b.key rest (back-here key e) rise-here.0)) in
          ap (λ o. Some (unwrap_or o key)) (known key ∙ ap (λ o. if is_some o then missing_from (Some key) (batches_of waiting) else None) f)
          ∙ sym (missing-absent key (batches_of waiting) none) ∙ sym (missing-up (batches_of waiting) b key are.set.ordered are.set.back there-here e)

      by : (o : Option BatchKey) → earlier b ≡ o → is_some o ≡ true → Some (missed_from ends b.key o) ≡ missing_from (Some b.key) (batches_of waiting)
      by None e s = absurd (true≢false (sym s))
      by (Some key) e s = inner key e (batch_at key done) refl

  -- one batch more
  pub noted-more : (ends more : List (BatchKey × BatchKey)) (found now : List PutOff) → Noted (batches_of waiting) ends found done
      → ((one : BatchKey) → shortcut_at one more ≡ (if key_eq b.key one then Some (missed_by ends b) else shortcut_at one ends))
      → now ≡ found ++ record { key = b.key; missing = missed_by ends b } ∷ [] → Noted (batches_of waiting) more now (done ++ b ∷ [])
  noted-more ends more found now noted e f = record {
    known = λ one. e one ∙ by one (key_eq b.key one) refl;
    told = ap (map told_of) f ∙ map-append told_of found (record { key = b.key; missing = missed_by ends b } ∷ [])
        ∙ ap (λ l. l ++ (b.key, Some (missed_by ends b)) ∷ []) noted.told
        ∙ ap (λ (o : Option BatchKey). map (miss_of (batches_of waiting)) done ++ (b.key, o) ∷ []) (missed-is ends noted.known)
        ∙ sym (map-append (miss_of (batches_of waiting)) done (b ∷ []));
  }
    where
      or-true : (t : Bool) → (t || true) ≡ true
      or-true true = refl
      or-true false = refl

      or-false : (t : Bool) → (t || false) ≡ t
      or-false true = refl
      or-false false = refl

      by : (one : BatchKey) (t : Bool) → key_eq b.key one ≡ t
          → (if t then Some (missed_by ends b) else shortcut_at one ends) ≡ (if has_key (Some one) (done ++ b ∷ []) then missing_from (Some one) (batches_of waiting) else None)
      by one true g =
          missed-is ends noted.known ∙ ap (λ k. missing_from (Some k) (batches_of waiting)) (same-keys b.key one g)
          ∙ sym (ap (λ t. if t then missing_from (Some one) (batches_of waiting) else None)
          (has-append one done (b ∷ []) ∙ ap (λ t. has_key (Some one) done || is_some (cond t (Some b) None)) g ∙ or-true (has_key (Some one) done)))
      by one false g =
          noted.known one
          ∙ sym (ap (λ t. if t then missing_from (Some one) (batches_of waiting) else None)
          (has-append one done (b ∷ []) ∙ ap (λ t. has_key (Some one) done || is_some (cond t (Some b) None)) g ∙ or-false (has_key (Some one) done)))

-- the same by places
pub noted-next : (waiting : List Message) (items : List (Bor Batch)) (i : ℕ) (x : Bor Batch) (ends more : List (BatchKey × BatchKey)) (found now : List PutOff) → AreWaiting waiting
    → map (λ (b : Bor Batch). b.now) items ≡ batches_of waiting → i < length items → x ≡ get_or items i x
    → Noted (batches_of waiting) ends found (take i (map (λ (b : Bor Batch). b.now) items))
    → ((one : BatchKey) → shortcut_at one more ≡ (if key_eq x.now.key one then Some (missed_by ends x.now) else shortcut_at one ends))
    → now ≡ found ++ record { key = x.now.key; missing = missed_by ends x.now } ∷ []
    → Noted (batches_of waiting) more now (take (i + 1) (map (λ (b : Bor Batch). b.now) items))
noted-next waiting items i x ends more found now are all below item noted e f =
    subst (λ (l : List Batch). Noted (batches_of waiting) more now l) (sym (take_more (map (λ (b : Bor Batch). b.now) items) i x.now fits ∙ ap (λ b. take i (map (λ (b : Bor Batch). b.now) items) ++ b ∷ []) at))
    (noted-more waiting are (take i (map (λ (b : Bor Batch). b.now) items)) x.now (drop (i + 1) (map (λ (b : Bor Batch). b.now) items))
    (sym all ∙ sym (take-append-drop i (map (λ (b : Bor Batch). b.now) items)) ∙ ap (λ l. take i (map (λ (b : Bor Batch). b.now) items) ++ l) (drop_more (map (λ (b : Bor Batch). b.now) items) i x.now fits ∙ ap (λ b. b ∷ drop (i + 1) (map (λ (b : Bor Batch). b.now) items)) at))
    ends more found now noted e f)
  where
    fits : i < length (map (λ (b : Bor Batch). b.now) items)
    fits = rw (length-map items (λ (b : Bor Batch). b.now)) below

    at : get_or (map (λ (b : Bor Batch). b.now) items) i x.now ≡ x.now
    at = get_or-map (λ (b : Bor Batch). b.now) items i x x.now below ∙ ap (λ (b : Bor Batch). b.now) (sym item)
