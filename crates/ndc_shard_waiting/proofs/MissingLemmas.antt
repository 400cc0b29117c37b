-- Following earlier keys upwards through what waits.
use Rattle.std.proofs.Common.{◌≡◌, Bool, true, false, not, List, [], ◌∷◌, ◌⊎◌, inl, inr, Option, Some, None, cond, refl, sym, ◌∙◌, subst, ap, true≢false}
use Rattle.std.specs.Prelude.{is_some, if◌then◌else◌}
use Rattle.std.specs.Option.{option_or}
use Rattle.std.specs.List.{AllByRecursion, filter}
use Rattle.ndc_model_cells.specs.declared.message.Message.{Message}
use Rattle.ndc_model_cells.specs.Cells.{ancestors_down, ancestors_over, missing_of}
use Rattle.ndc_event.specs.Key.{key_lt, key_eq}
use Rattle.ndc_event.specs.declared.batch.Batch.{Batch}
use Rattle.ndc_event.specs.declared.key.BatchKey.{BatchKey}
use Rattle.ndc_model_sets.specs.Learned.{has_key}
use Rattle.ndc_model_sets.specs.Paths.{Walk, is_wanted}
use Rattle.ndc_model_sets.specs.Sets.{ComeAfter, Rise, earlier, batch_at, Has, PointsBack}
use Rattle.ndc_model_sets.proofs.KeyLemmas.{before-irrefl, same-keys}
use Rattle.ndc_model_sets.proofs.SetLemmas.{at-cases, after-trans, found-key, found-all}
use Rattle.ndc_model_sets.proofs.CurrentLemmas.{key-wanted, wanted-key}
use Rattle.ndc_model_sets.proofs.BranchLemmas.{Rise-filter}
use Rattle.ndc_model_sets.proofs.Lists.{filter-cases}
use Rattle.ndc_model_cells.proofs.PlaceLemmas.{key-flip}
use Rattle.ndc_model_cells.specs.Messages.{batches_of}
use Rattle.ndc_shard_waiting.specs.Waiting.{missing_from}
use Rattle.ndc_shard_waiting.specs.Learning.{with_messages, ArePutOff}
use Rattle.ndc_shard_waiting.proofs.OrderLemmas.{all-more, same-found}
use Rattle.ndc_shard_waiting.proofs.KeptLemmas.{all-each}
use Rattle.ndc_shard_waiting.proofs.FreeLemmas.{filter-found, all-there}
use Rattle.ndc_shard_waiting.proofs.LearnLemmas.{known-or-waits, waits-off, set-all, found-all-of}

-- one step: where the batch is wanted, its earlier key is
abbrev pub over : Batch → Option BatchKey → Option BatchKey
over b wanted = if is_wanted wanted b then earlier b else wanted

pub missing-step : (wanted : Option BatchKey) (b : Batch) (batches : List Batch) → missing_from wanted (b ∷ batches) ≡ over b (missing_from wanted batches)
missing-step wanted b batches = by (ancestors_down batches (record { wanted = wanted; path = [] }))
  where
    test : (walk : Walk) (t : Bool) → (if t then record { wanted = earlier b; path = b ∷ walk.path } else walk).wanted ≡ (if t then earlier b else walk.wanted)
    test walk true = refl
    test walk false = refl

    by : (walk : Walk) → (ancestors_over b walk).wanted ≡ over b walk.wanted
    by walk = test walk (is_wanted walk.wanted b)

-- where the key is not that of the batch, the batch changes nothing
pub over-other : (b : Batch) (wanted : Option BatchKey) → is_wanted wanted b ≡ false → over b wanted ≡ wanted
over-other b wanted e = ap (λ t. if t then earlier b else wanted) e

-- a key that comes before all stays wanted
pub missing-before : (key : BatchKey) (batches : List Batch) → ComeAfter key batches → missing_from (Some key) batches ≡ Some key
missing-before key [] after = refl
missing-before key (b ∷ batches) after =
    missing-step (Some key) b batches ∙ ap (over b) (missing-before key batches after.1)
    ∙ over-other b (Some key) (key-flip key b.key (turned (key_eq key b.key) refl))
  where
    turned : (t : Bool) → key_eq key b.key ≡ t → t ≡ false
    turned true e = absurd (before-irrefl key (subst (λ (k : BatchKey). key_lt key k ≡ true) (sym (same-keys key b.key e)) after.0))
    turned false e = refl

-- from the key of a batch one comes to its earlier key
pub missing-up : (batches : List Batch) (b : Batch) (key : BatchKey) → Rise batches → AllByRecursion PointsBack batches → Has batches b → earlier b ≡ Some key
    → missing_from (Some b.key) batches ≡ missing_from (Some key) batches
missing-up [] b key rise back = λ h. absurd (cc)
missing-up (x ∷ xs) b key rise back =
    at-cases (λ o. o ≡ Some b → earlier b ≡ Some key → missing_from (Some b.key) (x ∷ xs) ≡ missing_from (Some key) (x ∷ xs)) x xs b.key
    (λ _ h e. let same : x ≡ b = cc in
    subst (λ (y : Batch). missing_from (Some y.key) (x ∷ xs) ≡ missing_from (Some key) (x ∷ xs)) same (first (subst (λ (y : Batch). earlier y ≡ Some key) (sym same) e)))
    (λ _ h e. missing-step (Some b.key) x xs ∙ ap (over x) (missing-up xs b key rise.1 back.1 h e) ∙ sym (missing-step (Some key) x xs))
  where
    first : earlier x ≡ Some key → missing_from (Some x.key) (x ∷ xs) ≡ missing_from (Some key) (x ∷ xs)
    first e =
        missing-step (Some x.key) x xs ∙ ap (over x) (missing-before x.key xs rise.0)
        ∙ ap (λ t. if t then earlier x else Some x.key) (wanted-key x.key x refl) ∙ e
        ∙ sym (missing-before key (x ∷ xs) (back.0 key e, after-trans key x.key xs (back.0 key e) rise.0))

-- a key that is not there stays wanted
pub missing-absent : (key : BatchKey) (batches : List Batch) → batch_at key batches ≡ None → missing_from (Some key) batches ≡ Some key
missing-absent key [] = λ _. refl
missing-absent key (b ∷ batches) = by (key_eq b.key key) refl (missing-absent key batches)
  where
    by : (t : Bool) → key_eq b.key key ≡ t → (batch_at key batches ≡ None → missing_from (Some key) batches ≡ Some key) → cond t (Some b) (batch_at key batches) ≡ None
        → missing_from (Some key) (b ∷ batches) ≡ Some key
    by true e absent h = absurd (cc)
    by false e absent h = missing-step (Some key) b batches ∙ ap (over b) (absent h) ∙ over-other b (Some key) e

-- batches that are never wanted may be left out
module _ (p : Batch → Bool) (known : List Batch) where
  pub filter-missing : (batches : List Batch) (wanted : Option BatchKey)
      → AllByRecursion (λ b. p b ≡ true → has_key (earlier b) known ≡ false) batches → AllByRecursion (λ b. p b ≡ false → has_key (Some b.key) known ≡ true) batches
      → has_key wanted known ≡ false → (missing_from wanted (filter p batches) ≡ missing_from wanted batches) × (has_key (missing_from wanted batches) known ≡ false)
  filter-missing [] wanted off known_if out = (refl, out)
  filter-missing (b ∷ batches) wanted off known_if out =
      filter-cases (λ l. (missing_from wanted l ≡ missing_from wanted (b ∷ batches)) × (has_key (missing_from wanted (b ∷ batches)) known ≡ false)) p b batches
      (λ e. let r = filter-missing batches wanted off.1 known_if.1 out in (
        missing-step wanted b (filter p batches) ∙ ap (over b) r.0 ∙ sym (missing-step wanted b batches),
        ap (λ o. has_key o known) (missing-step wanted b batches) ∙ stays (is_wanted (missing_from wanted batches) b) (off.0 e) r.1,
      ))
      (λ e. let r = filter-missing batches wanted off.1 known_if.1 out in
      let same : missing_from wanted (b ∷ batches) ≡ missing_from wanted batches =
      missing-step wanted b batches ∙ over-other b (missing_from wanted batches) (unwanted (is_wanted (missing_from wanted batches) b) refl (known_if.0 e) r.1) in
      (r.0 ∙ sym same, ap (λ o. has_key o known) same ∙ r.1))
    where
      stays : (t : Bool) → has_key (earlier b) known ≡ false → has_key (missing_from wanted batches) known ≡ false
          → has_key (if t then earlier b else missing_from wanted batches) known ≡ false
      stays true h g = h
      stays false h g = g

      unwanted : (t : Bool) → is_wanted (missing_from wanted batches) b ≡ t → has_key (Some b.key) known ≡ true → has_key (missing_from wanted batches) known ≡ false → t ≡ false
      unwanted false e h g = refl
      unwanted true e h g = absurd (true≢false (sym (ap (λ o. has_key o known) (key-wanted (missing_from wanted batches) b e) ∙ h) ∙ g))

module _ (known : List Batch) (waiting : List Message) (are : ArePutOff known waiting) where
  -- what waits is what has arrived and is not learned
  waiting-are : filter (λ b. not (has_key (Some b.key) known)) (with_messages waiting known) ≡ batches_of waiting
  waiting-are =
      same-found (filter (λ b. not (has_key (Some b.key) known)) (with_messages waiting known)) (batches_of waiting)
      (Rise-filter (λ b. not (has_key (Some b.key) known)) (with_messages waiting known) (set-all known waiting are).ordered) are.messages.set.ordered
      (λ key. filter-found (λ k. not (has_key (Some k) known)) (with_messages waiting known) key
      ∙ ap (λ o. cond (not (has_key (Some key) known)) o None) (found-all-of known waiting are key) ∙ by key (batch_at key known) refl)
    where
      none : (key : BatchKey) (x : Batch) → batch_at key known ≡ Some x → (o : Option Batch) → batch_at key (batches_of waiting) ≡ o → None ≡ batch_at key (batches_of waiting)
      none key x e None g = sym g
      none key x e (Some y) g =
          let out : batch_at y.key known ≡ None = found-all (λ b. batch_at b.key known ≡ None) (batches_of waiting) key y are.apart g in
          let here : batch_at key known ≡ None = subst (λ (k : BatchKey). batch_at k known ≡ None) (found-key (batches_of waiting) key y g) out in absurd (cc)

      by : (key : BatchKey) (o : Option Batch) → batch_at key known ≡ o
          → cond (not (is_some (batch_at key known))) (option_or (batch_at key known) (batch_at key (batches_of waiting))) None ≡ batch_at key (batches_of waiting)
      by key None e = ap (λ o. cond (not (is_some o)) (option_or o (batch_at key (batches_of waiting))) None) e
      by key (Some x) e = ap (λ o. cond (not (is_some o)) (option_or o (batch_at key (batches_of waiting))) None) e ∙ none key x e (batch_at key (batches_of waiting)) refl

  off-all : AllByRecursion (λ b. not (has_key (Some b.key) known) ≡ true → has_key (earlier b) known ≡ false) (with_messages waiting known)
  off-all =
      all-more (λ (b : Batch). batch_at b.key (with_messages waiting known) ≡ Some b) (λ b. not (has_key (Some b.key) known) ≡ true → has_key (earlier b) known ≡ false)
      (λ b has e. by b (known-or-waits known waiting are b has) e) (with_messages waiting known) (all-there (with_messages waiting known) (set-all known waiting are).ordered)
    where
      by : (b : Batch) → Has known b ⊎ Has (batches_of waiting) b → not (has_key (Some b.key) known) ≡ true → has_key (earlier b) known ≡ false
      by b (inl h) e = absurd (true≢false (sym e ∙ ap (λ o. not (is_some o)) h))
      by b (inr h) e = waits-off known waiting are b h

  -- what a batch that is put off misses, among all that has arrived, is found among what waits
  pub missing_is : (b : Batch) → Has (batches_of waiting) b → missing_of b (with_messages waiting known) ≡ missing_from (Some b.key) (batches_of waiting)
  missing_is b has =
      sym (filter-missing (λ x. not (has_key (Some x.key) known)) known (with_messages waiting known) (earlier b) off-all
      (all-each (λ x. not (has_key (Some x.key) known) ≡ false → has_key (Some x.key) known ≡ true) (λ x e. unnot (has_key (Some x.key) known) e) (with_messages waiting known))
      (waits-off known waiting are b has)).0
      ∙ ap (missing_from (earlier b)) waiting-are ∙ by (earlier b) refl (waits-off known waiting are b has)
    where
      unnot : (t : Bool) → not t ≡ false → t ≡ true
      unnot true e = refl
      unnot false e = absurd (true≢false e)

      by : (o : Option BatchKey) → earlier b ≡ o → has_key o known ≡ false → missing_from o (batches_of waiting) ≡ missing_from (Some b.key) (batches_of waiting)
      by None e h = absurd (true≢false h)
      by (Some key) e h = sym (missing-up (batches_of waiting) b key are.messages.set.ordered are.messages.set.back has e)
