-- Shortcuts in their map.
use Rattle.std.proofs.Common.{◌≡◌, ℕ, ◌<◌, length, arith, Bool, true, false, not, List, [], ◌∷◌, ◌⊎◌, inl, inr, Option, Some, None, Result, Ok, Err, cond, refl, sym, ◌∙◌, subst, ap, true≢false}
use Rattle.std.specs.Prelude.{is_some, if◌then◌else◌, OnOk, OnErr}
use Rattle.std.specs.Option.{option_or}
use Rattle.std.specs.List.{AllByRecursion, filter}
use Rattle.std.specs.BTreeMap.{is_at}
use Rattle.std.specs.Map.{lookup}
use Rattle.std.specs.Ordering.{is_eq}
use Rattle.std.specs.declared.alloc.AllocError.{AllocError}
use Rattle.std.specs.declared.cmp.Ordering.{Ordering}
use Rattle.ndc_model_cells.specs.declared.message.Message.{Message}
use Rattle.ndc_model_cells.specs.Cells.{both}
use Rattle.ndc_event.specs.Key.{key_lt, key_eq}
use Rattle.ndc_event.specs.declared.batch.Batch.{Batch}
use Rattle.ndc_event.specs.declared.key.BatchKey.{BatchKey}
use Rattle.ndc_model_sets.specs.Sets.{earlier, batch_at, PointsBack}
use Rattle.ndc_model_sets.proofs.KeyLemmas.{before-irrefl, before-trans, same-keys}
use Rattle.ndc_model_sets.proofs.SetLemmas.{found-key, found-has, found-all, at-append}
use Rattle.ndc_model_sets.proofs.BranchLemmas.{has-among}
use Rattle.ndc_model_sets.proofs.Lists.{Among, all-join}
use Rattle.ndc_model_sets.proofs.KeyOrder.{key_cmp, key_cmp-same}
use Rattle.ndc_model_cells.specs.Messages.{batches_of, IsNewTo}
use Rattle.ndc_shard_waiting.specs.Waiting.{put_off, CanWait, AreWaiting, missing_from}
use Rattle.ndc_shard_waiting.specs.Shortcuts.{shortcut_at, LeadsUp, GoesUp}
use Rattle.ndc_shard_waiting.proofs.KeptLemmas.{both-all, carried-earlier, all-each}
use Rattle.ndc_shard_waiting.proofs.LinkLemmas.{turn}
use Rattle.ndc_shard_waiting.proofs.PutLemmas.{put-waiting}
use Rattle.ndc_shard_waiting.proofs.MissingLemmas.{missing-up}
use Rattle.ndc_shard_waiting.proofs.UpLemmas.{put-leads, missing-low, missing-again}

module _ (cmp : BatchKey → BatchKey → Ordering) (law : (a b : BatchKey) → cmp a b ≡ key_cmp a b) where
  at-key : (key other : BatchKey) → is_at (cmp key) other ≡ key_eq other key
  at-key key other = ap is_eq (law key other) ∙ key_cmp-same key other

  pub shortcut-lookup : (key : BatchKey) (entries : List (BatchKey × BatchKey)) → lookup (is_at (cmp key)) entries ≡ shortcut_at key entries
  shortcut-lookup key entries = ap (λ t. lookup t entries) (λ i other. at-key key other i)

  -- what is found where the map changed at a key
  pub shortcut-changed : (key : BatchKey) (o : Option BatchKey) (before after : List (BatchKey × BatchKey))
      → ((q : BatchKey) → lookup (is_at (cmp q)) after ≡ cond (is_at (cmp key) q) o (lookup (is_at (cmp q)) before))
      → (one : BatchKey) → shortcut_at one after ≡ (if key_eq key one then o else shortcut_at one before)
  shortcut-changed key o before after e one =
      sym (shortcut-lookup one after) ∙ e one ∙ ap (λ t. cond t o (lookup (is_at (cmp one)) before)) (at-key key one ∙ turn one key)
      ∙ ap (λ x. cond (key_eq key one) o x) (shortcut-lookup one before)

-- each batch of messages that wait has an earlier key
pub batches-wait : (waiting : List Message) → AllByRecursion CanWait waiting → AllByRecursion (λ b. is_some (earlier b) ≡ true) (batches_of waiting)
batches-wait [] each = tt
batches-wait (sent ∷ waiting) each =
    all-join (λ b. is_some (earlier b) ≡ true) (both sent) (batches_of waiting)
    (both-all (λ b. is_some (earlier b) ≡ true) sent each.0.message each.0.waits (λ second by. ap is_some (carried-earlier sent.batch second by))) (batches-wait waiting each.1)

-- from a batch one goes to its earlier key
pub goes-earlier : (waiting : List Message) (key : BatchKey) (b : Batch) → AreWaiting waiting → batch_at key (batches_of waiting) ≡ Some b → GoesUp (batches_of waiting) key (earlier b)
goes-earlier waiting key b are h = by (earlier b) refl (found-all (λ x. is_some (earlier x) ≡ true) (batches_of waiting) key b (batches-wait waiting are.each) h)
  where
    same : b.key ≡ key
    same = found-key (batches_of waiting) key b h

    by : (o : Option BatchKey) → earlier b ≡ o → is_some o ≡ true → GoesUp (batches_of waiting) key o
    by None e s = absurd (true≢false (sym s))
    by (Some to) e s = record {
      there = ap is_some h;
      before = subst (λ (k : BatchKey). key_lt to k ≡ true) same (found-all PointsBack (batches_of waiting) key b are.set.back h to e);
      same = sym (subst (λ (k : BatchKey). missing_from (Some k) (batches_of waiting) ≡ missing_from (Some to) (batches_of waiting)) same
          (missing-up (batches_of waiting) b to are.set.ordered are.set.back (found-has (batches_of waiting) key b h) e));
    }

-- all shortcuts lead upwards
abbrev pub AllLead : List Message → List (BatchKey × BatchKey) → Type 0
AllLead waiting shortcuts = (key to : BatchKey) → shortcut_at key shortcuts ≡ Some to → LeadsUp (batches_of waiting) key to

pub put-all-lead : (r : Result (Unit {0}) AllocError) (before after : List Message) (shortcuts : List (BatchKey × BatchKey)) (new : Message) → AreWaiting before → CanWait new → IsNewTo (batches_of before) new
    → AllLead before shortcuts → OnOk r (after ≡ put_off new before) → OnErr r (after ≡ before) → AreWaiting after × AllLead after shortcuts
put-all-lead (Ok x) before after shortcuts new are can apart lead e _ = (
  subst AreWaiting (sym e) (put-waiting new before are can apart),
  λ key to h. subst (λ (l : List Message). LeadsUp (batches_of l) key to) (sym e) (put-leads before new key to are can apart (lead key to h)),
)
put-all-lead (Err x) before after shortcuts new are can apart lead _ e =
    (subst AreWaiting (sym e) are, λ key to h. subst (λ (l : List Message). LeadsUp (batches_of l) key to) (sym e) (lead key to h))

pub set-all-lead : (r : Result (Unit {0}) AllocError) (waiting : List Message) (before after : List (BatchKey × BatchKey)) (key to : BatchKey) → AllLead waiting before → LeadsUp (batches_of waiting) key to
    → OnOk r ((one : BatchKey) → shortcut_at one after ≡ (if key_eq key one then Some to else shortcut_at one before)) → OnErr r (after ≡ before) → AllLead waiting after
set-all-lead (Ok x) waiting before after key to lead new e _ one t h = by (key_eq key one) refl (sym (e one) ∙ h)
  where
    by : (b : Bool) → key_eq key one ≡ b → (if b then Some to else shortcut_at one before) ≡ Some t → LeadsUp (batches_of waiting) one t
    by true f g =
        let same : to ≡ t = cc in
        subst (λ (k : BatchKey). LeadsUp (batches_of waiting) k t) (same-keys key one f) (subst (λ (k : BatchKey). LeadsUp (batches_of waiting) key k) same new)
    by false f g = lead one t g
set-all-lead (Err x) waiting before after key to lead new _ e one t h = lead one t (ap (shortcut_at one) (sym e) ∙ h)

-- how many keys are not after a key: a measure of going upwards
abbrev pub up_to : List Batch → BatchKey → ℕ
up_to batches key = length (filter (λ b. not (key_lt key b.key)) batches)

fewer : (p q : Batch → Bool) (xs : List Batch) → AllByRecursion (λ x. p x ≡ true → q x ≡ true) xs → (length (filter p xs) < length (filter q xs)) ⊎ (length (filter p xs) ≡ length (filter q xs))
fewer p q [] all = inr refl
fewer p q (x ∷ xs) all = by (p x) refl (q x) refl (fewer p q xs all.1) all.0
  where
    by : (s : Bool) → p x ≡ s → (t : Bool) → q x ≡ t → (length (filter p xs) < length (filter q xs)) ⊎ (length (filter p xs) ≡ length (filter q xs)) → (p x ≡ true → q x ≡ true)
        → (length (cond s (x ∷ filter p xs) (filter p xs)) < length (cond t (x ∷ filter q xs) (filter q xs))) ⊎ (length (cond s (x ∷ filter p xs) (filter p xs)) ≡ length (cond t (x ∷ filter q xs) (filter q xs)))
    by true e true f (inl l) both = inl (omega arith)
    by true e true f (inr l) both = inr (omega arith)
    by true e false f r both = absurd (true≢false (sym (both e) ∙ f))
    by false e true f (inl l) both = inl (omega arith)
    by false e true f (inr l) both = inl (omega arith)
    by false e false f r both = r

fewer-one : (p q : Batch → Bool) (xs : List Batch) (m : Batch) → AllByRecursion (λ x. p x ≡ true → q x ≡ true) xs → Among m xs → p m ≡ false → q m ≡ true → length (filter p xs) < length (filter q xs)
fewer-one p q [] m all h no_p yes_q = absurd h
fewer-one p q (x ∷ xs) m all (inl same) no_p yes_q =
    first (fewer p q xs all.1) (subst (λ (y : Batch). p y ≡ false) same no_p) (subst (λ (y : Batch). q y ≡ true) same yes_q)
  where
    first : (length (filter p xs) < length (filter q xs)) ⊎ (length (filter p xs) ≡ length (filter q xs)) → p x ≡ false → q x ≡ true → length (filter p (x ∷ xs)) < length (filter q (x ∷ xs))
    first r e f = rw (e, f) (by r)
      where
        by : (length (filter p xs) < length (filter q xs)) ⊎ (length (filter p xs) ≡ length (filter q xs)) → length (filter p xs) < length (x ∷ filter q xs)
        by (inl l) = omega arith
        by (inr l) = omega arith
fewer-one p q (x ∷ xs) m all (inr h) no_p yes_q = by (p x) refl (q x) refl (fewer-one p q xs m all.1 h no_p yes_q) all.0
  where
    by : (s : Bool) → p x ≡ s → (t : Bool) → q x ≡ t → length (filter p xs) < length (filter q xs) → (p x ≡ true → q x ≡ true)
        → length (cond s (x ∷ filter p xs) (filter p xs)) < length (cond t (x ∷ filter q xs) (filter q xs))
    by true e true f l both = omega arith
    by true e false f l both = absurd (true≢false (sym (both e) ∙ f))
    by false e true f l both = omega arith
    by false e false f l both = l

-- a step upwards makes it smaller
pub up-smaller : (batches : List Batch) (key to : BatchKey) → LeadsUp batches key to → up_to batches to < up_to batches key
up-smaller batches key to leads = by (batch_at key batches) refl leads.there
  where
    lower : (b : Batch) → not (key_lt to b.key) ≡ true → (t : Bool) → key_lt key b.key ≡ t → not t ≡ true
    lower b h false e = refl
    lower b h true e = let l : key_lt to b.key ≡ true = before-trans to key b.key leads.before e in absurd (true≢false (sym h ∙ ap not l))

    self : (t : Bool) → key_lt key key ≡ t → not t ≡ true
    self true e = absurd (before-irrefl key e)
    self false e = refl

    by : (o : Option Batch) → batch_at key batches ≡ o → is_some o ≡ true → up_to batches to < up_to batches key
    by None e s = absurd (true≢false (sym s))
    by (Some b) e s =
        fewer-one (λ x. not (key_lt to x.key)) (λ x. not (key_lt key x.key)) batches b
        (all-each (λ (x : Batch). not (key_lt to x.key) ≡ true → not (key_lt key x.key) ≡ true) (λ x h. lower x h (key_lt key x.key) refl) batches)
        (has-among batches b (found-has batches key b e))
        (ap not (subst (λ (k : BatchKey). key_lt to k ≡ true) (sym (found-key batches key b e)) leads.before))
        (subst (λ (k : BatchKey). not (key_lt key k) ≡ true) (sym (found-key batches key b e)) (self (key_lt key key) refl))

-- the end may be a shortcut of each key on the way
pub leads-to-end : (waiting : List Message) (key up end : BatchKey) → AreWaiting waiting → LeadsUp (batches_of waiting) key up → missing_from (Some key) (batches_of waiting) ≡ Some end
    → LeadsUp (batches_of waiting) key end
leads-to-end waiting key up end are leads h = record {
  there = leads.there;
  before = by (missing-low (batches_of waiting) up end are.set.back (leads.same ∙ h));
  same = ap (λ o. missing_from o (batches_of waiting)) (sym h) ∙ missing-again (batches_of waiting) (Some key) are.set.ordered are.set.back;
}
  where
    by : (end ≡ up) ⊎ (key_lt end up ≡ true) → key_lt end key ≡ true
    by (inl e) = subst (λ (k : BatchKey). key_lt k key ≡ true) (sym e) leads.before
    by (inr l) = before-trans end up key l leads.before

-- shortcuts that are left are those that were, of other keys
abbrev pub IsLeft : List (BatchKey × BatchKey) → List (BatchKey × BatchKey) → List Batch → Type 0
IsLeft before after batches = (one to : BatchKey) → shortcut_at one after ≡ Some to → (shortcut_at one before ≡ Some to) × (batch_at one batches ≡ None)

-- while shortcuts of messages are taken out: with those of the messages to come, those of all are out
abbrev pub IsLeaving : List (BatchKey × BatchKey) → List (BatchKey × BatchKey) → List Message → List Message → Type 0
IsLeaving before now rest all =
    (one to : BatchKey) → shortcut_at one now ≡ Some to → (shortcut_at one before ≡ Some to) × (batch_at one (batches_of rest) ≡ None → batch_at one (batches_of all) ≡ None)

pub leaving-more : (before now after : List (BatchKey × BatchKey)) (sent : Message) (rest more all : List Message) → more ≡ sent ∷ rest → IsLeaving before now more all → IsLeft now after (both sent)
    → IsLeaving before after rest all
leaving-more before now after sent rest more all e leaving left one to h =
    let r = left one to h in
    let s = leaving one to r.0 in
    (s.0, λ n. s.1 (ap (λ l. batch_at one (batches_of l)) e ∙ at-append (both sent) (batches_of rest) one ∙ ap (λ o. option_or o (batch_at one (batches_of rest))) r.1 ∙ n))
