-- What is kept waits for none of the first batches and the freed ones; and what is freed comes after what frees it.
use Rattle.std.proofs.Common.{◌≡◌, Bool, true, false, List, [], ◌∷◌, ◌++◌, Option, Some, None, IsSome, refl, sym, subst, ap, true≢false}
use Rattle.std.specs.Prelude.{is_some}
use Rattle.std.specs.List.{AllByRecursion}
use Rattle.std.proofs.lemmas.List.{append_assoc}
use Rattle.ndc_model_cells.specs.declared.message.Message.{Message}
use Rattle.ndc_model_cells.specs.Cells.{both}
use Rattle.ndc_model_cells.specs.Writing.{key_behind}
use Rattle.ndc_event.specs.Key.{key_lt, key_eq}
use Rattle.ndc_event.specs.declared.batch.Batch.{Batch}
use Rattle.ndc_event.specs.declared.key.BatchKey.{BatchKey}
use Rattle.ndc_model_sets.specs.Learned.{has_key}
use Rattle.ndc_model_sets.specs.Sets.{ComeAfter, Rise, earlier, batch_at, PointsBack}
use Rattle.ndc_model_sets.proofs.KeyLemmas.{before-irrefl, before-trans, before-total, same-keys}
use Rattle.ndc_model_sets.proofs.SetLemmas.{none-there, after-trans, found-all, found-key}
use Rattle.ndc_model_cells.specs.Messages.{batches_of}
use Rattle.ndc_shard_waiting.specs.Waiting.{CanWait, freed_by, kept_by}
use Rattle.ndc_model_sets.proofs.Lists.{all-join}
use Rattle.ndc_shard_waiting.proofs.OrderLemmas.{all-back, all-more, Precede, rise-back, rise-precede}
use Rattle.ndc_shard_waiting.proofs.FreedLemmas.{freed-cases, batches-freed, precede-part}
use Rattle.ndc_shard_waiting.proofs.KeptLemmas.{both-all, carried-earlier, carried-after, behind-next, has-neither, IsApart, apart-join}

-- what waits does not wait for what comes after it
pub not-behind : (b : Batch) (rest : List Batch) → PointsBack b → IsSome (earlier b) → ComeAfter b.key rest → has_key (earlier b) rest ≡ false
not-behind b rest back some after = by (earlier b) refl some
  where
    by : (o : Option BatchKey) → earlier b ≡ o → IsSome o → has_key o rest ≡ false
    by None e h = absurd (true≢false (sym h))
    by (Some key) e h = ap is_some (none-there rest key (after-trans key b.key rest (back key e) after))

-- no kept batch waits for one of the first batches or of the freed ones
pub kept-off : (so_far : List Batch) (waiting : List Message) → AllByRecursion CanWait waiting → Rise (batches_of waiting) → IsApart so_far (batches_of waiting)
    → AllByRecursion (λ b. has_key (earlier b) (so_far ++ batches_of (freed_by so_far waiting)) ≡ false) (batches_of (kept_by so_far waiting))
kept-off so_far [] each rise apart = tt
kept-off so_far (sent ∷ waiting) each rise apart =
    let rest = rise-back (both sent) (batches_of waiting) rise in
    let before = rise-precede (both sent) (batches_of waiting) rise in
    freed-cases (λ f k. AllByRecursion (λ b. has_key (earlier b) (so_far ++ batches_of f) ≡ false) (batches_of k)) so_far sent waiting
    (λ _. let f = batches_of (freed_by (so_far ++ both sent) waiting) in
    all-more (λ b. has_key (earlier b) ((so_far ++ both sent) ++ f) ≡ false) (λ b. has_key (earlier b) (so_far ++ (both sent ++ f)) ≡ false)
    (λ b h. subst (λ (l : List Batch). has_key (earlier b) l ≡ false) (append_assoc so_far (both sent) f) h)
    (batches_of (kept_by (so_far ++ both sent) waiting))
    (kept-off (so_far ++ both sent) waiting each.1 rest (apart-join so_far (both sent) (batches_of waiting) apart before)))
    (λ keeps. let f = batches_of (freed_by so_far waiting) in
    let behind : Precede (both sent) f = precede-part (both sent) (batches_of waiting) f (λ P all. (batches-freed P so_far waiting all).0) before in
    all-join (λ b. has_key (earlier b) (so_far ++ f) ≡ false) (both sent) (batches_of (kept_by so_far waiting))
    (both-all (λ b. has_key (earlier b) (so_far ++ f) ≡ false) sent each.0.message
    (has-neither (earlier sent.batch) so_far f keeps (not-behind sent.batch f each.0.message.back each.0.waits behind.0))
    (λ second by. rw (carried-earlier sent.batch second by)
    (has-neither (Some sent.batch.key) so_far f (ap is_some apart.0) (ap is_some (none-there f sent.batch.key behind.0)))))
    (kept-off so_far waiting each.1 rest (all-back (λ b. batch_at b.key so_far ≡ None) (both sent) (batches_of waiting) apart)))

-- a key does not come before one that comes before it
pub not-before : (low key : BatchKey) → key_lt low key ≡ true → key_lt key low ≡ false
not-before low key l = by (key_lt key low) refl
  where
    by : (t : Bool) → key_lt key low ≡ t → t ≡ false
    by true e = absurd (before-irrefl low (before-trans low key low l e))
    by false e = refl

-- a batch that waits for one of batches, none of which comes before a key, comes after the key
after-low : (low : BatchKey) (so_far : List Batch) (b : Batch) → AllByRecursion (λ x. key_lt x.key low ≡ false) so_far → PointsBack b → IsSome (earlier b)
    → has_key (earlier b) so_far ≡ true → key_lt low b.key ≡ true
after-low low so_far b all back = by (earlier b) refl
  where
    order : (key : BatchKey) → key_lt key b.key ≡ true → key_lt key low ≡ false → (t : Bool) → key_eq key low ≡ t → key_lt low b.key ≡ true
    order key l n true e = subst (λ (k : BatchKey). key_lt k b.key ≡ true) (same-keys key low e) l
    order key l n false e = before-trans low key b.key (before-total key low n e) l

    found : (key : BatchKey) → earlier b ≡ Some key → (o : Option Batch) → batch_at key so_far ≡ o → is_some o ≡ true → key_lt low b.key ≡ true
    found key e None at h = absurd (true≢false (sym h))
    found key e (Some x) at h =
        order key (back key e)
        (subst (λ (k : BatchKey). key_lt k low ≡ false) (found-key so_far key x at) (found-all (λ y. key_lt y.key low ≡ false) so_far key x all at))
        (key_eq key low) refl

    by : (o : Option BatchKey) → earlier b ≡ o → IsSome o → has_key o so_far ≡ true → key_lt low b.key ≡ true
    by None e some h = absurd (true≢false (sym some))
    by (Some key) e some h = found key e (batch_at key so_far) refl h

-- what is freed comes after a key, where none of the first batches comes before it
pub freed-after : (low : BatchKey) (so_far : List Batch) (waiting : List Message) → AllByRecursion CanWait waiting → AllByRecursion (λ b. key_lt b.key low ≡ false) so_far
    → ComeAfter low (batches_of (freed_by so_far waiting))
freed-after low so_far [] each all = tt
freed-after low so_far (sent ∷ waiting) each all =
    freed-cases (λ f _. ComeAfter low (batches_of f)) so_far sent waiting
    (λ frees. let own : key_lt low sent.batch.key ≡ true = after-low low so_far sent.batch all each.0.message.back each.0.waits frees in
    let after : ComeAfter low (both sent) = both-all (λ b. key_lt low b.key ≡ true) sent each.0.message own
    (λ second by. before-trans low sent.batch.key second.key own (carried-after sent.batch second by)) in
    all-join (λ b. key_lt low b.key ≡ true) (both sent) (batches_of (freed_by (so_far ++ both sent) waiting)) after
    (freed-after low (so_far ++ both sent) waiting each.1
    (all-join (λ b. key_lt b.key low ≡ false) so_far (both sent) all
    (all-more (λ b. key_lt low b.key ≡ true) (λ b. key_lt b.key low ≡ false) (λ b l. not-before low b.key l) (both sent) after))))
    (λ _. freed-after low so_far waiting each.1 all)

-- the next key is not there, so what comes after a key comes after the next one
pub after-next : (low : BatchKey) (second : Batch) (batches : List Batch) → second.key ≡ key_behind low → ComeAfter low batches → IsApart (second ∷ []) batches → ComeAfter second.key batches
after-next low second [] e after apart = tt
after-next low second (b ∷ batches) e after apart = (by (key_eq second.key b.key) refl apart.0, after-next low second batches e after.1 apart.1)
  where
    by : (t : Bool) → key_eq second.key b.key ≡ t → batch_at b.key (second ∷ []) ≡ None → key_lt second.key b.key ≡ true
    by true f h = let some : batch_at b.key (second ∷ []) ≡ Some second = rw f refl in absurd (cc)
    by false f h = subst (λ (k : BatchKey). key_lt k b.key ≡ true) (sym e) (behind-next low b.key after.0 (subst (λ (k : BatchKey). key_eq k b.key ≡ false) e f))
