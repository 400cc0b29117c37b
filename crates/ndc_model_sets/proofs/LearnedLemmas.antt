-- What is learned.
use Rattle.std.proofs.Common.{◌≡◌, Bool, true, false, List, [], ◌∷◌, ◌++◌, Option, Some, None, refl, sym, ◌∙◌, subst, ap, true≢false, ◌↔◌}
use Rattle.std.specs.Prelude.{is_some, if◌then◌else◌}
use Rattle.std.specs.Option.{option_or}
use Rattle.std.specs.List.{AllByRecursion}
use Rattle.std.proofs.lemmas.List.{append_assoc}
use Rattle.ndc_event.specs.Key.{key_lt}
use Rattle.ndc_event.specs.declared.batch.Batch.{Batch}
use Rattle.ndc_event.specs.declared.key.BatchKey.{BatchKey}
use Rattle.ndc_model_sets.specs.Sets.{earlier, PointsBack, ComeAfter, Rise, IsSet, batch_at, Has}
use Rattle.ndc_model_sets.specs.Learned.{has_key, learned_behind, learned, ReachesTop, top, up, IsClosed, IsPart}
use Rattle.ndc_model_sets.proofs.SetLemmas.{at-cases, at-first, found-key, found-has, has-found, found-all, none-there, after-trans, at-behind, at-append}

-- what is learned of some batches, by whether the first is
learned-cases : (P : List Batch → Type 0) (so_far : List Batch) (b : Batch) (batches : List Batch) →
    (has_key (earlier b) so_far ≡ true → P (b ∷ learned_behind (so_far ++ b ∷ []) batches)) →
    (has_key (earlier b) so_far ≡ false → P (learned_behind so_far batches)) → P (learned_behind so_far (b ∷ batches))
learned-cases P so_far b batches known new = by (has_key (earlier b) so_far) refl
  where
    by : (t : Bool) → has_key (earlier b) so_far ≡ t → P (if t then b ∷ learned_behind (so_far ++ b ∷ []) batches else learned_behind so_far batches)
    by true e = known e
    by false e = new e

-- what holds of each holds of each learned one
All-learned : (P : Batch → Type 0) (so_far batches : List Batch) → AllByRecursion P batches → AllByRecursion P (learned_behind so_far batches)
All-learned P so_far [] all = tt
All-learned P so_far (b ∷ batches) all =
    learned-cases (AllByRecursion P) so_far b batches
    (λ _. (all.0, All-learned P (so_far ++ b ∷ []) batches all.1))
    (λ _. All-learned P so_far batches all.1)

Rise-learned : (so_far batches : List Batch) → Rise batches → Rise (learned_behind so_far batches)
Rise-learned so_far [] rise = tt
Rise-learned so_far (b ∷ batches) rise =
    learned-cases Rise so_far b batches
    (λ _. (All-learned (λ x. key_lt b.key x.key ≡ true) (so_far ++ b ∷ []) batches rise.0, Rise-learned (so_far ++ b ∷ []) batches rise.1))
    (λ _. Rise-learned so_far batches rise.1)

pub IsSet-learned : (batches : List Batch) → IsSet batches → IsSet (learned batches)
IsSet-learned batches set = record { ordered = Rise-learned [] batches set.ordered; back = All-learned PointsBack [] batches set.back }

-- a batch that reaches the top is one of the batches
pub reaches-has : (batches : List Batch) (b : Batch) → ReachesTop batches b → Has batches b
reaches-has batches b (top _ has _) = has
reaches-has batches b (up _ _ _ has _ _ _) = has

-- a batch whose earlier key is that of one that reaches the top reaches it
pub reaches-on : (batches so_far : List Batch) (b : Batch) → ((key : BatchKey) (e : Batch) → batch_at key so_far ≡ Some e → ReachesTop batches e) →
    Has batches b → has_key (earlier b) so_far ≡ true → ReachesTop batches b
reaches-on batches so_far b before has = by (earlier b) refl
  where
    found : (key : BatchKey) → earlier b ≡ Some key → (o : Option Batch) → batch_at key so_far ≡ o → is_some o ≡ true → ReachesTop batches b
    found key e (Some x) at h =
        up b x key has e (has-found batches key x (found-key so_far key x at) (reaches-has batches x (before key x at))) (before key x at)
    found key e None at h = absurd (cc)

    by : (o : Option BatchKey) → earlier b ≡ o → has_key o so_far ≡ true → ReachesTop batches b
    by None e h = top b has e
    by (Some key) e h = found key e (batch_at key so_far) refl h

-- what holds of what is found in a list and of one more holds of what is found in both
found-push : (P : Batch → Type 0) (so_far : List Batch) (c : Batch) → ((key : BatchKey) (e : Batch) → batch_at key so_far ≡ Some e → P e) → P c →
    (key : BatchKey) (e : Batch) → batch_at key (so_far ++ c ∷ []) ≡ Some e → P e
found-push P so_far c before p key e h = by (batch_at key so_far) refl (sym (at-append so_far (c ∷ []) key) ∙ h)
  where
    last : batch_at key (c ∷ []) ≡ Some e → P e
    last = at-cases (λ o. o ≡ Some e → P e) c [] key (λ _ g. let same : c ≡ e = cc in subst P same p) (λ _ g. absurd (cc))

    by : (o : Option Batch) → batch_at key so_far ≡ o → option_or o (batch_at key (c ∷ [])) ≡ Some e → P e
    by (Some x) at g = before key e (at ∙ g)
    by None at g = last g

-- this holds of each of the batches
abbrev Each : List Batch → (Batch → Type 0) → Type 0
Each batches P = (b : Batch) → Has batches b → P b

-- what is learned reaches the top
reaches : (batches so_far rest : List Batch) → ((key : BatchKey) (e : Batch) → batch_at key so_far ≡ Some e → ReachesTop batches e) →
    Rise rest → IsPart rest batches → Each (learned_behind so_far rest) (ReachesTop batches)
reaches batches so_far [] before rise part = λ b h. absurd (cc)
reaches batches so_far (c ∷ cs) before rise part =
    let behind : IsPart cs batches = (λ x has. part x (at-behind c cs x.key x rise.0 has)) in
    learned-cases (λ l. Each l (ReachesTop batches)) so_far c cs
    (λ known.
    let here : ReachesTop batches c = reaches-on batches so_far c before (part c (at-first c cs)) known in
    λ b. at-cases (λ o. o ≡ Some b → ReachesTop batches b) c (learned_behind (so_far ++ c ∷ []) cs) b.key
    (λ _ h. let same : c ≡ b = cc in subst (ReachesTop batches) same here)
    (λ _ h. reaches batches (so_far ++ c ∷ []) cs (found-push (ReachesTop batches) so_far c before here) rise.1 behind b h))
    (λ _. reaches batches so_far cs before rise.1 behind)

pub learned-reaches : (batches : List Batch) (b : Batch) → IsSet batches → Has (learned batches) b → ReachesTop batches b
learned-reaches batches b set = reaches batches [] batches (λ key e h. absurd (cc)) set.ordered (λ _ h. h) b

-- a key that stands in the prefix alone is found there
key-in-front : (front back : List Batch) (o : Option BatchKey) → ((key : BatchKey) → o ≡ Some key → ComeAfter key back) → has_key o (front ++ back) ≡ true → has_key o front ≡ true
key-in-front front back None after h = refl
key-in-front front back (Some key) after h = by (batch_at key front) refl (sym (ap is_some (at-append front back key)) ∙ h)
  where
    by : (o : Option Batch) → batch_at key front ≡ o → is_some (option_or o (batch_at key back)) ≡ true → is_some (batch_at key front) ≡ true
    by (Some x) at g = ap is_some at
    by None at g = let none : batch_at key back ≡ None = none-there back key (after key refl) in
        let false_is : is_some (option_or None (batch_at key back)) ≡ false = ap (λ o. is_some (option_or None o)) none in
        absurd (true≢false (sym g ∙ false_is))

-- the earlier key of the first batch comes before all
earlier-before : (b : Batch) (batches : List Batch) → PointsBack b → Rise (b ∷ batches) → (key : BatchKey) → earlier b ≡ Some key → ComeAfter key (b ∷ batches)
earlier-before b batches back rise key e = (back key e, after-trans key b.key batches (back key e) rise.0)

-- the same after a first batch, where it is so of what is learned with it and without it
step-behind : (so_far cs : List Batch) (c b : Batch) → Rise (c ∷ cs) →
    (has_key (earlier b) ((so_far ++ c ∷ []) ++ learned_behind (so_far ++ c ∷ []) cs) ≡ true → Has (learned_behind (so_far ++ c ∷ []) cs) b) →
    (has_key (earlier b) (so_far ++ learned_behind so_far cs) ≡ true → Has (learned_behind so_far cs) b) →
    has_key (earlier b) (so_far ++ learned_behind so_far (c ∷ cs)) ≡ true → Has (learned_behind so_far (c ∷ cs)) b
step-behind so_far cs c b rise with_c without =
    learned-cases (λ l. has_key (earlier b) (so_far ++ l) ≡ true → Has l b) so_far c cs
    (λ _ h.
    at-behind c (learned_behind (so_far ++ c ∷ []) cs) b.key b (All-learned (λ x. key_lt c.key x.key ≡ true) (so_far ++ c ∷ []) cs rise.0)
    (with_c (subst (λ (l : List Batch). has_key (earlier b) l ≡ true) (sym (append_assoc so_far (c ∷ []) (learned_behind (so_far ++ c ∷ []) cs))) h)))
    (λ _ h. without h)

-- a batch whose earlier key is learned is learned
step-up : (so_far rest : List Batch) (b : Batch) → Rise rest → PointsBack b → Has rest b → has_key (earlier b) (so_far ++ learned_behind so_far rest) ≡ true → Has (learned_behind so_far rest) b
step-up so_far [] b rise back = λ h. absurd (cc)
step-up so_far (c ∷ cs) b rise back =
    at-cases (λ o. o ≡ Some b → has_key (earlier b) (so_far ++ learned_behind so_far (c ∷ cs)) ≡ true → Has (learned_behind so_far (c ∷ cs)) b) c cs b.key
    (λ _ h. let same : c ≡ b = cc in first same)
    (λ _ has. step-behind so_far cs c b rise (step-up (so_far ++ c ∷ []) cs b rise.1 back has) (step-up so_far cs b rise.1 back has))
  where
    mine : PointsBack c → has_key (earlier c) (so_far ++ learned_behind so_far (c ∷ cs)) ≡ true → Has (learned_behind so_far (c ∷ cs)) c
    mine own h =
        let known : has_key (earlier c) so_far ≡ true =
        key-in-front so_far (learned_behind so_far (c ∷ cs)) (earlier c)
        (λ key e. All-learned (λ x. key_lt key x.key ≡ true) so_far (c ∷ cs) (earlier-before c cs own rise key e)) h in
        learned-cases (λ l. Has l c) so_far c cs (λ _. at-first c (learned_behind (so_far ++ c ∷ []) cs)) (λ no. absurd (true≢false (sym known ∙ no)))

    first : c ≡ b → has_key (earlier b) (so_far ++ learned_behind so_far (c ∷ cs)) ≡ true → Has (learned_behind so_far (c ∷ cs)) b
    first same h =
        subst (λ (x : Batch). Has (learned_behind so_far (c ∷ cs)) x) same
        (mine (subst PointsBack (sym same) back) (subst (λ (x : Batch). has_key (earlier x) (so_far ++ learned_behind so_far (c ∷ cs)) ≡ true) (sym same) h))

pub reaches-learned : (batches : List Batch) (b : Batch) → IsSet batches → ReachesTop batches b → Has (learned batches) b
reaches-learned batches b set (top _ has e) =
    step-up [] batches b set.ordered (found-all PointsBack batches b.key b set.back has) has (rw e refl)
reaches-learned batches b set (up _ before key has e at r) =
    let known : batch_at key (learned batches) ≡ Some before = has-found (learned batches) key before (found-key batches key before at) (reaches-learned batches before set r) in
    step-up [] batches b set.ordered (found-all PointsBack batches b.key b set.back has) has (rw (e, known) refl)

pub learned_exactly : (batches : List Batch) (b : Batch) → IsSet batches → (Has (learned batches) b) ↔ (ReachesTop batches b)
learned_exactly batches b set = (learned-reaches batches b set, reaches-learned batches b set)

learned_is_closed : (batches : List Batch) → IsSet batches → IsClosed (learned batches)
learned_is_closed batches set b has = by (learned-reaches batches b set has)
  where
    by : ReachesTop batches b → has_key (earlier b) (learned batches) ≡ true
    by (top _ _ e) = rw e refl
    by (up _ before key _ e at r) =
        let known : batch_at key (learned batches) ≡ Some before = has-found (learned batches) key before (found-key batches key before at) (reaches-learned batches before set r) in
        rw (e, known) refl

pub learned_closed : (batches : List Batch) → IsSet batches → IsSet (learned batches) × IsClosed (learned batches)
learned_closed batches set = (IsSet-learned batches set, learned_is_closed batches set)

-- all is learned where earlier keys stand among what is learned or is to come
whole : (so_far rest : List Batch) → Rise rest → AllByRecursion PointsBack rest → ((b : Batch) → Has rest b → has_key (earlier b) (so_far ++ rest) ≡ true) → learned_behind so_far rest ≡ rest
whole so_far [] rise back closed = refl
whole so_far (c ∷ cs) rise back closed =
    let known : has_key (earlier c) so_far ≡ true = key-in-front so_far (c ∷ cs) (earlier c) (earlier-before c cs back.0 rise) (closed c (at-first c cs)) in
    let rest : learned_behind (so_far ++ c ∷ []) cs ≡ cs = whole (so_far ++ c ∷ []) cs rise.1 back.1
    (λ b has. subst (λ (l : List Batch). has_key (earlier b) l ≡ true) (sym (append_assoc so_far (c ∷ []) cs)) (closed b (at-behind c cs b.key b rise.0 has))) in
    learned-cases (λ l. l ≡ c ∷ cs) so_far c cs (λ _. ap (λ l. c ∷ l) rest) (λ no. absurd (true≢false (sym known ∙ no)))

pub closed_whole : (batches : List Batch) → IsSet batches → IsClosed batches → learned batches ≡ batches
closed_whole batches set closed = whole [] batches set.ordered set.back closed

-- what reaches the top in a part reaches it in the whole
pub reaches-more : (part batches : List Batch) (b : Batch) → IsPart part batches → ReachesTop part b → ReachesTop batches b
reaches-more part batches b within (top _ has e) = top b (within b has) e
reaches-more part batches b within (up _ before key has e at r) =
    up b before key (within b has) e (has-found batches key before (found-key part key before at) (within before (found-has part key before at))) (reaches-more part batches before within r)

pub closed_part : (batches part : List Batch) → IsSet batches → IsSet part → IsPart part batches → IsClosed part → IsPart part (learned batches)
closed_part batches part set own within closed b has =
    reaches-learned batches b set (reaches-more part batches b within (learned-reaches part b own (subst (λ (l : List Batch). Has l b) (sym (closed_whole part own closed)) has)))
