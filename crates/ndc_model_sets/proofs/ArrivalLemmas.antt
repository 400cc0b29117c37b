-- What arrival of a batch makes of a set.
use Rattle.std.proofs.Common.{◌≡◌, Bool, true, false, List, [], ◌∷◌, ◌⊎◌, inl, inr, Some, None, refl, sym, subst, ◌↔◌}
use Rattle.std.specs.Prelude.{if◌then◌else◌}
use Rattle.std.specs.List.{AllByRecursion}
use Rattle.ndc_event.specs.Key.{key_lt, key_eq}
use Rattle.ndc_event.specs.declared.batch.Batch.{Batch}
use Rattle.ndc_event.specs.declared.key.BatchKey.{BatchKey}
use Rattle.ndc_model_sets.specs.Sets.{earlier, PointsBack, ComeAfter, Rise, IsSet, batch_at, Has, arrived}
use Rattle.ndc_model_sets.specs.Learned.{has_key, learned, ReachesTop, top, up, WaitsFor, itself, behind, IsPart}
use Rattle.ndc_model_sets.proofs.KeyLemmas.{before-irrefl, before-total, same-keys}
use Rattle.ndc_model_sets.proofs.SetLemmas.{at-cases, at-first, found-key, found-has, has-found, found-all, none-there, after-trans, at-behind}
use Rattle.ndc_model_sets.proofs.LearnedLemmas.{reaches-has, reaches-on, learned-reaches, reaches-learned, reaches-more}

-- arrival, by how the key compares with the first
arrived-cases : (P : List Batch → Type 0) (new b : Batch) (batches : List Batch) →
    (key_lt new.key b.key ≡ true → P (new ∷ b ∷ batches)) → (new.key ≡ b.key → P (b ∷ batches)) →
    (key_lt b.key new.key ≡ true → P (b ∷ arrived new batches)) → P (arrived new (b ∷ batches))
arrived-cases P new b batches less equal greater = by (key_lt new.key b.key) refl
  where
    by_equal : key_lt new.key b.key ≡ false → (t : Bool) → key_eq new.key b.key ≡ t → P (if t then b ∷ batches else b ∷ arrived new batches)
    by_equal l true e = equal (same-keys new.key b.key e)
    by_equal l false e = greater (before-total new.key b.key l e)

    by : (t : Bool) → key_lt new.key b.key ≡ t → P (if t then new ∷ b ∷ batches else if key_eq new.key b.key then b ∷ batches else b ∷ arrived new batches)
    by true l = less l
    by false l = by_equal l (key_eq new.key b.key) refl

All-arrived : (P : Batch → Type 0) (new : Batch) (batches : List Batch) → P new → AllByRecursion P batches → AllByRecursion P (arrived new batches)
All-arrived P new [] p all = (p, tt)
All-arrived P new (b ∷ batches) p all =
    arrived-cases (AllByRecursion P) new b batches (λ _. (p, all)) (λ _. all) (λ _. (all.0, All-arrived P new batches p all.1))

Rise-arrived : (new : Batch) (batches : List Batch) → Rise batches → Rise (arrived new batches)
Rise-arrived new [] rise = (tt, tt)
Rise-arrived new (b ∷ batches) rise =
    arrived-cases Rise new b batches
    (λ l. ((l, after-trans new.key b.key batches l rise.0), rise))
    (λ _. rise)
    (λ l. (All-arrived (λ x. key_lt b.key x.key ≡ true) new batches l rise.0, Rise-arrived new batches rise.1))

pub arrival_keeps_sets : (new : Batch) (batches : List Batch) → IsSet batches → PointsBack new → IsSet (arrived new batches)
arrival_keeps_sets new batches set back = record { ordered = Rise-arrived new batches set.ordered; back = All-arrived PointsBack new batches back set.back }

-- what has arrived stays
pub stays : (new : Batch) (batches : List Batch) → Rise batches → IsPart batches (arrived new batches)
stays new [] rise b = λ h. absurd (cc)
stays new (x ∷ xs) rise b =
    arrived-cases (λ l. Has (x ∷ xs) b → Has l b) new x xs
    (λ l h. at-behind new (x ∷ xs) b.key b (l, after-trans new.key x.key xs l rise.0) h)
    (λ _ h. h)
    (λ l. at-cases (λ o. o ≡ Some b → Has (x ∷ arrived new xs) b) x xs b.key
    (λ _ h. let same : x ≡ b = cc in subst (λ (y : Batch). Has (x ∷ arrived new xs) y) same (at-first x (arrived new xs)))
    (λ _ h. at-behind x (arrived new xs) b.key b (All-arrived (λ y. key_lt x.key y.key ≡ true) new xs l rise.0) (stays new xs rise.1 b h)))

-- what is there then was there, or is the batch
pub was_or_new : (new : Batch) (batches : List Batch) (b : Batch) → Rise batches → Has (arrived new batches) b → (b ≡ new) ⊎ Has batches b
was_or_new new [] b rise =
    at-cases (λ o. o ≡ Some b → (b ≡ new) ⊎ Has [] b) new [] b.key (λ _ h. let same : b ≡ new = cc in inl same) (λ _ h. absurd (cc))
was_or_new new (x ∷ xs) b rise =
    arrived-cases (λ l. Has l b → (b ≡ new) ⊎ Has (x ∷ xs) b) new x xs
    (λ _. at-cases (λ o. o ≡ Some b → (b ≡ new) ⊎ Has (x ∷ xs) b) new (x ∷ xs) b.key (λ _ h. let same : b ≡ new = cc in inl same) (λ _ h. inr h))
    (λ _ h. inr h)
    (λ _. at-cases (λ o. o ≡ Some b → (b ≡ new) ⊎ Has (x ∷ xs) b) x (arrived new xs) b.key
    (λ _ h. let same : x ≡ b = cc in inr (subst (λ (y : Batch). Has (x ∷ xs) y) same (at-first x xs)))
    (λ _ h. by (was_or_new new xs b rise.1 h)))
  where
    by : (b ≡ new) ⊎ Has xs b → (b ≡ new) ⊎ Has (x ∷ xs) b
    by (inl e) = inl e
    by (inr h) = inr (at-behind x xs b.key b rise.0 h)

-- a batch whose key has not arrived is there then
pub is_there : (new : Batch) (batches : List Batch) → Rise batches → batch_at new.key batches ≡ None → Has (arrived new batches) new
is_there new [] rise none = at-first new []
is_there new (x ∷ xs) rise none =
    arrived-cases (λ l. Has l new) new x xs
    (λ _. at-first new (x ∷ xs))
    (λ e. let here : batch_at new.key (x ∷ xs) ≡ Some x = has-found (x ∷ xs) new.key x (sym e) (at-first x xs) in absurd (cc))
    (λ l. at-behind x (arrived new xs) new.key new (All-arrived (λ y. key_lt x.key y.key ≡ true) new xs l rise.0)
    (is_there new xs rise.1
    (at-cases (λ o. o ≡ None → batch_at new.key xs ≡ None) x xs new.key (λ _ h. absurd (cc)) (λ _ h. h) none)))

pub arrived_exactly : (batches : List Batch) (new b : Batch) → IsSet batches → batch_at new.key batches ≡ None → Has (arrived new batches) b ↔ ((b ≡ new) ⊎ Has batches b)
arrived_exactly batches new b set none = (was_or_new new batches b set.ordered, back)
  where
    back : (b ≡ new) ⊎ Has batches b → Has (arrived new batches) b
    back (inl e) = subst (λ (x : Batch). Has (arrived new batches) x) (sym e) (is_there new batches set.ordered none)
    back (inr h) = stays new batches set.ordered b h

pub only_adds : (batches : List Batch) (new : Batch) → IsSet batches → PointsBack new → IsPart (learned batches) (learned (arrived new batches))
only_adds batches new set back b has =
    reaches-learned (arrived new batches) b (arrival_keeps_sets new batches set back)
    (reaches-more batches (arrived new batches) b (stays new batches set.ordered) (learned-reaches batches b set has))

-- what reaches the top then reached it before, or comes to the batch
reached_or_waited : (batches : List Batch) (new b : Batch) → IsSet batches → ReachesTop (arrived new batches) b → ReachesTop batches b ⊎ WaitsFor (arrived new batches) new b
reached_or_waited batches new b set (top _ has e) = by (was_or_new new batches b set.ordered has)
  where
    by : (b ≡ new) ⊎ Has batches b → ReachesTop batches b ⊎ WaitsFor (arrived new batches) new b
    by (inl s) = inr (subst (λ (x : Batch). WaitsFor (arrived new batches) new x) (sym s) itself)
    by (inr h) = inl (top b h e)
reached_or_waited batches new b set (up _ before key has e at r) =
    by (was_or_new new batches b set.ordered has) (reached_or_waited batches new before set r)
  where
    by : (b ≡ new) ⊎ Has batches b → ReachesTop batches before ⊎ WaitsFor (arrived new batches) new before → ReachesTop batches b ⊎ WaitsFor (arrived new batches) new b
    by (inl s) _ = inr (subst (λ (x : Batch). WaitsFor (arrived new batches) new x) (sym s) itself)
    by _ (inr w) = inr (behind b before key has e at w)
    by (inr h) (inl q) = inl (up b before key h e (has-found batches key before (found-key (arrived new batches) key before at) (reaches-has batches before q)) q)

pub newly_waited : (batches : List Batch) (new b : Batch) → IsSet batches → PointsBack new → Has (learned (arrived new batches)) b → Has (learned batches) b ⊎ WaitsFor (arrived new batches) new b
newly_waited batches new b set back has = by (reached_or_waited batches new b set (learned-reaches (arrived new batches) b (arrival_keeps_sets new batches set back) has))
  where
    by : ReachesTop batches b ⊎ WaitsFor (arrived new batches) new b → Has (learned batches) b ⊎ WaitsFor (arrived new batches) new b
    by (inl r) = inl (reaches-learned batches b set r)
    by (inr w) = inr w

-- a batch whose earlier key is learned reaches the top once it has arrived
new_reaches : (batches : List Batch) (new : Batch) → IsSet batches → batch_at new.key batches ≡ None → has_key (earlier new) (learned batches) ≡ true → ReachesTop (arrived new batches) new
new_reaches batches new set none = reaches-on (arrived new batches) (learned batches) new
    (λ key e at. reaches-more batches (arrived new batches) e (stays new batches set.ordered)
    (learned-reaches batches e set (found-has (learned batches) key e at)))
    (is_there new batches set.ordered none)

-- what comes to a batch that reaches the top reaches it
waits-reaches : (batches : List Batch) (one b : Batch) → ReachesTop batches one → WaitsFor batches one b → ReachesTop batches b
waits-reaches batches one b r itself = r
waits-reaches batches one b r (behind _ before key has e at w) = up b before key has e at (waits-reaches batches one before r w)

pub waited_learned : (batches : List Batch) (new b : Batch) → IsSet batches → PointsBack new → batch_at new.key batches ≡ None →
    has_key (earlier new) (learned batches) ≡ true → WaitsFor (arrived new batches) new b → Has (learned (arrived new batches)) b
waited_learned batches new b set back none known w =
    reaches-learned (arrived new batches) b (arrival_keeps_sets new batches set back)
    (waits-reaches (arrived new batches) new b (new_reaches batches new set none known) w)

-- after first batches of one key, parts are parts
part-tail : (x : Batch) (xs ys : List Batch) → ComeAfter x.key xs → IsPart (x ∷ xs) (x ∷ ys) → IsPart xs ys
part-tail x xs ys after part b has =
    at-cases (λ o. o ≡ Some b → Has ys b) x ys b.key
    (λ e. absurd (before-irrefl x.key (subst (λ (k : BatchKey). key_lt x.key k ≡ true) (sym e) (found-all (λ y. key_lt x.key y.key ≡ true) xs b.key b after has))))
    (λ _ h. h)
    (part b (at-behind x xs b.key b after has))

-- the first batch of a part does not come before the first of the whole
not_before : (x y : Batch) (xs ys : List Batch) → Rise (y ∷ ys) → IsPart (x ∷ xs) (y ∷ ys) → key_lt x.key y.key ≡ true → ⊥
not_before x y xs ys rise part l =
    let there : batch_at x.key (y ∷ ys) ≡ Some x = part x (at-first x xs) in
    let none : batch_at x.key (y ∷ ys) ≡ None = none-there (y ∷ ys) x.key (l, after-trans x.key y.key ys l rise.0) in absurd (cc)

pub same_batches : (one two : List Batch) → Rise one → Rise two → IsPart one two → IsPart two one → one ≡ two
same_batches [] [] rise other within back = refl
same_batches [] (y ∷ ys) rise other within back = let h : Has [] y = back y (at-first y ys) in absurd (cc)
same_batches (x ∷ xs) [] rise other within back = let h : Has [] x = within x (at-first x xs) in absurd (cc)
same_batches (x ∷ xs) (y ∷ ys) rise other within back = by (key_lt x.key y.key) refl (key_eq x.key y.key) refl (same_batches xs ys rise.1 other.1)
  where
    tails : x ≡ y → (IsPart xs ys → IsPart ys xs → xs ≡ ys) → x ∷ xs ≡ y ∷ ys
    tails e rest =
        let w : IsPart (x ∷ xs) (x ∷ ys) = subst (λ (z : Batch). IsPart (x ∷ xs) (z ∷ ys)) (sym e) within in
        let v : IsPart (x ∷ ys) (x ∷ xs) = subst (λ (z : Batch). IsPart (z ∷ ys) (x ∷ xs)) (sym e) back in
        let after : ComeAfter x.key ys = subst (λ (z : Batch). ComeAfter z.key ys) (sym e) other.0 in
        let same : xs ≡ ys = rest (part-tail x xs ys rise.0 w) (part-tail x ys xs after v) in
        cc

    first_same : x.key ≡ y.key → x ≡ y
    first_same e =
        let one : batch_at x.key (y ∷ ys) ≡ Some x = within x (at-first x xs) in
        let two : batch_at x.key (y ∷ ys) ≡ Some y = has-found (y ∷ ys) x.key y (sym e) (at-first y ys) in cc

    by : (t : Bool) → key_lt x.key y.key ≡ t → (s : Bool) → key_eq x.key y.key ≡ s → (IsPart xs ys → IsPart ys xs → xs ≡ ys) → x ∷ xs ≡ y ∷ ys
    by true l s e rest = absurd (not_before x y xs ys other within l)
    by false l true e rest = tails (first_same (same-keys x.key y.key e)) rest
    by false l false e rest = absurd (not_before y x ys xs rise back (before-total x.key y.key l e))

pub equal_sets : (one two : List Batch) → IsSet one → IsSet two → IsPart one two → IsPart two one → one ≡ two
equal_sets one two set other = same_batches one two set.ordered other.ordered
