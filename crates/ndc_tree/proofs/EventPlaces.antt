-- Events by version and id among segments, and in a tree.
use Rattle.std.proofs.Common.{◌≡◌, ℕ, zero, suc, ◌<◌, List, [], ◌∷◌, ◌++◌, inl, inr, get_or, Option, Some, None, refl, sym, ◌∙◌, subst, ap, arith}
use Rattle.std.specs.Option.{option_or}
use Rattle.std.specs.List.{AllByRecursion}
use Rattle.std.specs.declared.cmp.Ordering.TheVariants.{Greater}
use Rattle.ndc_event.specs.Batch.{fault_of}
use Rattle.ndc_event.specs.Sorted.{InOrder, Hits, Parts}
use Rattle.ndc_event.specs.declared.batch.Batch.{Batch}
use Rattle.ndc_event.specs.declared.batch.Event.{Event}
use Rattle.ndc_event.proofs.SortedLemmas.{all_follow}
use Rattle.ndc_tree.specs.declared.batches.Segment.{Segment}
use Rattle.ndc_tree.specs.Events.{event_at, event_of, IdsGoOn, AreInIdOrder, AreVersionsInIdOrder}
use Rattle.ndc_tree.specs.Segments.{AreSegments, IsSegment, against, flat}
use Rattle.ndc_tree.proofs.IdLemmas.{event-join, own-batches, other-batches}
use Rattle.ndc_tree.proofs.SegmentLemmas.{cmp-equal, cmp-less, cmp-greater}
use Rattle.ndc_state.specs.Replay.{history_of}

all-front : {X : Type 0} (P : X → Type 0) (xs ys : List X) → AllByRecursion P (xs ++ ys) → AllByRecursion P xs
all-front P [] ys all = tt
all-front P (x ∷ xs) ys all = (all.0, all-front P xs ys all.1)

all-back : {X : Type 0} (P : X → Type 0) (xs ys : List X) → AllByRecursion P (xs ++ ys) → AllByRecursion P ys
all-back P [] ys all = all
all-back P (x ∷ xs) ys all = all-back P xs ys all.1

order-front : {X : Type 0} (R : X → X → Type 0) (xs ys : List X) → InOrder R (xs ++ ys) → InOrder R xs
order-front R [] ys order = tt
order-front R (x ∷ xs) ys order = (all-front (R x) xs ys order.0, order-front R xs ys order.1)

order-back : {X : Type 0} (R : X → X → Type 0) (xs ys : List X) → InOrder R (xs ++ ys) → InOrder R ys
order-back R [] ys order = order
order-back R (x ∷ xs) ys order = order-back R xs ys order.1

front-of : (front back : List Batch) → AreVersionsInIdOrder (front ++ back) → AreVersionsInIdOrder front
front-of front back are = (order-front (λ one two. one.key.version ≡ two.key.version → IdsGoOn one two) front back are.0, all-front (λ b. fault_of b ≡ None) front back are.1)

back-of : (front back : List Batch) → AreVersionsInIdOrder (front ++ back) → AreVersionsInIdOrder back
back-of front back are = (order-back (λ one two. one.key.version ≡ two.key.version → IdsGoOn one two) front back are.0, all-back (λ b. fault_of b ≡ None) front back are.1)

-- the ids of one version rise
one-version : (version : ℕ) (batches : List Batch) → AllByRecursion (λ b. b.key.version ≡ version) batches → InOrder (λ one two. one.key.version ≡ two.key.version → IdsGoOn one two) batches
    → InOrder IdsGoOn batches
one-version version [] own order = tt
one-version version (b ∷ batches) own order = (each batches own.1 order.0, one-version version batches own.1 order.1)
  where
    each : (l : List Batch) → AllByRecursion (λ x. x.key.version ≡ version) l → AllByRecursion (λ x. b.key.version ≡ x.key.version → IdsGoOn b x) l → AllByRecursion (IdsGoOn b) l
    each [] mine all = tt
    each (x ∷ l) mine all = (all.0 (own.0 ∙ sym mine.0), each l mine.1 all.1)

module _ (version : ℕ) where
  -- the segment of the version
  pub segment-ids : (segments : List Segment) (place : ℕ) (s : Segment) → AreSegments segments → AreVersionsInIdOrder (flat segments) → Hits (against version) segments place → s ≡ get_or segments place s
      → AreInIdOrder s.chain
  segment-ids [] place s are ids h at = absurd h
  segment-ids (x ∷ segments) zero s are ids h at =
      subst (λ (t : Segment). AreInIdOrder t.chain) (sym at)
      (let front = front-of x.chain (flat segments) ids in (one-version x.version x.chain are.1.0.own front.0, front.1))
  segment-ids (x ∷ segments) (suc place) s are ids h at = segment-ids segments place s (are.0.1, are.1.1) (back-of x.chain (flat segments) ids) h.1 at

  module _ (id : ℕ) where
    -- segments of greater versions have no such event
    above-none : (segments : List Segment) → AllByRecursion IsSegment segments → AllByRecursion (λ b. fault_of b ≡ None) (flat segments) → AllByRecursion (λ s. version < s.version) segments
        → event_at version id (flat segments) ≡ None
    above-none [] are ok above = refl
    above-none (s ∷ segments) are ok above =
        event-join version id s.chain (flat segments)
        ∙ ap (λ o. option_or o (event_at version id (flat segments))) (other-batches version id s.version s.chain (all-front (λ b. fault_of b ≡ None) s.chain (flat segments) ok) are.0.own (inr above.0))
        ∙ above-none segments are.1 (all-back (λ b. fault_of b ≡ None) s.chain (flat segments) ok) above.1

    or-none : (o : Option Event) → option_or o None ≡ o
    or-none None = refl
    or-none (Some e) = refl

    -- what is found among all is found in the segment of the version
    pub segment-event : (segments : List Segment) (place : ℕ) (s : Segment) → AreSegments segments → AreVersionsInIdOrder (flat segments) → Hits (against version) segments place → s ≡ get_or segments place s
        → event_at version id (flat segments) ≡ event_of id (history_of s.chain)
    segment-event [] place s are ids h at = absurd h
    segment-event (x ∷ segments) zero s are ids h at =
        let own = cmp-equal x.version version h in
        event-join version id x.chain (flat segments)
        ∙ ap (option_or (event_at version id x.chain)) (above-none segments are.1.1 (back-of x.chain (flat segments) ids).1 (all_follow (λ (t : Segment). x.version < t.version) (λ t. version < t.version) segments (λ t l. omega (arith, own, l)) are.0.0))
        ∙ or-none (event_at version id x.chain)
        ∙ own-batches version id x.version x.chain (front-of x.chain (flat segments) ids).1 are.1.0.own own
        ∙ ap (λ (t : Segment). event_of id (history_of t.chain)) (sym at)
    segment-event (x ∷ segments) (suc place) s are ids h at =
        event-join version id x.chain (flat segments)
        ∙ ap (λ o. option_or o (event_at version id (flat segments))) (other-batches version id x.version x.chain (front-of x.chain (flat segments) ids).1 are.1.0.own (inl (cmp-less x.version version h.0)))
        ∙ segment-event segments place s (are.0.1, are.1.1) (back-of x.chain (flat segments) ids) h.1 at

    -- and where there is no such segment, none is found
    pub no-segment : (segments : List Segment) (place : ℕ) → AreSegments segments → AreVersionsInIdOrder (flat segments) → Parts (against version) segments place → event_at version id (flat segments) ≡ None
    no-segment segments zero are ids h =
        above-none segments are.1 ids.1 (all_follow (λ (s : Segment). against version s ≡ Greater) (λ s. version < s.version) segments (λ s e. cmp-greater s.version version e) h)
    no-segment [] (suc place) are ids h = absurd h
    no-segment (x ∷ segments) (suc place) are ids h =
        event-join version id x.chain (flat segments)
        ∙ ap (λ o. option_or o (event_at version id (flat segments))) (other-batches version id x.version x.chain (front-of x.chain (flat segments) ids).1 are.1.0.own (inl (cmp-less x.version version h.0)))
        ∙ no-segment segments place (are.0.1, are.1.1) (back-of x.chain (flat segments) ids) h.1
