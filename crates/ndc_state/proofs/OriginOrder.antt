-- Origins that rise: what a bisection finds among them.
use Rattle.std.proofs.Common.{◌≡◌, ℕ, zero, suc, ◌<◌, ◌-◌, true, false, ◌&&◌, ◌==◌, List, [], ◌∷◌, ◌++◌, length, take, get_or, slice_get, Option, None, Some, if◌then◌else◌, ◌+◌, Result, Ok, Err, IfOk, IfErr, refl, sym, ◌∙◌, ap, subst, arith}
use Rattle.std.specs.Prelude.{insert}
use Rattle.std.proofs.lemmas.List.{take_more, length-take}
use Rattle.std.proofs.lemmas.Option.{get_or_from_slice_get}
use Rattle.indexmap.specs.IndexSet.{IndexSet}
use Rattle.std.specs.Cmp.{IsTotalOrder, on_total, then_total, nat_cmp_total}
use Rattle.std.specs.List.Sorted.{IsSearchInRange, IsBinarySearchResult}
use Rattle.std.specs.Ordering.{nat_cmp, ordering_then, ordering_reverse, is_eq, is_lt}
use Rattle.std.specs.declared.cmp.Ordering.{Ordering}
use Rattle.std.specs.declared.cmp.Ordering.TheVariants.{Less, Equal, Greater}
use Rattle.std.proofs.lemmas.Bool.Decides.{nat_tests}
use Rattle.ndc_event.specs.Sorted.{InOrder, Hits, Parts}
use Rattle.ndc_event.specs.declared.key.Origin.{Origin}
use Rattle.ndc_event.proofs.SortedLemmas.{searched, part-end, order-insert, order-take, all_at, total-less, total-rises}
use Rattle.ndc_state.specs.OriginList.{origin_cmp, origin_before, IsListed, IsUnlisted, AreMarked}
use Rattle.ndc_state.specs.Origins.{same_origin, is_among, with_origin}

-- origins are in a total order
origin_total : IsTotalOrder origin_cmp
origin_total = then_total (on_total (λ (o : Origin). o.run.value) nat_cmp_total) (then_total (on_total (λ (o : Origin). o.event) nat_cmp_total) (on_total (λ (o : Origin). o.version) nat_cmp_total))

numbers-eq : (a b c x y z : ℕ) → is_eq (ordering_then (nat_cmp x a) (ordering_then (nat_cmp y b) (nat_cmp z c))) ≡ ((a == x) && (b == y) && (c == z))
numbers-eq a b c x y z = grind (arith, nat_tests)

-- origins that compare as equal are one
same-cmp : (origin other : Origin) (o : Ordering) → origin_cmp other origin ≡ o → same_origin origin other ≡ is_eq o
same-cmp origin other o h = sym (numbers-eq origin.run.value origin.event origin.version other.run.value other.event other.version) ∙ ap is_eq h

module _ (origin : Origin) where
  abbrev c : Origin → Ordering
  c other = origin_cmp other origin

  hit-among : (origins : List Origin) (place : ℕ) → Hits c origins place → is_among origin origins ≡ true
  hit-among [] place h = absurd h
  hit-among (o ∷ origins) zero h = rw (same-cmp origin o Equal h) refl
  hit-among (o ∷ origins) (suc place) h = rw (same-cmp origin o Less h.0) (hit-among origins place h.1)

  part-among : (origins : List Origin) (place : ℕ) → Parts c origins place → is_among origin origins ≡ false
  part-among [] zero h = refl
  part-among [] (suc place) h = absurd h
  part-among (o ∷ origins) zero h = rw (same-cmp origin o Greater h.0) (part-among origins zero h.1)
  part-among (o ∷ origins) (suc place) h = rw (same-cmp origin o Less h.0) (part-among origins place h.1)

  at-end : (origins : List Origin) → insert origins (length origins) origin ≡ origins ++ origin ∷ []
  at-end [] = refl
  at-end (o ∷ origins) = ap (λ l. o ∷ l) (at-end origins)

  unlisted : (origins : List Origin) (place : ℕ) → InOrder origin_before origins → Parts c origins place → IsUnlisted origins origin place
  unlisted origins place order h = record {
    absent = part-among origins place h;
    last = λ e. by place e h;
  }
    where
      by : (place : ℕ) → place ≡ length origins → Parts c origins place → InOrder origin_before (origins ++ origin ∷ [])
      by place e h =
          subst (InOrder origin_before) (ap (λ n. insert origins n origin) e ∙ at-end origins)
          (order-insert origin_before c origin (λ o l. l) (λ o g. turned o g) origins place h order)
        where
          turned : (o : Origin) → origin_cmp o origin ≡ Greater → origin_before origin o
          turned o g = origin_total.antisymm origin o ∙ ap ordering_reverse g

  -- where the last origin comes before it, it is not listed and goes last
  pub end-unlisted : (origins : List Origin) → InOrder origin_before origins → ((d : Origin) → origin_cmp (get_or origins (length origins - 1) d) origin ≡ Less)
      → IsUnlisted origins origin (length origins)
  end-unlisted origins order last =
      unlisted origins (length origins) order (part-end origin_before c (total-rises origin_total origin) (total-less origin_total origin) origins order last)

  -- what a bisection ends with
  pub origin-place : (origins : List Origin) → InOrder origin_before origins → (r : Result ℕ ℕ) → IsSearchInRange r (length origins) → IsBinarySearchResult c origins r
      → record { found : IfOk r (IsListed origins origin); absent : IfErr r (IsUnlisted origins origin) }
  origin-place origins order r within ends = by r (searched origin_before c (total-rises origin_total origin) (total-less origin_total origin) origins order r within ends)
    where
      by : (r : Result ℕ ℕ) → record { found : IfOk r (Hits c origins); absent : IfErr r (Parts c origins) }
          → record { found : IfOk r (IsListed origins origin); absent : IfErr r (IsUnlisted origins origin) }
      by (Ok place) at = record { found = record { among = hit-among origins place at.found }; absent = tt }
      by (Err place) at = record { found = tt; absent = unlisted origins place order at.absent }

-- what compares as less is less
pub Less-from : (o : Ordering) → is_lt o ≡ true → o ≡ Less
Less-from Less h = refl
Less-from Equal h = absurd (cc)
Less-from Greater h = absurd (cc)

-- the origin at a place compares as what was read there
pub got-cmp : (origin : Origin) (origins : List Origin) (i : ℕ) (d x : Origin) → Some x ≡ slice_get origins i → {o : Ordering} → o ≡ Less → o ≡ origin_cmp x origin → origin_cmp (get_or origins i d) origin ≡ Less
got-cmp origin origins i d x e less is = ap (λ other. origin_cmp other origin) (get_or_from_slice_get origins i x d (sym e)) ∙ sym is ∙ less

-- an origin is none of those before it
pub unlisted-before : (origins : List Origin) (i : ℕ) (d : Origin) → InOrder origin_before origins → i < length origins → is_among (get_or origins i d) (take i origins) ≡ false
unlisted-before [] i d order l = absurd (omega (arith, l))
unlisted-before (o ∷ origins) zero d order l = refl
unlisted-before (o ∷ origins) (suc i) d order l =
    let before : origin_cmp o (get_or origins i d) ≡ Less = all_at (origin_before o) origins i d order.0 (omega (arith, l)) in
    rw (same-cmp (get_or origins i d) o Less before) (unlisted-before origins i d order.1 (omega (arith, l)))

-- the next origin of a list that rises goes last into the index of those before it
pub indexed-more : (origins : List Origin) (i : ℕ) (d : Origin) (keys new : List Origin) → InOrder origin_before origins → i < length origins → keys ≡ take i origins
    → new ≡ with_origin (get_or origins i d) keys → new ≡ take (i + 1) origins
indexed-more origins i d keys new order l e put =
    let x : Origin = get_or origins i d in
    let absent : is_among x keys ≡ false = ap (is_among x) e ∙ unlisted-before origins i d order l in
    put ∙ ap (λ b. if b then keys else keys ++ x ∷ []) absent ∙ ap (λ ks. ks ++ x ∷ []) e ∙ sym (take_more origins i d l)

module _ {S : Type 0} where
  -- the first origins up to the mark are marked
  pub marked-take : (indexed : Option (IndexSet Origin S)) (count : ℕ) (rising new : List Origin) → indexed ≡ None → AreMarked rising indexed count → new ≡ take count rising → AreMarked new indexed count
  marked-take None count rising new none marked e = record {
    found = subst (InOrder origin_before) (sym e) (order-take origin_before count rising marked.found);
    within = let n : length new ≡ length (take count rising) = ap length e in omega (arith, n, length-take count rising, marked.within);
  }
  marked-take (Some index) count rising new none marked e = absurd (cc)
