-- Sums of parts, and tests that all items of a list are one.
use Rattle.std.proofs.Common.{◌≡◌, ℕ, suc, zero, ◌+◌, ◌<◌, ◌≤◌, Bool, true, ◌&&◌, List, [], ◌∷◌, ◌++◌, length, map, take, slice_index_or, inl, inr, refl, sym, ◌∙◌, ap, arith}
use Rattle.std.specs.Prelude.{sum_by}
use Rattle.std.specs.Bool.{Decides}
use Rattle.std.specs.List.{AllByRecursion, flat_map, fold, list_all}
use Rattle.std.proofs.lemmas.Bool.{and_parts}
use Rattle.std.proofs.lemmas.List.{map-append, take_all, take_more}
use Rattle.std.proofs.lemmas.List.Sums.{sum_by-append, sum_by-cons}
use Rattle.ndc_domain.specs.declared.clusters.ClusterNo.{ClusterNo}
use Rattle.ndc_model_sets.proofs.Lists.{Among, each-list_all, list_all-each}
use Rattle.ndc_script_types.specs.Below.{clusters_below}
use Rattle.ndc_world_queries.specs.declared.parts.Totals.{Totals}
use Rattle.ndc_world_queries.specs.Summaries.{added}

-- a number of parts together is the sum of theirs
pub fold-sum : (number : Totals → ℕ) → ((one two : Totals) → number (added one two) ≡ number one + number two) → (parts : List Totals) (start : Totals) → number (fold added start parts) ≡ number start + sum_by number parts
fold-sum number adds [] start = omega arith
fold-sum number adds (part ∷ parts) start = omega (arith, fold-sum number adds parts (added start part), adds start part, sum_by-cons number part parts)

pub sum-mapped : {X Y : Type 0} (number : Y → ℕ) (f : X → Y) (xs : List X) → sum_by number (map f xs) ≡ sum_by (λ x. number (f x)) xs
sum-mapped number f [] = refl
sum-mapped number f (x ∷ xs) = omega (arith, sum_by-cons number (f x) (map f xs), sum_by-cons (λ y. number (f y)) x xs, sum-mapped number f xs)

pub sum-same : {X : Type 0} (one two : X → ℕ) (xs : List X) → ((x : X) → Among x xs → one x ≡ two x) → sum_by one xs ≡ sum_by two xs
sum-same one two [] same = refl
sum-same one two (x ∷ xs) same = omega (arith, sum_by-cons one x xs, sum_by-cons two x xs, same x (inl refl), sum-same one two xs (λ y h. same y (inr h)))

pub sum-flat : {X Y : Type 0} (number : Y → ℕ) (f : X → List Y) (xs : List X) → sum_by number (flat_map f xs) ≡ sum_by (λ x. sum_by number (f x)) xs
sum-flat number f [] = refl
sum-flat number f (x ∷ xs) = omega (arith, sum_by-append number (f x) (flat_map f xs), sum_by-cons (λ y. sum_by number (f y)) x xs, sum-flat number f xs)

-- parts together are the same where each is
pub fold-same : (parts : List Totals) (start : Totals) → start.same ≡ true → AllByRecursion (λ (part : Totals). part.same ≡ true) parts → (fold added start parts).same ≡ true
fold-same [] start is all = is
fold-same (part ∷ parts) start is all = fold-same parts (added start part) (ap (λ t. t && part.same) is ∙ all.0) all.1

pub same-parts : (parts : List Totals) (start : Totals) → (fold added start parts).same ≡ true → (start.same ≡ true) × AllByRecursion (λ (part : Totals). part.same ≡ true) parts
same-parts [] start is = (is, tt)
same-parts (part ∷ parts) start is =
    let rest = same-parts parts (added start part) is in
    let both = and_parts start.same part.same rest.0 in
    (both.0, (both.1, rest.1))

-- a first item that all others pass a test with, which decides whether items are one
module _ {X : Type 0} (test : X → X → Bool) (decides : (one two : X) → Decides (test one two) (one ≡ two)) (first : X) (others : List X) where
  pub pass-one : list_all (test first) others ≡ true → (x y : X) → Among x (first ∷ others) → Among y (first ∷ others) → x ≡ y
  pass-one pass x y here there = sym (with_first x here) ∙ with_first y there
    where
      with_first : (z : X) → Among z (first ∷ others) → first ≡ z
      with_first z (inl same) = sym same
      with_first z (inr among) = (decides first z).0 (each-list_all (test first) others z pass among)

  pub one-pass : ((x y : X) → Among x (first ∷ others) → Among y (first ∷ others) → x ≡ y) → list_all (test first) others ≡ true
  one-pass same = list_all-each (test first) others (λ z among. (decides first z).1 (same first z (inl refl) (inr among)))

-- the items at the numbers of clusters are the list
front-items : {X : Type 0} (xs : List X) (d : X) (n : ℕ) → n ≤ length xs → map (λ (cluster : ClusterNo). slice_index_or xs cluster.number d) (clusters_below n) ≡ take n xs
front-items xs d zero within = refl
front-items xs d (suc n) within =
    let next : n + 1 ≡ suc n = omega arith in
    map-append (λ (cluster : ClusterNo). slice_index_or xs cluster.number d) (clusters_below n) (record { number = n } ∷ [])
    ∙ ap (λ (front : List _). front ++ slice_index_or xs n d ∷ []) (front-items xs d n (omega (arith, within)))
    ∙ sym (take_more xs n d (omega (arith, within))) ∙ ap (λ k. take k xs) next

pub all-items : {X : Type 0} (xs : List X) (d : X) (n : ℕ) → length xs ≡ n → map (λ (cluster : ClusterNo). slice_index_or xs cluster.number d) (clusters_below n) ≡ xs
all-items xs d n same = front-items xs d n (omega (arith, same)) ∙ take_all n xs (omega (arith, same))

-- items by their places
pub index-among : {X : Type 0} (xs : List X) (i : ℕ) (d : X) → i < length xs → Among (slice_index_or xs i d) xs
index-among [] i d below = absurd (omega (arith, below))
index-among (x ∷ xs) zero d below = inl refl
index-among (x ∷ xs) (suc i) d below = inr (index-among xs i d (omega (arith, below)))

pub among-index : {X : Type 0} (xs : List X) (x d : X) → Among x xs → (i : ℕ) × (i < length xs) × (slice_index_or xs i d ≡ x)
among-index [] x d none = absurd none
among-index (y ∷ xs) x d (inl same) = (0, omega arith, sym same)
among-index (y ∷ xs) x d (inr among) = let at = among-index xs x d among in (suc at.0, omega (arith, at.1), at.2)

-- numbers that are all none
pub sum-none : {X : Type 0} (number : X → ℕ) (xs : List X) → ((x : X) → number x ≡ 0) → sum_by number xs ≡ 0
sum-none number [] none = refl
sum-none number (x ∷ xs) none = omega (arith, sum_by-cons number x xs, none x, sum-none number xs none)
