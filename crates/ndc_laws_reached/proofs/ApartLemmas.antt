-- Items of a list that differ, and still do where new ones stand among them.
use Rattle.std.proofs.Common.{◌≡◌, ◌≢◌, suc, List, [], ◌∷◌, ◌++◌, map, ◌⊎◌, inl, inr, refl, sym, ◌∙◌, subst, ap, arith, AllPairs}
use Rattle.std.specs.List.{flat_map}
use Rattle.std.proofs.lemmas.List.{map-append}
use Rattle.std.proofs.lemmas.List.Elements.{All-from_recursion}
use Rattle.std.proofs.lemmas.List.Kept.{AllPairs-cons}
use Rattle.ndc_laws_cells.proofs.Lists.{among-is}
use Rattle.ndc_model_sets.proofs.ForkLemmas.{among-cases, among-left, among-right}
use Rattle.ndc_model_sets.proofs.Lists.{Among, all-from}
use Rattle.ndc_laws_cells.proofs.OrderLemmas.{IsMore}

-- items that differ, by the first and the rest
abbrev pub Differ : {X : Type 0} → List X → Type 0
Differ [] = Unit {0}
Differ {X} (x ∷ xs) = ((y : X) → Among y xs → x ≢ y) × Differ xs

pub differ-from : {X : Type 0} (xs : List X) → AllPairs (λ one two. one ≢ two) xs → Differ xs
differ-from [] pairs = tt
differ-from {X = X} (x ∷ xs) pairs = (first, differ-from xs (λ i j d l m. pairs (suc i) (suc j) d (omega (arith, l)) (omega (arith, m))))
  where
    first : (y : X) → Among y xs → x ≢ y
    first y h same =
        let at = among-is xs y h in
        pairs 0 (suc at.0) y (omega arith) (let l = at.1.0 in omega (arith, l)) (same ∙ at.1.1)

pub pairs-from : {X : Type 0} (xs : List X) → Differ xs → AllPairs (λ one two. one ≢ two) xs
pairs-from [] differ = λ i j d l m. absurd (omega (arith, m))
pairs-from (x ∷ xs) differ = AllPairs-cons (λ one two. one ≢ two) x xs (All-from_recursion (λ y. x ≢ y) xs (all-from (λ y. x ≢ y) xs differ.0)) (pairs-from xs differ.1)

-- where lists are apart, one after the other differs
differ-append : {X : Type 0} (xs ys : List X) → Differ xs → Differ ys → ((x : X) → Among x xs → Among x ys → ⊥) → Differ (xs ++ ys)
differ-append [] ys one two apart = two
differ-append {X = X} (x ∷ xs) ys one two apart = (first, differ-append xs ys one.1 two (λ y h k. apart y (inr h) k))
  where
    first : (y : X) → Among y (xs ++ ys) → x ≢ y
    first y h = by (among-cases y xs ys h)
      where
        by : Among y xs ⊎ Among y ys → x ≢ y
        by (inl k) = one.0 y k
        by (inr k) = λ same. apart x (inl refl) (subst (λ z. Among z ys) (sym same) k)

differ-front : {X : Type 0} (xs ys : List X) → Differ (xs ++ ys) → Differ xs
differ-front [] ys d = tt
differ-front (x ∷ xs) ys d = ((λ y h. d.0 y (among-left y xs ys h)), differ-front xs ys d.1)

differ-back : {X : Type 0} (xs ys : List X) → Differ (xs ++ ys) → Differ ys
differ-back [] ys d = d
differ-back (x ∷ xs) ys d = differ-back xs ys d.1

differ-cross : {X : Type 0} (xs ys : List X) → Differ (xs ++ ys) → (x : X) → Among x xs → Among x ys → ⊥
differ-cross [] ys d x h k = h
differ-cross (z ∷ xs) ys d x (inl same) k = d.0 x (among-right x xs ys k) (sym same)
differ-cross (z ∷ xs) ys d x (inr h) k = differ-cross xs ys d.1 x h k

-- new ones among them
pub differ-more : {X : Type 0} (front extra back : List X) → Differ (front ++ back) → Differ extra → ((x : X) → Among x extra → Among x (front ++ back) → ⊥) → Differ (front ++ (extra ++ back))
differ-more {X = X} front extra back old new apart =
    differ-append front (extra ++ back) (differ-front front back old)
    (differ-append extra back new (differ-back front back old) (λ x h k. apart x h (among-right x front back k)))
    (λ x h k. by x h (among-cases x extra back k))
  where
    by : (x : X) → Among x front → Among x extra ⊎ Among x back → ⊥
    by x h (inl k) = apart x k (among-left x front back h)
    by x h (inr k) = differ-cross front back old x h k

-- a list that has more, read item by item
pub more-mapped : {X Y : Type 0} (f : X → Y) (xs extra ys : List X) → IsMore xs extra ys → IsMore (map f xs) (map f extra) (map f ys)
more-mapped f xs extra ys m = record {
  front = map f m.front;
  back = map f m.back;
  before = ap (map f) m.before ∙ map-append f m.front m.back;
  after = ap (map f) m.after ∙ map-append f m.front (extra ++ m.back) ∙ ap (λ l. map f m.front ++ l) (map-append f extra m.back);
}

pub map-flat : {X Y Z : Type 0} (f : Y → Z) (g : X → List Y) (xs : List X) → flat_map (λ x. map f (g x)) xs ≡ map f (flat_map g xs)
map-flat f g [] = refl
map-flat f g (x ∷ xs) = ap (λ l. map f (g x) ++ l) (map-flat f g xs) ∙ sym (map-append f (g x) (flat_map g xs))
