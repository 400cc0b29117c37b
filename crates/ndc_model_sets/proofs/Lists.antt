-- What stands in lists.
use Rattle.std.proofs.Common.{◌≡◌, Bool, true, false, List, [], ◌∷◌, ◌⊎◌, inl, inr, Option, Some, None, refl, sym, ◌∙◌, subst, ap, true≢false, cond, ◌++◌}
use Rattle.std.specs.Prelude.{◌||◌, map, find}
use Rattle.std.proofs.lemmas.Bool.{and_parts, and_from}
use Rattle.std.specs.List.{AllByRecursion, cons_option, filter, filter_map, list_all, list_any}

-- x is one of the items
abbrev pub Among : {X : Type 0} → X → List X → Type 0
Among x [] = ⊥
Among x (y ∷ ys) = (x ≡ y) ⊎ Among x ys

-- what holds of all holds of each
pub all-among : {X : Type 0} (P : X → Type 0) (xs : List X) (x : X) → AllByRecursion P xs → Among x xs → P x
all-among P [] x all h = absurd h
all-among P (y ∷ ys) x all (inl e) = subst P (sym e) all.0
all-among P (y ∷ ys) x all (inr h) = all-among P ys x all.1 h

-- what holds of each holds of all
pub all-from : {X : Type 0} (P : X → Type 0) (xs : List X) → ((x : X) → Among x xs → P x) → AllByRecursion P xs
all-from P [] each = tt
all-from P (y ∷ ys) each = (each y (inl refl), all-from P ys (λ x h. each x (inr h)))

pub among-map : {X Y : Type 0} (f : X → Y) (xs : List X) (x : X) → Among x xs → Among (f x) (map f xs)
among-map f [] x h = absurd h
among-map f (y ∷ ys) x (inl e) = inl (ap f e)
among-map f (y ∷ ys) x (inr h) = inr (among-map f ys x h)

pub map-among : {X Y : Type 0} (f : X → Y) (xs : List X) (y : Y) → Among y (map f xs) → (x : X) × Among x xs × (y ≡ f x)
map-among f [] y h = absurd h
map-among f (z ∷ zs) y (inl e) = (z, inl refl, e)
map-among f (z ∷ zs) y (inr h) = let r = map-among f zs y h in (r.0, inr r.1, r.2)

-- a filter, by whether it keeps the first
pub filter-cases : {X : Type 0} (P : List X → Type 0) (p : X → Bool) (x : X) (xs : List X) →
    (p x ≡ true → P (x ∷ filter p xs)) → (p x ≡ false → P (filter p xs)) → P (filter p (x ∷ xs))
filter-cases P p x xs kept dropped = by (p x) refl
  where
    by : (t : Bool) → p x ≡ t → P (cond t (x ∷ filter p xs) (filter p xs))
    by true e = kept e
    by false e = dropped e

pub among-filter : {X : Type 0} (p : X → Bool) (xs : List X) (x : X) → p x ≡ true → Among x xs → Among x (filter p xs)
among-filter p [] x e h = absurd h
among-filter p (y ∷ ys) x e (inl same) =
    filter-cases (Among x) p y ys (λ _. inl same) (λ no. absurd (true≢false (sym e ∙ ap p same ∙ no)))
among-filter p (y ∷ ys) x e (inr h) =
    let rest : Among x (filter p ys) = among-filter p ys x e h in
    filter-cases (Among x) p y ys (λ _. inr rest) (λ _. rest)

-- what a filter keeps passes, and was there
pub filter-among : {X : Type 0} (p : X → Bool) (xs : List X) (x : X) → Among x (filter p xs) → (p x ≡ true) × Among x xs
filter-among p [] x = λ h. absurd h
filter-among p (y ∷ ys) x =
    filter-cases (λ l. Among x l → (p x ≡ true) × Among x (y ∷ ys)) p y ys
    (λ e h. by (filter-among p ys x) e h)
    (λ _ h. let r = filter-among p ys x h in (r.0, inr r.1))
  where
    by : (Among x (filter p ys) → (p x ≡ true) × Among x ys) → p y ≡ true → (x ≡ y) ⊎ Among x (filter p ys) → (p x ≡ true) × Among x (y ∷ ys)
    by rest e (inl same) = (ap p same ∙ e, inl same)
    by rest e (inr h) = let r = rest h in (r.0, inr r.1)

-- what a function gives of an item is among what it gives of all
pub among-filter_map : {X Y : Type 0} (f : X → Option Y) (xs : List X) (x : X) (y : Y) → f x ≡ Some y → Among x xs → Among y (filter_map f xs)
among-filter_map f [] x y e h = absurd h
among-filter_map f (z ∷ zs) x y e (inl same) = rw (ap f (sym same) ∙ e) (inl refl)
among-filter_map {Y = Y} f (z ∷ zs) x y e (inr h) = by (f z) (among-filter_map f zs x y e h)
  where
    by : (o : Option Y) → Among y (filter_map f zs) → Among y (cons_option o (filter_map f zs))
    by None k = k
    by (Some w) k = inr k

-- what it gives of all is what it gives of one of them
pub filter_map-among : {X Y : Type 0} (f : X → Option Y) (xs : List X) (y : Y) → Among y (filter_map f xs) → (x : X) × Among x xs × (f x ≡ Some y)
filter_map-among f [] y = λ h. absurd h
filter_map-among {X = X} {Y = Y} f (z ∷ zs) y = by (f z) refl (filter_map-among f zs y)
  where
    by : (o : Option Y) → f z ≡ o → (Among y (filter_map f zs) → (x : X) × Among x zs × (f x ≡ Some y)) → Among y (cons_option o (filter_map f zs))
        → (x : X) × Among x (z ∷ zs) × (f x ≡ Some y)
    by None e rest h = let r = rest h in (r.0, inr r.1, r.2)
    by (Some w) e rest (inl same) = (z, inl refl, e ∙ ap Some (sym same))
    by (Some w) e rest (inr h) = let r = rest h in (r.0, inr r.1, r.2)

-- a test of all, by a test of each
pub list_all-each : {X : Type 0} (p : X → Bool) (xs : List X) → ((x : X) → Among x xs → p x ≡ true) → list_all p xs ≡ true
list_all-each p [] each = refl
list_all-each p (y ∷ ys) each = and_from (p y) (list_all p ys) (each y (inl refl)) (list_all-each p ys (λ x h. each x (inr h)))

pub each-list_all : {X : Type 0} (p : X → Bool) (xs : List X) (x : X) → list_all p xs ≡ true → Among x xs → p x ≡ true
each-list_all p [] x all h = absurd h
each-list_all p (y ∷ ys) x all (inl e) = ap p e ∙ (and_parts (p y) (list_all p ys) all).0
each-list_all p (y ∷ ys) x all (inr h) = each-list_all p ys x (and_parts (p y) (list_all p ys) all).1 h

-- no item passes where none does
pub list_any-none : {X : Type 0} (p : X → Bool) (xs : List X) → ((x : X) → Among x xs → p x ≡ false) → list_any p xs ≡ false
list_any-none p [] none = refl
list_any-none p (y ∷ ys) none = rw (none y (inl refl), list_any-none p ys (λ x h. none x (inr h))) refl

pub list_any-one : {X : Type 0} (p : X → Bool) (xs : List X) (x : X) → Among x xs → p x ≡ true → list_any p xs ≡ true
list_any-one p [] x h e = absurd h
list_any-one p (y ∷ ys) x (inl same) e = rw (ap p (sym same) ∙ e) refl
list_any-one p (y ∷ ys) x (inr h) e = rw (list_any-one p ys x h e) (or_true (p y))
  where
    or_true : (t : Bool) → (t || true) ≡ true
    or_true true = refl
    or_true false = refl

-- what is found is one of the items
pub find-among : {X : Type 0} (p : X → Bool) (xs : List X) (x : X) → find p xs ≡ Some x → Among x xs
find-among p [] x = λ h. absurd (cc)
find-among p (y ∷ ys) x = by (p y) (find-among p ys x)
  where
    by : (t : Bool) → (find p ys ≡ Some x → Among x ys) → cond t (Some y) (find p ys) ≡ Some x → Among x (y ∷ ys)
    by true rest h = inl (cc)
    by false rest h = inr (rest h)

-- the only item that passes is found
pub find-only : {X : Type 0} (p : X → Bool) (xs : List X) (m : X) → p m ≡ true → Among m xs → ((x : X) → Among x xs → p x ≡ true → x ≡ m) → find p xs ≡ Some m
find-only p [] m e h only = absurd h
find-only p (y ∷ ys) m e h only = by (p y) refl h (λ k. find-only p ys m e k (λ x h. only x (inr h)))
  where
    by : (t : Bool) → p y ≡ t → (m ≡ y) ⊎ Among m ys → (Among m ys → find p ys ≡ Some m) → cond t (Some y) (find p ys) ≡ Some m
    by true f k rest = ap Some (only y (inl refl) f)
    by false f (inl same) rest = absurd (true≢false (sym e ∙ ap p same ∙ f))
    by false f (inr k) rest = rest k

-- what holds of each of two lists holds of each of both, and the other way round
pub all-join : {X : Type 0} (P : X → Type 0) (xs ys : List X) → AllByRecursion P xs → AllByRecursion P ys → AllByRecursion P (xs ++ ys)
all-join P [] ys all other = other
all-join P (x ∷ xs) ys all other = (all.0, all-join P xs ys all.1 other)
