-- What holds of all items of a list.
use Rattle.std.proofs.Common.{◌≡◌, ℕ, zero, suc, ◌+◌, ◌<◌, ◌≤◌, Bool, true, false, cond, if◌then◌else◌, List, [], ◌∷◌, ◌++◌, length, map, take, drop, remove, slice_get, slice_index_or, slice_set, Some, inl, inr, refl, sym, ◌∙◌, subst, ap, arith, min, Option, None, true≢false, ◌||◌}
use Rattle.std.specs.List.{AllByRecursion, IsAmong, filter, flat_map, fold, prefix_len, reduce, All, list_any}
use Rattle.std.specs.Prelude.{find, unwrap_or, IsSomeAnd}
use Rattle.std.proofs.Math.Nat.{min-le_left, min-le_right}
pub use Rattle.ndc_laws_cells.proofs.Lists.{among-is, is-among}
use Rattle.ndc_laws_cells.proofs.Lists.{among-more}
use Rattle.ndc_model.specs.Moves.{map_from}
use Rattle.ndc_model.specs.World.{changed_first}
use Rattle.ndc_model_sets.proofs.Lists.{Among, filter-cases}

pub all-append : {X : Type 0} (P : X → Type 0) (xs ys : List X) → AllByRecursion P xs → AllByRecursion P ys → AllByRecursion P (xs ++ ys)
all-append P [] ys p q = q
all-append P (x ∷ xs) ys p q = (p.0, all-append P xs ys p.1 q)

pub all-map : {X Y : Type 0} (P : Y → Type 0) (f : X → Y) (xs : List X) → ((x : X) → P (f x)) → AllByRecursion P (map f xs)
all-map P f [] each = tt
all-map P f (x ∷ xs) each = (each x, all-map P f xs each)

pub all-flat : {X Y : Type 0} (P : Y → Type 0) (f : X → List Y) (xs : List X) → ((x : X) → Among x xs → AllByRecursion P (f x)) → AllByRecursion P (flat_map f xs)
all-flat P f [] each = tt
all-flat P f (x ∷ xs) each = all-append P (f x) (flat_map f xs) (each x (inl refl)) (all-flat P f xs (λ y among. each y (inr among)))

pub all-weaker : {X : Type 0} (P Q : X → Type 0) → ((x : X) → P x → Q x) → (xs : List X) → AllByRecursion P xs → AllByRecursion Q xs
all-weaker P Q weaker [] all = tt
all-weaker P Q weaker (x ∷ xs) all = (weaker x all.0, all-weaker P Q weaker xs all.1)

pub all-take : {X : Type 0} (P : X → Type 0) (n : ℕ) (xs : List X) → AllByRecursion P xs → AllByRecursion P (take n xs)
all-take P zero xs all = tt
all-take P (suc n) [] all = tt
all-take P (suc n) (x ∷ xs) all = (all.0, all-take P n xs all.1)

pub all-drop : {X : Type 0} (P : X → Type 0) (n : ℕ) (xs : List X) → AllByRecursion P xs → AllByRecursion P (drop n xs)
all-drop P zero xs all = all
all-drop P (suc n) [] all = tt
all-drop P (suc n) (x ∷ xs) all = all-drop P n xs all.1

pub all-filter : {X : Type 0} (P : X → Type 0) (p : X → Bool) (xs : List X) → AllByRecursion P xs → AllByRecursion P (filter p xs)
all-filter P p [] all = tt
all-filter P p (x ∷ xs) all = by (p x) (all-filter P p xs all.1)
  where
    by : (t : Bool) → AllByRecursion P (filter p xs) → AllByRecursion P (cond t (x ∷ filter p xs) (filter p xs))
    by true rest = (all.0, rest)
    by false rest = rest

pub all-remove : {X : Type 0} (P : X → Type 0) (xs : List X) (i : ℕ) → AllByRecursion P xs → AllByRecursion P (remove xs i)
all-remove P xs i all = all-append P (take i xs) (drop (suc i) xs) (all-take P i xs all) (all-drop P (suc i) xs all)

pub all-set : {X : Type 0} (P : X → Type 0) (xs : List X) (i : ℕ) (x : X) → P x → AllByRecursion P xs → AllByRecursion P (slice_set xs i x)
all-set P [] i x p all = tt
all-set P (y ∷ ys) zero x p all = (p, all.1)
all-set P (y ∷ ys) (suc i) x p all = (all.0, all-set P ys i x p all.1)

pub all-index : {X : Type 0} (P : X → Type 0) (xs : List X) (i : ℕ) (d : X) → P d → AllByRecursion P xs → P (slice_index_or xs i d)
all-index P [] i d p all = p
all-index P (x ∷ xs) zero d p all = all.0
all-index P (x ∷ xs) (suc i) d p all = all-index P xs i d p all.1

-- what holds of the items up to a place, and of so many after it
pub all-take-more : {X : Type 0} (P : X → Type 0) (n a b : ℕ) (xs : List X) → n ≡ a + b → AllByRecursion P (take a xs) → AllByRecursion P (take b (drop a xs)) → AllByRecursion P (take n xs)
all-take-more {X = X} P n zero b xs e front back = let same : b ≡ n = omega (arith, e) in subst (λ (m : ℕ). AllByRecursion P (take m xs)) same back
all-take-more P n (suc a) b [] e front back = all-take P n [] tt
all-take-more P zero (suc a) b (x ∷ xs) e front back = tt
all-take-more P (suc n) (suc a) b (x ∷ xs) e front back = (front.0, all-take-more P n a b xs (omega (arith, e)) front.1 back)

-- an item of a list whose items were all changed
pub map-at : {X Y : Type 0} (f : X → Y) (xs : List X) (i : ℕ) (d : X) (e : Y) → i < length xs → slice_index_or (map f xs) i e ≡ f (slice_index_or xs i d)
map-at f [] i d e below = absurd (omega (arith, below))
map-at f (x ∷ xs) zero d e below = refl
map-at f (x ∷ xs) (suc i) d e below = map-at f xs i d e (omega (arith, below))

pub length-mapped : {X Y : Type 0} (f : X → Y) (xs : List X) → length (map f xs) ≡ length xs
length-mapped f [] = refl
length-mapped f (x ∷ xs) = ap suc (length-mapped f xs)

-- what a filter keeps passes
pub filter-passes : {X : Type 0} (p : X → Bool) (xs : List X) → AllByRecursion (λ x. p x ≡ true) (filter p xs)
filter-passes p [] = tt
filter-passes p (x ∷ xs) = by (p x) refl (filter-passes p xs)
  where
    by : (t : Bool) → p x ≡ t → AllByRecursion (λ y. p y ≡ true) (filter p xs) → AllByRecursion (λ y. p y ≡ true) (cond t (x ∷ filter p xs) (filter p xs))
    by true passes rest = (passes, rest)
    by false fails rest = rest

-- the longest prefix that passes passes
pub prefix-passes : {X : Type 0} (p : X → Bool) (xs : List X) → AllByRecursion (λ x. p x ≡ true) (take (prefix_len p xs) xs)
prefix-passes p [] = tt
prefix-passes {X = X} p (x ∷ xs) = by (p x) refl (prefix-passes p xs)
  where
    by : (t : Bool) → p x ≡ t → AllByRecursion (λ y. p y ≡ true) (take (prefix_len p xs) xs)
        → AllByRecursion (λ y. p y ≡ true) (take (cond t (1 + prefix_len p xs) 0) (x ∷ xs))
    by true passes rest =
        let one : suc (prefix_len p xs) ≡ 1 + prefix_len p xs = omega arith in
        subst (λ (n : ℕ). AllByRecursion (λ (y : X). p y ≡ true) (take n (x ∷ xs))) one (passes, rest)
    by false fails rest = tt

-- each item of a list is one of its items
pub all-self : {X : Type 0} (xs : List X) → AllByRecursion (IsAmong xs) xs
all-self [] = tt
all-self (x ∷ xs) = ((zero, (omega arith, refl)), all-weaker (IsAmong xs) (IsAmong (x ∷ xs)) (among-more x xs) xs (all-self xs))

-- what is found at a place has what all have
pub all-got : {X : Type 0} (P : X → Type 0) (xs : List X) (i : ℕ) (x : X) → slice_get xs i ≡ Some x → AllByRecursion P xs → P x
all-got P [] i x e all = absurd (cc)
all-got P (y ∷ ys) zero x e all = let same : y ≡ x = cc in subst P same all.0
all-got P (y ∷ ys) (suc i) x e all = all-got P ys i x e all.1

-- a list changed item by item
pub map_from-at : {X Y : Type 0} (f : ℕ → X → Y) (from place : ℕ) (xs : List X) (i : ℕ) (d : X) (e : Y) → i < length xs → place ≡ from + i → slice_index_or (map_from f from xs) i e ≡ f place (slice_index_or xs i d)
map_from-at f from place [] i d e below at = absurd (omega (arith, below))
map_from-at f from place (x ∷ xs) zero d e below at = let same : place ≡ from = omega (arith, at) in ap (λ (n : ℕ). f n x) (sym same)
map_from-at f from place (x ∷ xs) (suc i) d e below at = map_from-at f (suc from) place xs i d e (omega (arith, below)) (omega (arith, at))

pub length-map_from : {X Y : Type 0} (f : ℕ → X → Y) (from : ℕ) (xs : List X) → length (map_from f from xs) ≡ length xs
length-map_from f from [] = refl
length-map_from f from (x ∷ xs) = ap suc (length-map_from f (suc from) xs)

-- the first item that passes, changed
pub all-changed : {X : Type 0} (P : X → Type 0) (test : X → Bool) (change : X → X) (xs : List X) → ((x : X) → find test xs ≡ Some x → P x → P (change x)) → AllByRecursion P xs → AllByRecursion P (changed_first test change xs)
all-changed P test change [] keeps all = tt
all-changed {X = X} P test change (x ∷ xs) keeps all = by (test x) refl (λ later. all-changed P test change xs later all.1)
  where
    by : (t : Bool) → test x ≡ t → (((y : X) → find test xs ≡ Some y → P y → P (change y)) → AllByRecursion P (changed_first test change xs))
        → AllByRecursion P (if t then change x ∷ xs else x ∷ changed_first test change xs)
    by true passes rest = (keeps x (ap (λ u. cond u (Some x) (find test xs)) passes) all.0, all.1)
    by false fails rest = (all.0, rest (λ y found. keeps y (ap (λ u. cond u (Some x) (find test xs)) fails ∙ found)))

pub map-changed : {X Y : Type 0} (f : X → Y) (test : X → Bool) (change : X → X) (xs : List X) → ((x : X) → f (change x) ≡ f x) → map f (changed_first test change xs) ≡ map f xs
map-changed f test change [] same = refl
map-changed f test change (x ∷ xs) same = by (test x) (map-changed f test change xs same)
  where
    by : (t : Bool) → map f (changed_first test change xs) ≡ map f xs → map f (if t then change x ∷ xs else x ∷ changed_first test change xs) ≡ map f (x ∷ xs)
    by true rest = ap (λ y. y ∷ map f xs) (same x)
    by false rest = ap (λ ys. f x ∷ ys) rest

pub map-alike : {X Y : Type 0} (f : X → Y) (change : X → X) (xs : List X) → ((x : X) → f (change x) ≡ f x) → map f (map change xs) ≡ map f xs
map-alike f change [] same = refl
map-alike f change (x ∷ xs) same = ap (λ y. y ∷ map f (map change xs)) (same x) ∙ ap (λ ys. f x ∷ ys) (map-alike f change xs same)

-- what each step keeps a fold keeps
pub fold-keeps : {A B : Type 0} (P : B → Type 0) (f : B → A → B) (xs : List A) → ((b : B) (x : A) → Among x xs → P b → P (f b x)) → (b : B) → P b → P (fold f b xs)
fold-keeps P f [] keeps b p = p
fold-keeps P f (x ∷ xs) keeps b p = fold-keeps P f xs (λ c y among. keeps c y (inr among)) (f b x) (keeps b x (inl refl) p)

-- the least of numbers is not above any of them
fold-min : (xs : List ℕ) (a : ℕ) → fold min a xs ≤ a
fold-min [] a = omega arith
fold-min (x ∷ xs) a = omega (arith, fold-min xs (min a x), min-le_left a x)

fold-min-each : (xs : List ℕ) (a x : ℕ) → Among x xs → fold min a xs ≤ x
fold-min-each [] a x none = absurd none
fold-min-each (y ∷ ys) a x (inl same) = omega (arith, fold-min ys (min a y), min-le_right a y, same)
fold-min-each (y ∷ ys) a x (inr among) = fold-min-each ys (min a y) x among

pub least-most : (xs : List ℕ) (x otherwise : ℕ) → Among x xs → unwrap_or (reduce min xs) otherwise ≤ x
least-most [] x otherwise none = absurd none
least-most (y ∷ ys) x otherwise (inl same) = omega (arith, fold-min ys y, same)
least-most (y ∷ ys) x otherwise (inr among) = fold-min-each ys y x among

-- what holds at each place holds of each item
pub all-listed : {X : Type 0} (P : X → Type 0) (xs : List X) → All P xs → AllByRecursion P xs
all-listed P [] all = tt
all-listed P (x ∷ xs) all = (all 0 x (omega arith), all-listed P xs (λ k d less. all (suc k) d (omega (arith, less))))

-- where some item passes, which
pub any-one : {X : Type 0} (p : X → Bool) (xs : List X) → list_any p xs ≡ true → (x : X) × Among x xs × (p x ≡ true)
any-one p [] h = absurd (true≢false (sym h))
any-one {X = X} p (y ∷ ys) h = by (p y) refl h (any-one p ys)
  where
    by : (t : Bool) → p y ≡ t → (t || list_any p ys) ≡ true → (list_any p ys ≡ true → (x : X) × Among x ys × (p x ≡ true)) → (x : X) × Among x (y ∷ ys) × (p x ≡ true)
    by true passes h rest = (y, inl refl, passes)
    by false fails h rest = let r = rest h in (r.0, inr r.1, r.2)

-- what is put twice is what was put last
pub set-twice : {X : Type 0} (xs : List X) (i : ℕ) (x y : X) → slice_set (slice_set xs i x) i y ≡ slice_set xs i y
set-twice [] i x y = refl
set-twice (z ∷ zs) zero x y = refl
set-twice (z ∷ zs) (suc i) x y = ap (λ l. z ∷ l) (set-twice zs i x y)

-- a list has as many items after a putting as before
pub set-length : {X : Type 0} (xs : List X) (i : ℕ) (x : X) → length (slice_set xs i x) ≡ length xs
set-length [] i x = refl
set-length (y ∷ ys) zero x = refl
set-length (y ∷ ys) (suc i) x = ap suc (set-length ys i x)

-- an item that is put stands at its place
pub set-there : {X : Type 0} (xs : List X) (i : ℕ) (x d : X) → i < length xs → slice_index_or (slice_set xs i x) i d ≡ x
set-there [] i x d less = absurd (omega (arith, less))
set-there (y ∷ ys) zero x d less = refl
set-there (y ∷ ys) (suc i) x d less = set-there ys i x d (omega (arith, less))

-- where no item passes, none is left
pub filter-none : {X : Type 0} (p : X → Bool) (xs : List X) → ((x : X) → Among x xs → p x ≡ false) → filter p xs ≡ []
filter-none p [] fails = refl
filter-none p (x ∷ xs) fails = filter-cases (λ ys. ys ≡ []) p x xs (λ passes. absurd (true≢false (sym passes ∙ fails x (inl refl)))) (λ _. filter-none p xs (λ y among. fails y (inr among)))

-- what is there and has a property
pub some-and : {X : Type 0} (P : X → Type 0) (o : Option X) → IsSomeAnd o P → (x : X) × (o ≡ Some x) × P x
some-and P None h = elim h [ ]
some-and P (Some x) h = (x, refl, h)
