-- What a filter keeps.
use Rattle.std.proofs.Common.{◌≡◌, Bool, true, false, List, [], ◌∷◌, refl}
use Rattle.std.specs.Prelude.{if◌then◌else◌, Contains}
use Rattle.std.specs.List.{AllByRecursion, filter}
use Rattle.std.proofs.lemmas.List.Elements.{All-contains, All-from_recursion, Contains-append_left, Contains-append_right, Contains-push}

-- what holds of each for one reason holds for another that follows from it
pub each-weaker : {X : Type 0} → (P Q : X → Type 0) (xs : List X) → ((x : X) → P x → Q x) → AllByRecursion P xs → AllByRecursion Q xs
each-weaker P Q [] f all = tt
each-weaker P Q (x ∷ xs) f all = (f x all.0, each-weaker P Q xs f all.1)

pub each-at : {X : Type 0} → (P : X → Type 0) (xs : List X) (x : X) → AllByRecursion P xs → Contains xs x → P x
each-at P xs x all has = All-contains P xs x (All-from_recursion P xs all) has

here : {X : Type 0} → (x : X) (xs : List X) → Contains (x ∷ xs) x
here x xs = Contains-append_left (x ∷ []) xs x (Contains-push [] x)

there : {X : Type 0} → (y : X) (xs : List X) (x : X) → Contains xs x → Contains (y ∷ xs) x
there y xs x has = Contains-append_right (y ∷ []) xs x has

kept-each : {X : Type 0} → (test : X → Bool) (xs : List X) → AllByRecursion (λ x. test x ≡ true → Contains (filter test xs) x) xs
kept-each test [] = tt
kept-each {X} test (x ∷ xs) = by (test x) refl (kept-each test xs)
  where
    by : (b : Bool) → test x ≡ b → AllByRecursion (λ y. test y ≡ true → Contains (filter test xs) y) xs
        → AllByRecursion (λ y. test y ≡ true → Contains (if b then x ∷ filter test xs else filter test xs) y) (x ∷ xs)
    by true e rest = (
      (λ _. here x (filter test xs)),
      each-weaker (λ y. test y ≡ true → Contains (filter test xs) y) (λ y. test y ≡ true → Contains (x ∷ filter test xs) y) xs
          (λ y f t. there x (filter test xs) y (f t)) rest,
    )
    by false e rest = ((λ t. absurd (cc)), rest)

-- what passes the test is kept
pub kept : {X : Type 0} → (test : X → Bool) (xs : List X) (x : X) → Contains xs x → test x ≡ true → Contains (filter test xs) x
kept test xs x has = each-at (λ y. test y ≡ true → Contains (filter test xs) y) xs x (kept-each test xs) has
