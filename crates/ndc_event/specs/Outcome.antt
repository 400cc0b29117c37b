-- How the contract of a call that may want memory cites the function that gives its answer.
use Rattle.std.specs.Prelude.{◌≡◌, ◌≢◌, Result, Ok, Err}

-- what was returned, seen by view, is the answer, unless memory ran out
abbrev pub Gives : {X Y E : Type 0} → E → (X → Y) → Result X E → Result Y E → Type 0
Gives memory view (Ok x) answer = answer ≡ Ok (view x)
Gives memory view (Err e) answer = e ≢ memory → answer ≡ Err e

infixl 10 ◌>>=◌
-- the first error, or what the next step makes of the value
abbrev pub ◌>>=◌ : {A B E : Type 0} → Result A E → (A → Result B E) → Result B E
(Ok x) >>= f = f x
(Err e) >>= f = Err e
