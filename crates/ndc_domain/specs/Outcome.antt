-- How the contract of a call that wants no memory cites the function that gives its answer.
use Rattle.std.specs.Prelude.{◌≡◌, Result, Ok, Err}

-- what was returned, seen by view, is the answer
abbrev pub Answers : {X Y E : Type 0} → (X → Y) → Result X E → Result Y E → Type 0
Answers view (Ok x) answer = answer ≡ Ok (view x)
Answers view (Err e) answer = answer ≡ Err e
