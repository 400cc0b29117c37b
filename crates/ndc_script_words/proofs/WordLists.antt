-- Lists that grow by what an iterator gives.
use Rattle.std.proofs.Common.{◌≡◌, List, Option, Result, map}
use Rattle.std.specs.Prelude.{OnOk, MatchResult}
use Rattle.std.specs.Iterator.{Drains, Yields}
use Rattle.std.proofs.lemmas.Iterator.{YieldsList}
use Rattle.std.proofs.lemmas.Iterator.Adapters.{fact_from_extend}
use Rattle.std.proofs.lemmas.Iterator.Consumers.{YieldsList-at}

-- what follows where a list was extended by an iterator whose items are seen as these
pub seen_of_extend : {S A B E Q : Type 0} {steps : S → Option A → S → Type 0} {s : S} {all : List B} {P : List A → Type 0} (v : A → B) (r : Result (Unit {0}) E)
    → ((it : S) × (xs : List A) × (it ≡ s) × P xs × MatchResult r (λ _. Drains steps it xs) (λ _. (t : S) × Yields steps it xs t))
    → YieldsList steps v s all → ((xs : List A) → map v xs ≡ all → P xs → Q) → OnOk r Q
seen_of_extend v r ran road says = fact_from_extend v r ran (λ it from. YieldsList-at from road) says
