-- Steps that may fail, taken apart.
use Rattle.std.proofs.Common.{◌≡◌, List, ℕ, Option, Some, None, Result, Ok, Err, refl, ap}
use Rattle.ndc_event.specs.Outcome.{◌>>=◌}
use Rattle.ndc_node_shapes.specs.Bytes.{wanted}
use Rattle.ndc_node_shapes.specs.declared.fault.Cause.{Cause}
use Rattle.ndc_node_shapes.specs.declared.fault.Fault.{Fault}

-- what two steps answer is what the second one answers to the first
pub bound : {A B : Type 0} (f : A → Result B Fault) (r : Result A Fault) (y : B) → (r >>= f) ≡ Ok y → (x : A) × ((r ≡ Ok x) × (f x ≡ Ok y))
bound f (Ok x) y e = (x, (refl, e))
bound f (Err x) y e = absurd (cc)

-- the parts of a pair that is answered
pub parts : {A B : Type 0} (x y : A) (r s : B) → ◌≡◌ {A = Result (A × B) Fault} (Ok (x, r)) (Ok (y, s)) → (x ≡ y) × (r ≡ s)
parts {A} {B} x y r s e =
    let same : ◌≡◌ {A = A × B} (x, r) (y, s) = cc in
    (ap (λ (p : A × B). p.0) same, ap (λ (p : A × B). p.1) same)

pub wanted_some : {A : Type 0} (cause : Cause) (left : List ℕ) (o : Option A) (x : A) → wanted cause left o ≡ Ok x → o ≡ Some x
wanted_some cause left None x e = absurd (cc)
wanted_some cause left (Some y) x e = cc
