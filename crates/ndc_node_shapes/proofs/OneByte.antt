-- One byte of an object.
use Rattle.std.proofs.Common.{◌≡◌, ℕ, zero, suc, ◌≤◌, ◌+◌, Bool, true, false, ◌||◌, ◌==◌, Option, Some, None, arith, ap, subst}
use Rattle.std.specs.Prelude.{IfSome, if◌then◌else◌}
use Rattle.ndc_node_shapes.specs.Objects.{closed, step}
use Rattle.ndc_node_shapes.specs.declared.object.Place.{Place}
use Rattle.ndc_node_shapes.specs.declared.object.Place.TheVariants.{Outside, Inside, Escaped}

-- not more brackets are open than one more
abbrev IsFew : ℕ → Option (Place × ℕ) → Type 0
IsFew n o = IfSome o (λ at. at.1 ≤ n + 1)

closed_few : (n : ℕ) → IsFew n (closed n)
closed_few zero = tt
closed_few (suc n) = omega arith

by_quote : (n : ℕ) (one two three : Bool) → IsFew n (if one then Some (Inside, n) else if two then Some (Outside, suc n) else if three then closed n else Some (Outside, n))
by_quote n true two three = omega arith
by_quote n false true three = omega arith
by_quote n false false true = closed_few n
by_quote n false false false = omega arith

by_mark : (n : ℕ) (one two : Bool) → IsFew n (if one then Some (Outside, n) else if two then Some (Escaped, n) else Some (Inside, n))
by_mark n true two = omega arith
by_mark n false true = omega arith
by_mark n false false = omega arith

step_few : (place : Place) (n b : ℕ) → IsFew n (step place n b)
step_few Outside n b = by_quote n (b == 34) ((b == 91) || (b == 123)) ((b == 93) || (b == 125))
step_few Inside n b = by_mark n (b == 34) (b == 92)
step_few Escaped n b = omega arith

of_some : (n m : ℕ) (p : Place) (o : Option (Place × ℕ)) → IsFew n o → o ≡ Some (p, m) → m ≤ n + 1
of_some n m p None h e = absurd (cc)
of_some n m p (Some at) h e = let same : ◌≡◌ {A = Place × ℕ} at (p, m) = cc in subst (λ k. k ≤ n + 1) (ap (λ (a : Place × ℕ). a.1) same) h

pub few : (place next : Place) (n b m : ℕ) → step place n b ≡ Some (next, m) → m ≤ n + 1
few place next n b m e = of_some n m next (step place n b) (step_few place n b) e
