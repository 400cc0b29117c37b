-- Two ways to say that something is among the items of a list.
use Rattle.std.proofs.Common.{◌≡◌, ℕ, zero, suc, ◌<◌, List, [], ◌∷◌, length, slice_index_or, inl, inr, arith}
use Rattle.std.specs.List.{IsAmong}
use Rattle.ndc_model_sets.proofs.Lists.{Among}

-- what is among the items is among more of them
pub among-more : {X : Type 0} (y : X) (xs : List X) (x : X) → IsAmong xs x → IsAmong (y ∷ xs) x
among-more y xs x among = (suc among.0, (omega (arith, among.1.0), among.1.1))

pub is-among : {X : Type 0} (xs : List X) (x : X) → IsAmong xs x → Among x xs
is-among {X = X} xs x among = at xs among.0 among.1.0 among.1.1
  where
    at : (ys : List X) (i : ℕ) → i < length ys → x ≡ slice_index_or ys i x → Among x ys
    at [] i below same = absurd (omega (arith, below))
    at (y ∷ ys) zero below same = inl same
    at (y ∷ ys) (suc i) below same = inr (at ys i (omega (arith, below)) same)

pub among-is : {X : Type 0} (xs : List X) (x : X) → Among x xs → IsAmong xs x
among-is [] x none = absurd none
among-is (y ∷ ys) x (inl same) = (zero, (omega arith, same))
among-is (y ∷ ys) x (inr among) = among-more y ys x (among-is ys x among)
