-- Fixed pieces.
use Rattle.std.proofs.Common.{◌≡◌, ℕ, ◌+◌, Bool, true, false, ◌&&◌, ◌==◌, List, [], ◌∷◌, length, take, drop, Option, Some, None, Ok, eqb-true, option_map, option_and_then, ◌++◌, refl, ap, sym, ◌∙◌, true≢false, Bor}
use Rattle.std.specs.Prelude.{nat_eq, MatchOption, if◌then◌else◌}
use Rattle.std.specs.Cmp.Lexicographic.{pointwise}
use Rattle.std.proofs.lemmas.Bool.{eq-eqb}
use Rattle.ndc_node_shapes.specs.Bytes.{after, expect, run_from}
use Rattle.ndc_node_shapes.specs.declared.fault.Cause.TheVariants.{Unexpected}
use Rattle.ndc_node_shapes.proofs.Steps.{wanted_some}

same_first : (b p : ℕ) (piece bytes : List ℕ) (test : Bool) (x : Bool) → (test && x) ≡ true → (x ≡ true → after piece bytes ≡ Some (drop (length piece) bytes))
    → (if test then after piece bytes else None) ≡ Some (drop (length piece) bytes)
same_first b p piece bytes true x h k = k h
same_first b p piece bytes false x h k = absurd (cc)

taken : (piece bytes : List ℕ) → pointwise nat_eq (take (length piece) bytes) piece ≡ true → after piece bytes ≡ Some (drop (length piece) bytes)
taken [] bytes h = refl
taken (p ∷ piece) [] h = absurd (cc)
taken (p ∷ piece) (b ∷ bytes) h = same_first b p piece bytes (b == p) (pointwise nat_eq (take (length piece) bytes) piece) h (taken piece bytes)

other_first : (piece bytes : List ℕ) (test : Bool) (x : Bool) → (test && x) ≡ false → (x ≡ false → after piece bytes ≡ None)
    → (if test then after piece bytes else None) ≡ None
other_first piece bytes true x h k = k h
other_first piece bytes false x h k = refl

differs : (piece bytes : List ℕ) → pointwise nat_eq (take (length piece) bytes) piece ≡ false → after piece bytes ≡ None
differs [] bytes h = absurd (cc)
differs (p ∷ piece) [] h = refl
differs (p ∷ piece) (b ∷ bytes) h = other_first piece bytes (b == p) (pointwise nat_eq (take (length piece) bytes) piece) h (differs piece bytes)

pub stripped : (piece bytes : List ℕ) (r : Option (Bor (List ℕ)))
    → MatchOption r (pointwise nat_eq (take (length piece) bytes) piece ≡ false)
    (λ x. (pointwise nat_eq (take (length piece) bytes) piece ≡ true) × (x.now ≡ drop (length piece) bytes) × (length x.now + length piece ≡ length bytes))
    → option_map (λ rest. rest.now) r ≡ after piece bytes
stripped piece bytes None h = rw (differs piece bytes h) refl
stripped piece bytes (Some x) h = rw (taken piece bytes h.0, h.1) refl

-- a piece of three parts
if_then : {A B : Type 0} (test : Bool) (x : Option B) (y : Option A) (f : A → Option B) → x ≡ option_and_then f y → (if test then x else None) ≡ option_and_then f (if test then y else None)
if_then true x y f e = e
if_then false x y f e = refl

at_once : (p k : List ℕ) (bytes : List ℕ) → after (p ++ k) bytes ≡ option_and_then (after k) (after p bytes)
at_once [] k bytes = refl
at_once (x ∷ p) k [] = refl
at_once (x ∷ p) k (b ∷ bytes) = if_then (b == x) (after (p ++ k) bytes) (after p bytes) (after k) (at_once p k bytes)

pub keyed : (p k q left : List ℕ) → after ((p ++ k) ++ q) left ≡ option_and_then (after q) (option_and_then (after k) (after p left))
keyed p k q left = at_once (p ++ k) q left ∙ ap (option_and_then (after q)) (at_once p k left)

-- the run that bytes without an id are
pub no_run : (text : List ℕ) (o : Option (List ℕ)) → ((u : List ℕ) × (o ≡ Some u) → false ≡ true) → None ≡ run_from text o
no_run text None h = refl
no_run text (Some u) h = absurd (true≢false (sym (h (u, refl))))

-- ---- what is there

pub after_itself : (piece rest : List ℕ) → after piece (piece ++ rest) ≡ Some rest
after_itself [] rest = refl
after_itself (p ∷ piece) rest = rw (eq-eqb p p refl) (after_itself piece rest)

pub expected : (piece rest : List ℕ) → expect piece (piece ++ rest) ≡ Ok rest
expected piece rest = rw (after_itself piece rest) refl

is_there_by : (b p : ℕ) (piece bytes rest : List ℕ) (test : Bool) → (b == p) ≡ test → (if test then after piece bytes else None) ≡ Some rest
    → (after piece bytes ≡ Some rest → bytes ≡ piece ++ rest) → b ∷ bytes ≡ p ∷ (piece ++ rest)
is_there_by b p piece bytes rest true e h k = let same : b ≡ p = eqb-true b p e in rw same (ap (λ (bs : List ℕ). p ∷ bs) (k h))
is_there_by b p piece bytes rest false e h k = absurd (cc)

pub is_there : (piece bytes rest : List ℕ) → after piece bytes ≡ Some rest → bytes ≡ piece ++ rest
is_there [] bytes rest h = cc
is_there (p ∷ piece) [] rest h = absurd (cc)
is_there (p ∷ piece) (b ∷ bytes) rest h = is_there_by b p piece bytes rest (b == p) refl h (is_there piece bytes rest)

pub was_expected : (piece bytes rest : List ℕ) → expect piece bytes ≡ Ok rest → bytes ≡ piece ++ rest
was_expected piece bytes rest h = is_there piece bytes rest (wanted_some Unexpected bytes (after piece bytes) rest h)
