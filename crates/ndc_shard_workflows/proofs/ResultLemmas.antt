-- What holds of a result, by what holds of what it gives.
use Rattle.std.proofs.Common.{Result, Ok, Err, IfOk, OnErr}

-- from what holds of its value
pub if-ok : {A E : Type 0} (r : Result A E) (P Q : A → Type 0) → ((x : A) → P x → Q x) → IfOk r P → IfOk r Q
if-ok (Ok x) P Q f p = f x p
if-ok (Err e) P Q f p = tt

-- from two facts of its value
pub if-both : {A E : Type 0} (r : Result A E) (P Q R : A → Type 0) → ((x : A) → P x → Q x → R x) → IfOk r P → IfOk r Q → IfOk r R
if-both (Ok x) P Q R f p q = f x p q
if-both (Err e) P Q R f p q = tt

-- what holds always holds where a call fails
pub on-any-err : {A E P : Type 0} (r : Result A E) → P → OnErr r P
on-any-err (Ok x) p = tt
on-any-err (Err e) p = p
