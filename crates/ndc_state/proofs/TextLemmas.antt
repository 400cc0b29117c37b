-- Lists of what is pending, printed one after another.
use Rattle.std.proofs.Common.{◌≡◌, ℕ, zero, suc, ◌+◌, List, [], ◌∷◌, ◌++◌, drop, None, Some, slice_get, refl, ap, append_assoc, add-one, codes}
use Rattle.ndc_state.specs.declared.pendings.Pending.{Pending}
use Rattle.ndc_state.specs.Text.{pending_text, further_text}

drop_suc : (xs : List Pending) (i : ℕ) (x : Pending) → slice_get xs i ≡ Some x → drop i xs ≡ x ∷ drop (suc i) xs
drop_suc [] i x h = absurd (cc)
drop_suc (y ∷ ys) zero x h = let same : y ≡ x = cc in ap (λ z. z ∷ ys) same
drop_suc (y ∷ ys) (suc i) x h = drop_suc ys i x h

drop_end : (xs : List Pending) (i : ℕ) → slice_get xs i ≡ None → drop i xs ≡ drop (suc i) xs
drop_end [] zero h = refl
drop_end [] (suc i) h = refl
drop_end (y ∷ ys) zero h = absurd (cc)
drop_end (y ∷ ys) (suc i) h = drop_end ys i h

-- one more entry, printed after a comma
pub further_text-one : (text more : List ℕ) (xs : List Pending) (i : ℕ) (x : Pending) → slice_get xs i ≡ Some x → more ≡ text ++ (44 ∷ pending_text x)
    → more ++ further_text (drop (i + 1) xs) ≡ text ++ further_text (drop i xs)
further_text-one text more xs i x h e =
    rw (e, add-one i, drop_suc xs i x h) (append_assoc text (44 ∷ pending_text x) (further_text (drop (suc i) xs)))

-- past the end there is none
pub further_text-end : (text : List ℕ) (xs : List Pending) (i : ℕ) → slice_get xs i ≡ None → text ++ further_text (drop (i + 1) xs) ≡ text ++ further_text (drop i xs)
further_text-end text xs i h = rw (add-one i, drop_end xs i h) refl

-- the parts of a line, joined from either side
pub line_joined : (next decision activities timers children signals cancel : List ℕ)
    → codes "next=" ++ ((next ++ (codes " decision=" ++ (decision ++ (codes " activities=" ++ (activities ++ (codes " timers=" ++ (timers
    ++ (codes " children=" ++ (children ++ (codes " signals=" ++ signals)))))))))) ++ (codes " cancel=" ++ cancel))
    ≡ codes "next=" ++ next ++ codes " decision=" ++ decision ++ codes " activities=" ++ activities ++ codes " timers=" ++ timers
    ++ codes " children=" ++ children ++ codes " signals=" ++ signals ++ codes " cancel=" ++ cancel
line_joined next decision activities timers children signals cancel = simp append_assoc
