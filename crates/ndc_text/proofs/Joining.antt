-- Pieces of printed text, joined.
use Rattle.std.proofs.Common.{◌≡◌, ℕ, ◌+◌, ◌<◌, List, ◌++◌, length, drop, get_or, append_assoc, sym, ap, ◌∙◌, Result, Ok, Err, OnOk}
use Rattle.std.proofs.lemmas.List.{at_drop_more}
use Rattle.std.specs.List.{flat_map}

-- three pieces after one
four : (old one a b c : List ℕ) → (((old ++ one) ++ a) ++ b) ++ c ≡ old ++ (((one ++ a) ++ b) ++ c)
four old one a b c = simp append_assoc

-- where one piece was printed, and three after it, all were
pub behind_one : {T E : Type 0} (r : Result T E) (old one a b c now new : List ℕ) → now ≡ old ++ one
    → OnOk r (new ≡ ((now ++ a) ++ b) ++ c) → OnOk r (new ≡ old ++ (((one ++ a) ++ b) ++ c))
behind_one (Ok x) old one a b c now new e f = f ∙ ap (λ (z : List ℕ). ((z ++ a) ++ b) ++ c) e ∙ four old one a b c
behind_one (Err x) old one a b c now new e f = tt

-- the next item of a list is printed
pub printed_more : {A : Type 0} (f : A → List ℕ) (xs : List A) (i : ℕ) (x : A) (old now new : List ℕ) → i < length xs → x ≡ get_or xs i x
    → new ≡ now ++ f x → now ++ flat_map f (drop i xs) ≡ old → new ++ flat_map f (drop (i + 1) xs) ≡ old
printed_more f xs i x old now new below is e h =
    ap (λ (z : List ℕ). z ++ flat_map f (drop (i + 1) xs)) e
    ∙ append_assoc now (f x) (flat_map f (drop (i + 1) xs))
    ∙ ap (λ y. now ++ (f y ++ flat_map f (drop (i + 1) xs))) is
    ∙ sym (ap (λ (z : List ℕ). now ++ z) (at_drop_more (flat_map f) xs i x below)) ∙ h

-- six pieces after one
pub behind_six : (old one a b c d e f now new : List ℕ) → now ≡ old ++ one → new ≡ (((((now ++ a) ++ b) ++ c) ++ d) ++ e) ++ f
    → new ≡ old ++ ((((((one ++ a) ++ b) ++ c) ++ d) ++ e) ++ f)
behind_six old one a b c d e f now new g h = h ∙ ap (λ (z : List ℕ). (((((z ++ a) ++ b) ++ c) ++ d) ++ e) ++ f) g ∙ simp append_assoc

-- three pieces in turn
pub three_pieces : (old one two three then_two then_three new : List ℕ) → then_two ≡ old ++ one → then_three ≡ then_two ++ two → new ≡ then_three ++ three
    → new ≡ old ++ ((one ++ two) ++ three)
three_pieces old one two three then_two then_three new f g h =
    h ∙ ap (λ (z : List ℕ). z ++ three) (g ∙ ap (λ (z : List ℕ). z ++ two) f) ∙ simp append_assoc
