-- Lists that are changed place by place, from the first on.
use Rattle.std.proofs.Common.{◌≡◌, ℕ, zero, suc, ◌+◌, ◌<◌, ◌≤◌, List, [], ◌∷◌, ◌++◌, take, drop, length, get_or, set, sum, arith, refl, sym, ap, ◌∙◌}
use Rattle.std.proofs.lemmas.List.{append-nil, drop-drop, drop-set-lt, drop_all, get_or-drop, take_all}
use Rattle.std.proofs.lemmas.List.Sums.{sum_by_push}
use Rattle.ndc_model.specs.Moves.{map_from}

-- a list of which a prefix was changed, each item by its place
abbrev pub changed_front : {X : Type 0} → (ℕ → X → X) → ℕ → ℕ → List X → List X
changed_front f from i xs = map_from f from (take i xs) ++ drop i xs

-- the next item is as it was
pub still_there : {X : Type 0} (f : ℕ → X → X) (from i : ℕ) (xs : List X) (d : X) → i < length xs → get_or (changed_front f from i xs) i d ≡ get_or xs i d
still_there f from i [] d below = absurd (omega (arith, below))
still_there f from zero (x ∷ xs) d below = refl
still_there f from (suc i) (x ∷ xs) d below = still_there f (suc from) i xs d (omega (arith, below))

-- with the next item changed, one more is
changed_next : {X : Type 0} (f : ℕ → X → X) (from i place : ℕ) (xs : List X) (d : X) → i < length xs → place ≡ from + i
    → set (changed_front f from i xs) i (f place (get_or xs i d)) ≡ changed_front f from (suc i) xs
changed_next f from i place [] d below is = absurd (omega (arith, below))
changed_next f from zero place (x ∷ xs) d below is = let same : place ≡ from = omega (arith, is) in ap (λ n. f n x ∷ xs) same
changed_next f from (suc i) place (x ∷ xs) d below is = ap (λ zs. f from x ∷ zs) (changed_next f (suc from) i place xs d (omega (arith, below)) (omega (arith, is)))

-- where nothing changed from a place on, the item there is as it was
pub still : {X : Type 0} (now old : List X) (i : ℕ) (d : X) → drop i now ≡ drop i old → get_or now i d ≡ get_or old i d
still now old i d rest =
    let place : i ≡ i + 0 = omega arith in
    ap (λ n. get_or now n d) place ∙ sym (get_or-drop i now 0 d) ∙ ap (λ zs. get_or zs 0 d) rest ∙ get_or-drop i old 0 d ∙ ap (λ n. get_or old n d) (sym place)

-- nor does anything change after that place, when the item there does
pub rest_more : {X : Type 0} (now old : List X) (i : ℕ) (new : X) → drop i now ≡ drop i old → drop (i + 1) (set now i new) ≡ drop (i + 1) old
rest_more now old i new rest =
    drop-set-lt (i + 1) now i new (omega arith) ∙ sym (drop-drop 1 i now) ∙ ap (drop 1) rest ∙ drop-drop 1 i old

-- the same in a loop: the next item is changed in its place
pub changed_more : {X : Type 0} (f : ℕ → X → X) (i : ℕ) (old now : List X) (x new : X) → i < length old → now ≡ changed_front f 0 i old
    → x ≡ get_or now i x → new ≡ f i x → set now i new ≡ changed_front f 0 (i + 1) old
changed_more f i old now x new below kept is step =
    let more : suc i ≡ i + 1 = omega arith in
    let there : x ≡ get_or old i x = is ∙ ap (λ zs. get_or zs i x) kept ∙ still_there f 0 i old x below in
    let place : i ≡ 0 + i = omega arith in
    ap (λ zs. set zs i new) kept ∙ ap (λ y. set (changed_front f 0 i old) i y) (step ∙ ap (f i) there)
    ∙ changed_next f 0 i i old x below place ∙ ap (λ n. changed_front f 0 n old) more

-- after the whole list, all items are changed
pub changed_all : {X : Type 0} (f : ℕ → X → X) (i : ℕ) (xs : List X) → length xs ≤ i → changed_front f 0 i xs ≡ map_from f 0 xs
changed_all f i xs past = ap (λ (zs : List _). map_from f 0 zs ++ drop i xs) (take_all i xs past) ∙ ap (λ zs. map_from f 0 xs ++ zs) (drop_all i xs past) ∙ append-nil (map_from f 0 xs)

-- one item more is counted
counted_next : {X : Type 0} (g : ℕ → X → ℕ) (from i place : ℕ) (xs : List X) (d : X) → i < length xs → place ≡ from + i
    → map_from g from (take (suc i) xs) ≡ map_from g from (take i xs) ++ g place (get_or xs i d) ∷ []
counted_next g from i place [] d below is = absurd (omega (arith, below))
counted_next g from zero place (x ∷ xs) d below is = let same : from ≡ place = omega (arith, is) in ap (λ n. g n x ∷ []) same
counted_next g from (suc i) place (x ∷ xs) d below is = ap (λ zs. g from x ∷ zs) (counted_next g (suc from) i place xs d (omega (arith, below)) (omega (arith, is)))

-- and so are all of them together
pub counted_more : {X : Type 0} (g : ℕ → X → ℕ) (i : ℕ) (old now : List X) (x : X) (count more : ℕ) → i < length old → drop i now ≡ drop i old
    → x ≡ get_or now i x → count ≡ sum (map_from g 0 (take i old)) → more ≡ g i x → count + more ≡ sum (map_from g 0 (take (i + 1) old))
counted_more g i old now x count more below rest is so step =
    let next : i + 1 ≡ suc i = omega arith in
    let place : i ≡ 0 + i = omega arith in
    let there : x ≡ get_or old i x = is ∙ still now old i x rest in
    sym (ap (λ n. sum (map_from g 0 (take n old))) next ∙ ap sum (counted_next g 0 i i old x below place) ∙ sum_by_push (λ n. n) (map_from g 0 (take i old)) (g i (get_or old i x))
    ∙ ap (λ n. sum (map_from g 0 (take i old)) + n) (sym (ap (g i) there) ∙ sym step) ∙ ap (λ n. n + more) (sym so))
