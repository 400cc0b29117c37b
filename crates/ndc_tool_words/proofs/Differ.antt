-- That the names of options differ.
use Rattle.std.proofs.Common.{◌≡◌, ◌≢◌, ◌==◌, ℕ, ◌-◌, ◌<◌, zero, suc, Bool, true, false, ◌||◌, ◌&&◌, not, List, [], ◌∷◌, ◌++◌, length, get_or, Option, Some, None, if◌then◌else◌, refl, sym, ◌∙◌, subst, arith, AllPairs, true≢false}
use mathlib.Core.Logic.{⊎_elim}
use Rattle.std.specs.List.{list_any, slice_split}
use Rattle.std.specs.Str.{bytes_eq}
use Rattle.std.proofs.lemmas.Bool.{cases_lt}
use Rattle.std.proofs.lemmas.Grind.{common_steps}
use Rattle.std.proofs.lemmas.Option.{same_Some}
use Rattle.std.proofs.lemmas.List.Quantifiers.{all_pairs_push}
use Rattle.std.proofs.lemmas.Slice.Eq.{bytes_eq-Decides}
use Rattle.ndc_event.specs.Name.{is_name}
use Rattle.ndc_tool_words.specs.Names.{begins_with_dash, names_of, names_on, share_a_name, stands_in}

-- names, no two of which are the same
abbrev pub Differ : List (List ℕ) → Type 0
Differ names = AllPairs (λ one two. one ≢ two) names

or-fails : (a b : Bool) → (a || b) ≡ false → (a ≡ false) × (b ≡ false)
or-fails true b e = absurd (true≢false e)
or-fails false b e = (refl, e)

-- where none passes, the one at a place does not
none-at : (p : List ℕ → Bool) (names : List (List ℕ)) (i : ℕ) (d : List ℕ) → i < length names → list_any p names ≡ false → p (get_or names i d) ≡ false
none-at p [] i d below none = absurd (omega (arith, below))
none-at p (name ∷ names) zero d below none = (or-fails (p name) (list_any p names) none).0
none-at p (name ∷ names) (suc i) d below none = none-at p names i d (omega (arith, below)) ((or-fails (p name) (list_any p names) none).1)

-- two texts that are not equal by their bytes
unlike : (one two : List ℕ) → bytes_eq one two ≡ false → one ≢ two
unlike one two not_so same = true≢false (sym ((bytes_eq-Decides one two).1 same) ∙ not_so)

-- a name that does not stand in a list, after it
pub Differ-push : (names : List (List ℕ)) (name : List ℕ) → Differ names → stands_in names name ≡ false → Differ (names ++ name ∷ [])
Differ-push names name differ new =
    all_pairs_push (λ one two. one ≢ two) names name differ
    (λ i d below. unlike (get_or names i d) name (none-at (λ other. bytes_eq other name) names i d below new))

-- two lists of names that share none, one after the other
pub Differ-append : (names others : List (List ℕ)) → Differ names → Differ others → share_a_name names others ≡ false → Differ (names ++ others)
Differ-append names others one two apart i j d lt within =
    ⊎_elim
    (λ early.
    let low : get_or (names ++ others) i d ≡ get_or names i d = grind (arith, common_steps) in
    let high : get_or (names ++ others) j d ≡ get_or names j d = grind (arith, common_steps) in
    rw (low, high) (one i j d lt early))
    (λ late.
    let high : get_or (names ++ others) j d ≡ get_or others (j - length names) d = grind (arith, common_steps) in
    let inside : j - length names < length others = grind (arith, common_steps) in
    ⊎_elim
    (λ early.
    let low : get_or (names ++ others) i d ≡ get_or names i d = grind (arith, common_steps) in
    let absent = none-at (stands_in others) names i d early apart in
    let other = none-at (λ o. bytes_eq o (get_or names i d)) others (j - length names) d inside absent in
    rw (low, high) (λ same. unlike (get_or others (j - length names) d) (get_or names i d) other (sym same)))
    (λ later.
    let low : get_or (names ++ others) i d ≡ get_or others (i - length names) d = grind (arith, common_steps) in
    rw (low, high) (two (i - length names) (j - length names) d (omega (arith, lt, late, later)) inside))
    (cases_lt i (length names)))
    (cases_lt j (length names))

-- where something is taken only on two tests, both went well
taken : (a b : Bool) (o : Option (List (List ℕ))) (found : List (List ℕ)) → (if a && not b then o else None) ≡ Some found → (b ≡ false) × (o ≡ Some found)
taken true false o found e = (refl, e)
taken true true o found e = absurd (cc)
taken false b o found e = absurd (cc)

-- the names of texts after names that differ
names_on-differ : (names texts found : List (List ℕ)) → Differ names → names_on names texts ≡ Some found → Differ found
names_on-differ names [] found differ e = subst Differ (same_Some names found e) differ
names_on-differ names (text ∷ texts) found differ e =
    let both = taken (is_name text) (stands_in names text) (names_on (names ++ text ∷ []) texts) found e in
    names_on-differ (names ++ text ∷ []) texts found (Differ-push names text differ both.0) both.1

unless : (a : Bool) (o : Option (List (List ℕ))) (found : List (List ℕ)) → (if a then None else o) ≡ Some found → o ≡ Some found
unless true o found e = absurd (cc)
unless false o found e = e

-- the names of a text
pub names_of-differ : (text : List ℕ) (found : List (List ℕ)) → names_of text ≡ Some found → Differ found
unfolding names_of
names_of-differ text found e =
    names_on-differ [] (slice_split (λ byte. byte == 44) text) found (λ i j d lt within. absurd (omega (arith, within)))
    (unless (begins_with_dash text) (names_on [] (slice_split (λ byte. byte == 44) text)) found e)
