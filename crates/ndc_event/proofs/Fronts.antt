-- Numbers of the first bytes: bytes that differ in them are ordered as they are.
use Rattle.std.proofs.Common.{◌≡◌, ℕ, zero, suc, ◌+◌, ◌*◌, ◌^◌, ◌<◌, ◌≤◌, List, [], ◌∷◌, drop, get_or, refl, ap, sym, ◌∙◌, subst, ◌≢◌, Ordering, Less, Equal, Greater, true, nat_le, IsTrue, length, ◌&&◌, arith}
use Rattle.std.specs.List.{list_all}
use Rattle.std.specs.Cmp.{ranked}
use Rattle.std.specs.Cmp.Lexicographic.{slice_cmp}
use Rattle.std.specs.Ordering.{nat_cmp, ordering_then}
use Rattle.std.proofs.Math.Nat.{pow-succ'}
use Rattle.std.proofs.lemmas.Bool.{leb-true, and_parts}
use Rattle.ndc_event.specs.Front.{digits}
use Rattle.ndc_event.specs.Name.{is_name, is_name_byte}

-- a byte more is a digit more
pub digits-next : (number n : ℕ) (bytes : List ℕ) → digits number (suc n) bytes ≡ digits number n bytes * 256 + get_or bytes n 0
unfolding digits
digits-next number zero [] = omega arith
digits-next number zero (byte ∷ bytes) = refl
digits-next number (suc n) [] = digits-next (number * 256) n []
digits-next number (suc n) (byte ∷ bytes) = digits-next (number * 256 + byte) n bytes

one-more : (n : ℕ) → n + 1 ≡ suc n
one-more n = omega arith

-- the same, as a loop counts
pub digits-more : (number n : ℕ) (bytes : List ℕ) → digits number (n + 1) bytes ≡ digits number n bytes * 256 + get_or bytes n 0
digits-more number n bytes = ap (λ k. digits number k bytes) (one-more n) ∙ digits-next number n bytes

pub fits-more : (n number byte : ℕ) → number < 256 ^ n → byte < 256 → number * 256 + byte < 256 ^ (n + 1)
fits-more n number byte fits small =
    let power : 256 ^ (n + 1) ≡ 256 * 256 ^ n = ap (λ k. 256 ^ k) (one-more n) ∙ pow-succ' 256 n in omega (arith, power, fits, small)

-- as many digits of 256 as eight bytes have are a number of 64 bits
pub digits-fit : (place number : ℕ) → place < 8 → number < 256 ^ place → number * 256 + 255 < 2 ^ 64
digits-fit zero number few fits = omega (arith, fits)
digits-fit (suc zero) number few fits = omega (arith, fits)
digits-fit (suc (suc zero)) number few fits = omega (arith, fits)
digits-fit (suc (suc (suc zero))) number few fits = omega (arith, fits)
digits-fit (suc (suc (suc (suc zero)))) number few fits = omega (arith, fits)
digits-fit (suc (suc (suc (suc (suc zero))))) number few fits = omega (arith, fits)
digits-fit (suc (suc (suc (suc (suc (suc zero)))))) number few fits = omega (arith, fits)
digits-fit (suc (suc (suc (suc (suc (suc (suc zero))))))) number few fits = omega (arith, fits)
digits-fit (suc (suc (suc (suc (suc (suc (suc (suc place)))))))) number few fits = absurd (omega (arith, few))

-- a byte of a name, below 256 and above 0
byte-fits : (byte : ℕ) → is_name_byte byte ≡ true → (byte < 256) × (0 < byte)
byte-fits byte is =
    let parts : (nat_le 33 byte ≡ true) × (nat_le byte 126 ≡ true) = and_parts (nat_le 33 byte) (nat_le byte 126) is in
    let least : 33 ≤ byte = leb-true 33 byte parts.0 in
    let most : byte ≤ 126 = leb-true byte 126 parts.1 in
    (omega arith, omega arith)

-- the bytes of a name are bytes of names
pub name-bytes : (bytes : List ℕ) → IsTrue (is_name bytes) → list_all is_name_byte bytes ≡ true
name-bytes bytes is = (and_parts (nat_le 1 (length bytes) && nat_le (length bytes) 200) (list_all is_name_byte bytes) is).1

-- what is less with as many digits to come stays less
less-digits : (n a b : ℕ) (xs ys : List ℕ) → list_all is_name_byte xs ≡ true → a < b → digits a n xs < digits b n ys
unfolding digits
less-digits zero a b xs ys names less = less
less-digits (suc n) a b [] [] names less = less-digits n (a * 256) (b * 256) [] [] refl (omega (arith, less))
less-digits (suc n) a b [] (y ∷ ys) names less = less-digits n (a * 256) (b * 256 + y) [] ys refl (omega (arith, less))
less-digits (suc n) a b (x ∷ xs) [] names less =
    let parts : (is_name_byte x ≡ true) × (list_all is_name_byte xs ≡ true) = and_parts (is_name_byte x) (list_all is_name_byte xs) names in
    less-digits n (a * 256 + x) (b * 256) xs [] parts.1 (omega (arith, less, (byte-fits x parts.0).0))
less-digits (suc n) a b (x ∷ xs) (y ∷ ys) names less =
    let parts : (is_name_byte x ≡ true) × (list_all is_name_byte xs ≡ true) = and_parts (is_name_byte x) (list_all is_name_byte xs) names in
    less-digits n (a * 256 + x) (b * 256 + y) xs ys parts.1 (omega (arith, less, (byte-fits x parts.0).0))

-- the prefix of what is greater is not less
no-less : (n a b : ℕ) (xs ys : List ℕ) → list_all is_name_byte ys ≡ true → digits a n xs < digits b n ys → b < a → ⊥
no-less n a b xs ys names below less = let above : digits b n ys < digits a n xs = less-digits n b a ys xs names less in omega (arith, below, above)

-- where numbers of the first bytes are less, so are the bytes
pub less-front : (n number : ℕ) (xs ys : List ℕ) → list_all is_name_byte xs ≡ true → list_all is_name_byte ys ≡ true → digits number n xs < digits number n ys → slice_cmp nat_cmp xs ys ≡ Less
unfolding digits
less-front zero number xs ys names others less = absurd (omega (arith, less))
less-front (suc n) number [] [] names others less = absurd (omega (arith, less))
less-front (suc n) number [] (y ∷ ys) names others less = refl
less-front (suc n) number (x ∷ xs) [] names others less =
    let parts : (is_name_byte x ≡ true) × (list_all is_name_byte xs ≡ true) = and_parts (is_name_byte x) (list_all is_name_byte xs) names in
    absurd (no-less n (number * 256 + x) (number * 256) xs [] refl less (omega (arith, (byte-fits x parts.0).1)))
less-front (suc n) number (x ∷ xs) (y ∷ ys) names others less = by (less-front n (number * 256 + x) xs ys) (nat_cmp x y) refl
  where
    these : (is_name_byte x ≡ true) × (list_all is_name_byte xs ≡ true)
    these = and_parts (is_name_byte x) (list_all is_name_byte xs) names

    those : (is_name_byte y ≡ true) × (list_all is_name_byte ys ≡ true)
    those = and_parts (is_name_byte y) (list_all is_name_byte ys) others

    by : (list_all is_name_byte xs ≡ true → list_all is_name_byte ys ≡ true → digits (number * 256 + x) n xs < digits (number * 256 + x) n ys → slice_cmp nat_cmp xs ys ≡ Less) → (order : Ordering) → order ≡ nat_cmp x y → ordering_then order (slice_cmp nat_cmp xs ys) ≡ Less
    by rest Less is = refl
    by rest Equal is =
        let same : x ≡ y = ranked x y Equal is in
        rest these.1 those.1 (subst (λ byte. digits (number * 256 + x) n xs < digits (number * 256 + byte) n ys) (sym same) less)
    by rest Greater is =
        let more : y < x = ranked x y Greater is in
        absurd (no-less n (number * 256 + x) (number * 256 + y) xs ys those.1 less (omega (arith, more)))

-- where they are greater, so are the bytes
pub greater-front : (n number : ℕ) (xs ys : List ℕ) → list_all is_name_byte xs ≡ true → list_all is_name_byte ys ≡ true → digits number n ys < digits number n xs → slice_cmp nat_cmp xs ys ≡ Greater
unfolding digits
greater-front zero number xs ys names others less = absurd (omega (arith, less))
greater-front (suc n) number [] [] names others less = absurd (omega (arith, less))
greater-front (suc n) number (x ∷ xs) [] names others less = refl
greater-front (suc n) number [] (y ∷ ys) names others less =
    let parts : (is_name_byte y ≡ true) × (list_all is_name_byte ys ≡ true) = and_parts (is_name_byte y) (list_all is_name_byte ys) others in
    absurd (no-less n (number * 256 + y) (number * 256) ys [] refl less (omega (arith, (byte-fits y parts.0).1)))
greater-front (suc n) number (x ∷ xs) (y ∷ ys) names others less = by (greater-front n (number * 256 + x) xs ys) (nat_cmp x y) refl
  where
    these : (is_name_byte x ≡ true) × (list_all is_name_byte xs ≡ true)
    these = and_parts (is_name_byte x) (list_all is_name_byte xs) names

    those : (is_name_byte y ≡ true) × (list_all is_name_byte ys ≡ true)
    those = and_parts (is_name_byte y) (list_all is_name_byte ys) others

    by : (list_all is_name_byte xs ≡ true → list_all is_name_byte ys ≡ true → digits (number * 256 + x) n ys < digits (number * 256 + x) n xs → slice_cmp nat_cmp xs ys ≡ Greater) → (order : Ordering) → order ≡ nat_cmp x y → ordering_then order (slice_cmp nat_cmp xs ys) ≡ Greater
    by rest Greater is = refl
    by rest Equal is =
        let same : x ≡ y = ranked x y Equal is in
        rest these.1 those.1 (subst (λ byte. digits (number * 256 + byte) n ys < digits (number * 256 + x) n xs) (sym same) less)
    by rest Less is =
        let fewer : x < y = ranked x y Less is in
        absurd (no-less n (number * 256 + y) (number * 256 + x) ys xs these.1 less (omega (arith, fewer)))

-- where they are the same, the bytes after them tell
pub same-front : (n number : ℕ) (xs ys : List ℕ) → list_all is_name_byte xs ≡ true → list_all is_name_byte ys ≡ true → digits number n xs ≡ digits number n ys → slice_cmp nat_cmp xs ys ≡ slice_cmp nat_cmp (drop n xs) (drop n ys)
unfolding digits
same-front zero number xs ys names others same = refl
same-front (suc n) number [] [] names others same = refl
same-front (suc n) number (x ∷ xs) [] names others same =
    let parts : (is_name_byte x ≡ true) × (list_all is_name_byte xs ≡ true) = and_parts (is_name_byte x) (list_all is_name_byte xs) names in
    let less : digits (number * 256) n [] < digits (number * 256 + x) n xs = less-digits n (number * 256) (number * 256 + x) [] xs refl (omega (arith, (byte-fits x parts.0).1)) in
    absurd (omega (arith, less, same))
same-front (suc n) number [] (y ∷ ys) names others same =
    let parts : (is_name_byte y ≡ true) × (list_all is_name_byte ys ≡ true) = and_parts (is_name_byte y) (list_all is_name_byte ys) others in
    let less : digits (number * 256) n [] < digits (number * 256 + y) n ys = less-digits n (number * 256) (number * 256 + y) [] ys refl (omega (arith, (byte-fits y parts.0).1)) in
    absurd (omega (arith, less, same))
same-front (suc n) number (x ∷ xs) (y ∷ ys) names others same = by (same-front n (number * 256 + x) xs ys) (nat_cmp x y) refl
  where
    these : (is_name_byte x ≡ true) × (list_all is_name_byte xs ≡ true)
    these = and_parts (is_name_byte x) (list_all is_name_byte xs) names

    those : (is_name_byte y ≡ true) × (list_all is_name_byte ys ≡ true)
    those = and_parts (is_name_byte y) (list_all is_name_byte ys) others

    by : (list_all is_name_byte xs ≡ true → list_all is_name_byte ys ≡ true → digits (number * 256 + x) n xs ≡ digits (number * 256 + x) n ys → slice_cmp nat_cmp xs ys ≡ slice_cmp nat_cmp (drop n xs) (drop n ys)) → (order : Ordering) → order ≡ nat_cmp x y → ordering_then order (slice_cmp nat_cmp xs ys) ≡ slice_cmp nat_cmp (drop n xs) (drop n ys)
    by rest Equal is =
        let alike : x ≡ y = ranked x y Equal is in
        rest these.1 those.1 (same ∙ ap (λ byte. digits (number * 256 + byte) n ys) (sym alike))
    by rest Less is =
        let less : digits (number * 256 + x) n xs < digits (number * 256 + y) n ys = less-digits n (number * 256 + x) (number * 256 + y) xs ys these.1 (omega (arith, ranked x y Less is)) in
        absurd (omega (arith, less, same))
    by rest Greater is =
        let less : digits (number * 256 + y) n ys < digits (number * 256 + x) n xs = less-digits n (number * 256 + y) (number * 256 + x) ys xs those.1 (omega (arith, ranked x y Greater is)) in
        absurd (omega (arith, less, same))

-- numbers of the first bytes compare as the bytes do, where they differ
pub front-cmp : (n : ℕ) (xs ys : List ℕ) → list_all is_name_byte xs ≡ true → list_all is_name_byte ys ≡ true → digits 0 n xs ≢ digits 0 n ys → nat_cmp (digits 0 n xs) (digits 0 n ys) ≡ slice_cmp nat_cmp xs ys
front-cmp n xs ys names others differ = by (nat_cmp (digits 0 n xs) (digits 0 n ys)) refl
  where
    by : (order : Ordering) → order ≡ nat_cmp (digits 0 n xs) (digits 0 n ys) → order ≡ slice_cmp nat_cmp xs ys
    by Less is = sym (less-front n 0 xs ys names others (ranked (digits 0 n xs) (digits 0 n ys) Less is))
    by Equal is = absurd (differ (ranked (digits 0 n xs) (digits 0 n ys) Equal is))
    by Greater is = sym (greater-front n 0 xs ys names others (ranked (digits 0 n xs) (digits 0 n ys) Greater is))
