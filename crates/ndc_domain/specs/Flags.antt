-- Members and the flags that hold them.
use Rattle.std.proofs.Common.{◌≡◌, ℕ, zero, suc, ◌<◌, ◌≤◌, Bool, true, false, ◌&&◌, List, [], ◌∷◌, length, get_or, refl, sym, ◌∙◌, ap, arith}
use Rattle.std.specs.Prelude.{◌==◌, filter}
use Rattle.std.proofs.lemmas.Bool.{eqb-true, ne_eqb}
use Rattle.ndc_domain.specs.Members.{numbers, numbers_where, has_member, AreMembers, members_flagged, flags_of}

-- the numbers that pass one test are those that pass an equal one
pub where_same : (p q : ℕ → Bool) → ((k : ℕ) → k < 8 → p k ≡ q k) → numbers_where p ≡ numbers_where q
unfolding numbers_where numbers
where_same p q same =
    let e0 : p 0 ≡ q 0 = same 0 (omega arith) in
    let e1 : p 1 ≡ q 1 = same 1 (omega arith) in
    let e2 : p 2 ≡ q 2 = same 2 (omega arith) in
    let e3 : p 3 ≡ q 3 = same 3 (omega arith) in
    let e4 : p 4 ≡ q 4 = same 4 (omega arith) in
    let e5 : p 5 ≡ q 5 = same 5 (omega arith) in
    let e6 : p 6 ≡ q 6 = same 6 (omega arith) in
    let e7 : p 7 ≡ q 7 = same 7 (omega arith) in
    rw (e0, e1, e2, e3, e4, e5, e6, e7) refl

-- one more number, by whether it passes and is the one that is sought
any_step : (p : ℕ → Bool) (x : ℕ) (xs : List ℕ) (k : ℕ) → has_member (filter p xs) k ≡ (p k && has_member xs k) →
    (a : Bool) → p x ≡ a → (b : Bool) → (x == k) ≡ b → has_member (filter p (x ∷ xs)) k ≡ (p k && has_member (x ∷ xs) k)
any_step p x xs k hyp true passes true same =
    let e : p k ≡ true = ap p (sym (eqb-true x k same)) ∙ passes in rw (passes, same, e) refl
any_step p x xs k hyp true passes false other = rw (passes, other) hyp
any_step p x xs k hyp false fails true same =
    let e : p k ≡ false = ap p (sym (eqb-true x k same)) ∙ fails in rw (fails, same, e) (rw e at hyp)
any_step p x xs k hyp false fails false other = rw (fails, other) hyp

-- a number is among those that pass where it passes and is among all
pub any-filter : (p : ℕ → Bool) (xs : List ℕ) (k : ℕ) → has_member (filter p xs) k ≡ (p k && has_member xs k)
any-filter p [] k = elim (p k) as (λ b. false ≡ (b && false)) [ true ↦ refl | false ↦ refl ]
any-filter p (x ∷ xs) k = any_step p x xs k (any-filter p xs k) (p x) refl (x == k) refl

-- each number below 8 is among the numbers
number_below : (k : ℕ) → k < 8 → has_member numbers k ≡ true
unfolding numbers
number_below zero l = refl
number_below (suc zero) l = refl
number_below (suc (suc zero)) l = refl
number_below (suc (suc (suc zero))) l = refl
number_below (suc (suc (suc (suc zero)))) l = refl
number_below (suc (suc (suc (suc (suc zero))))) l = refl
number_below (suc (suc (suc (suc (suc (suc zero)))))) l = refl
number_below (suc (suc (suc (suc (suc (suc (suc zero))))))) l = refl
number_below (suc (suc (suc (suc (suc (suc (suc (suc k)))))))) l = absurd (omega arith)

-- a number from 8 on is not
number_past : (k : ℕ) → 8 ≤ k → has_member numbers k ≡ false
unfolding numbers
number_past k l =
    let e0 : (0 == k) ≡ false = ne_eqb 0 k (λ e. absurd (omega arith)) in
    let e1 : (1 == k) ≡ false = ne_eqb 1 k (λ e. absurd (omega arith)) in
    let e2 : (2 == k) ≡ false = ne_eqb 2 k (λ e. absurd (omega arith)) in
    let e3 : (3 == k) ≡ false = ne_eqb 3 k (λ e. absurd (omega arith)) in
    let e4 : (4 == k) ≡ false = ne_eqb 4 k (λ e. absurd (omega arith)) in
    let e5 : (5 == k) ≡ false = ne_eqb 5 k (λ e. absurd (omega arith)) in
    let e6 : (6 == k) ≡ false = ne_eqb 6 k (λ e. absurd (omega arith)) in
    let e7 : (7 == k) ≡ false = ne_eqb 7 k (λ e. absurd (omega arith)) in
    rw (e0, e1, e2, e3, e4, e5, e6, e7) refl

-- a number below 8 is among those that pass exactly where it passes
pub has-where : (p : ℕ → Bool) (k : ℕ) → k < 8 → has_member (numbers_where p) k ≡ p k
unfolding numbers_where
has-where p k l = any-filter p numbers k ∙ rw (number_below k l) (elim (p k) as (λ b. (b && true) ≡ b) [ true ↦ refl | false ↦ refl ])

-- a number from 8 on is never among them
pub has-where_past : (p : ℕ → Bool) (k : ℕ) → 8 ≤ k → has_member (numbers_where p) k ≡ false
unfolding numbers_where
has-where_past p k l = any-filter p numbers k ∙ rw (number_past k l) (elim (p k) as (λ b. (b && false) ≡ false) [ true ↦ refl | false ↦ refl ])

-- numbers that pass a test are members
pub where_AreMembers : (p : ℕ → Bool) → AreMembers (numbers_where p)
where_AreMembers p = where_same p (has_member (numbers_where p)) (λ k l. sym (has-where p k l))

-- eight flags are given back by the members whose flags are set
pub flags_back : (flags : List Bool) → length flags ≡ 8 → flags_of (members_flagged flags) ≡ flags
unfolding flags_of numbers
flags_back (a ∷ b ∷ c ∷ d ∷ e ∷ f ∷ g ∷ h ∷ []) l =
    let t : List Bool = a ∷ b ∷ c ∷ d ∷ e ∷ f ∷ g ∷ h ∷ [] in
    let p : ℕ → Bool = λ k. get_or (a ∷ b ∷ c ∷ d ∷ e ∷ f ∷ g ∷ h ∷ []) k false in
    rw (
      has-where p 0 (omega arith),
      has-where p 1 (omega arith),
      has-where p 2 (omega arith),
      has-where p 3 (omega arith),
      has-where p 4 (omega arith),
      has-where p 5 (omega arith),
      has-where p 6 (omega arith),
      has-where p 7 (omega arith),
    ) refl
flags_back flags l = absurd (omega arith)
