-- What a write to the flags of members does to the members.
use Rattle.std.proofs.Common.{◌≡◌, ◌≢◌, ℕ, ◌+◌, ◌<◌, Bool, true, false, ◌||◌, ◌&&◌, List, length, get_or, set, refl, sym, ◌∙◌, ap, arith, inl, inr, get_or-set_same, get_or-set_other, eq-eqb}
use Rattle.std.specs.Prelude.{◌==◌, nat_lt}
use Rattle.std.proofs.lemmas.Bool.{cases_eq, cases_lt, eqb-true, lt-ltb, le-ltb}
use mathlib.Core.Bool.{beq}
use Rattle.std.specs.Prelude.{nat_eq}
use Rattle.std.specs.Bool.{Decides}
use Rattle.std.specs.Str.{bytes_eq}
use Rattle.std.specs.Cmp.{booleans_Decides}
use Rattle.std.specs.Cmp.Lexicographic.{pointwise, pointwise_decides}
use Rattle.std.proofs.lemmas.Bool.Decides.{same_from_decides}
use Rattle.std.proofs.lemmas.Slice.Eq.{bytes_eq-Decides}
use Rattle.ndc_domain.specs.Members.{numbers_where, has_member, with_member, members_flagged, flags_of}
use Rattle.ndc_domain.specs.Flags.{where_same, has-where, flags_back}
use Rattle.ndc_domain.proofs.Writers.{not_true}

-- a test or one that holds
pub or-true : (b : Bool) → (b || true) ≡ true
or-true true = refl
or-true false = refl

pub or-false : (b : Bool) → (b || false) ≡ b
or-false true = refl
or-false false = refl

-- the flags with one set
pub flag_set : (flags : List Bool) (c k : ℕ) → c < length flags → get_or (set flags c true) k false ≡ (get_or flags k false || (c == k))
flag_set flags c k l =
    elim (cases_eq c k) as (λ _. get_or (set flags c true) k false ≡ (get_or flags k false || (c == k))) [
      | inl e ↦
          let t : (c == k) ≡ true = eq-eqb c k e in
          let new : get_or (set flags c true) k false ≡ true = ap (λ (i : ℕ). get_or (set flags c true) i false) (sym e) ∙ get_or-set_same flags c true false l in
          rw (t, new, or-true (get_or flags k false)) refl
      | inr ne ↦
          let t : (c == k) ≡ false = not_true _ (λ h. ne (eqb-true c k h)) in
          let new : get_or (set flags c true) k false ≡ get_or flags k false = get_or-set_other flags c k true false (λ e. ne (sym e)) in
          rw (t, new, or-false (get_or flags k false)) refl
    ]

-- the members whose flags are those of a test
pub flagged_where : (flags : List Bool) (p : ℕ → Bool) → ((k : ℕ) → k < 8 → get_or flags k false ≡ p k) → members_flagged flags ≡ numbers_where p
flagged_where flags p same = where_same (λ k. get_or flags k false) p same

-- setting a flag adds a member
pub flagged-set : (flags : List Bool) (c : ℕ) → c < length flags → members_flagged (set flags c true) ≡ with_member (members_flagged flags) c
flagged-set flags c l =
    flagged_where (set flags c true) (λ k. has_member (members_flagged flags) k || (c == k))
    (λ k below. flag_set flags c k l ∙ ap (λ (b : Bool). b || (c == k)) (sym (has-where (λ n. get_or flags n false) k below)))

-- another number is below the next one exactly where it is below this one
same_below : (k i : ℕ) → k ≢ i → nat_lt k i ≡ nat_lt k (i + 1)
same_below k i ne =
    elim (cases_lt k i) as (λ _. nat_lt k i ≡ nat_lt k (i + 1)) [
      | inl l ↦ lt-ltb k i l ∙ sym (lt-ltb k (i + 1) (omega arith))
      | inr g ↦ le-ltb k i g ∙ sym (le-ltb k (i + 1) (omega arith))
    ]

-- one flag more is that of both
pub flag_both : (flags ours theirs : List Bool) (i : ℕ) → i < length flags →
    ((k : ℕ) → k < 8 → get_or flags k false ≡ (get_or ours k false || (nat_lt k i && get_or theirs k false))) →
    (b : Bool) → b ≡ (get_or flags i false || get_or theirs i false) →
    (k : ℕ) → k < 8 → get_or (set flags i b) k false ≡ (get_or ours k false || (nat_lt k (i + 1) && get_or theirs k false))
flag_both flags ours theirs i l so_far b both k below =
    elim (cases_eq i k) as (λ _. get_or (set flags i b) k false ≡ (get_or ours k false || (nat_lt k (i + 1) && get_or theirs k false))) [
      | inl e ↦
          let new : get_or (set flags i b) k false ≡ b = ap (λ (n : ℕ). get_or (set flags i b) n false) (sym e) ∙ get_or-set_same flags i b false l in
          let here : nat_lt k (i + 1) ≡ true = lt-ltb k (i + 1) (omega arith) in
          let before : nat_lt k i ≡ false = le-ltb k i (omega arith) in
          let old : get_or flags k false ≡ (get_or ours k false || false) = so_far k below ∙ ap (λ (t : Bool). get_or ours k false || (t && get_or theirs k false)) before in
          let at : b ≡ (get_or flags k false || get_or theirs k false) = both ∙ ap (λ (n : ℕ). get_or flags n false || get_or theirs n false) e in
          new ∙ at ∙ ap (λ (t : Bool). t || get_or theirs k false) (old ∙ or-false (get_or ours k false))
          ∙ ap (λ (t : Bool). get_or ours k false || (t && get_or theirs k false)) (sym here)
      | inr ne ↦
          let new : get_or (set flags i b) k false ≡ get_or flags k false = get_or-set_other flags i k b false (λ e. ne (sym e)) in
          new ∙ so_far k below ∙ ap (λ (t : Bool). get_or ours k false || (t && get_or theirs k false)) (same_below k i (λ e. ne (sym e)))
    ]

-- members are equal exactly where their flags are
pub flagged_alike : (one two : List Bool) → length one ≡ 8 → length two ≡ 8 → members_flagged one ≡ members_flagged two → one ≡ two
flagged_alike one two l m e = sym (flags_back one l) ∙ ap flags_of e ∙ flags_back two m

-- so the test of the flags is that of the members
pub flagged_eq : (one two : List Bool) → length one ≡ 8 → length two ≡ 8 → pointwise beq one two ≡ pointwise nat_eq (members_flagged one) (members_flagged two)
flagged_eq one two l m =
    let flags : Decides (pointwise beq one two) (one ≡ two) = pointwise_decides booleans_Decides one two in
    let seen : Decides (bytes_eq (members_flagged one) (members_flagged two)) (members_flagged one ≡ members_flagged two) = bytes_eq-Decides _ _ in
    let P : Type 0 = one ≡ two in
    let by_members : Decides (bytes_eq (members_flagged one) (members_flagged two)) P =
    (λ t. flagged_alike one two l m (seen.0 t), λ e. seen.1 (ap members_flagged e)) in
    same_from_decides _ _ flags by_members
