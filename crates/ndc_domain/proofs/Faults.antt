-- Members without a fault.
use Rattle.std.proofs.Common.{◌≡◌, ◌≢◌, ℕ, suc, ◌+◌, ◌<◌, ◌≤◌, ◌^◌, Bool, true, false, cond, ◌||◌, List, [], ◌∷◌, ◌++◌, length, get_or, take, drop, Option, Some, None, Ok, Err, refl, sym, ◌∙◌, ap, subst, inl, inr, arith, append_assoc, length-append}
use Rattle.std.specs.Prelude.{nat_le, nat_lt, ◌==◌, bytes_eq}
use Rattle.std.specs.List.{list_any}
use Rattle.std.proofs.lemmas.Slice.Eq.{bytes_eq-Decides}
use Rattle.std.proofs.lemmas.Bool.{leb-false, ltb-true, ltb-false, leb-true, eqb-true, eq-eqb, cases_lt}
use Rattle.std.proofs.lemmas.List.{append-nil, take_more, at_drop_more}
use Rattle.std.proofs.Math.ListN.{get_or-append}
use Rattle.std.proofs.Math.Seq.{get_or-append_seam}
use Rattle.std.proofs.lemmas.List.Folds.{list_any_at}
use Rattle.ndc_domain.specs.declared.clusters.ClustersError.{ClustersError}
use Rattle.ndc_domain.specs.Clusters.{ClusterList, AreClusters, has_name, has_initial, member_fault, first_fault, fault_from, clusters_without, clusters_of}
use Rattle.ndc_domain.specs.declared.clusters.ClustersError.TheVariants.{IncrementLimit, NoClusters}
use Rattle.ndc_domain.proofs.Writers.{not_true}

-- one member more has been tested
pub fault_step : (n : ℕ) (ms : List (List ℕ × ℕ)) (i : ℕ) (d : List ℕ × ℕ) → i < length ms →
    fault_from n (take i ms) (drop i ms) ≡ first_fault (member_fault n (take i ms) (get_or ms i d)) (fault_from n (take (i + 1) ms) (drop (i + 1) ms))
fault_step n ms i d l =
    at_drop_more (fault_from n (take i ms)) ms i d l
    ∙ ap (λ front. first_fault (member_fault n (take i ms) (get_or ms i d)) (fault_from n front (drop (i + 1) ms))) (sym (take_more ms i d l))

-- what holds of members that break no rule
pub record AreFit (n : ℕ) (ms : List (List ℕ × ℕ)) : Type 0 where
  pub few : length ms ≤ 8
  pub names : (i j : ℕ) → i < j → j < length ms → (get_or ms i ([], 0)).0 ≢ (get_or ms j ([], 0)).0
  pub initials : (i j : ℕ) → i < j → j < length ms → (get_or ms i ([], 0)).1 ≢ (get_or ms j ([], 0)).1
  pub below : (i : ℕ) → i < length ms → (get_or ms i ([], 0)).1 < n

-- no test of four holds
none_of_four : (a b c d : Bool) (w x y z : ClustersError) →
    cond a (Some w) (cond b (Some x) (cond c (Some y) (cond d (Some z) None))) ≡ None → (a ≡ false) × (b ≡ false) × (c ≡ false) × (d ≡ false)
none_of_four true b c d w x y z h = absurd (cc)
none_of_four false true c d w x y z h = absurd (cc)
none_of_four false false true d w x y z h = absurd (cc)
none_of_four false false false true w x y z h = absurd (cc)
none_of_four false false false false w x y z h = (refl, refl, refl, refl)

-- where no element passes, none at a place does
fails_at : {X : Type 0} (p : X → Bool) (xs : List X) (i : ℕ) (d : X) → i < length xs → list_any p xs ≡ false → p (get_or xs i d) ≡ true → ⊥
fails_at p xs i d l none passes = let some : list_any p xs ≡ true = list_any_at p xs i d l passes in absurd (cc)

-- what differs from all before and rises pairwise does so with one more
pairs_more : (f : List ℕ × ℕ → List ℕ × ℕ → Type 0) (ms : List (List ℕ × ℕ)) (m : List ℕ × ℕ) →
    ((i j : ℕ) → i < j → j < length ms → f (get_or ms i ([], 0)) (get_or ms j ([], 0))) →
    ((i : ℕ) → i < length ms → f (get_or ms i ([], 0)) m) →
    (i j : ℕ) → i < j → j < length (ms ++ m ∷ []) → f (get_or (ms ++ m ∷ []) i ([], 0)) (get_or (ms ++ m ∷ []) j ([], 0))
pairs_more f ms m old new i j l within =
    let total : length (ms ++ m ∷ []) ≡ length ms + 1 = length-append ms (m ∷ []) in
    elim (cases_lt j (length ms)) as (λ _. f (get_or (ms ++ m ∷ []) i ([], 0)) (get_or (ms ++ m ∷ []) j ([], 0))) [
      | inl below ↦
          let first : i < length ms = omega arith in
          let e : get_or (ms ++ m ∷ []) i ([], 0) ≡ get_or ms i ([], 0) = get_or-append ms (m ∷ []) ([], 0) i first in
          let g : get_or (ms ++ m ∷ []) j ([], 0) ≡ get_or ms j ([], 0) = get_or-append ms (m ∷ []) ([], 0) j below in
          rw (e, g) (old i j l below)
      | inr last ↦
          let at : j ≡ length ms = omega arith in
          let first : i < length ms = omega arith in
          let e : get_or (ms ++ m ∷ []) i ([], 0) ≡ get_or ms i ([], 0) = get_or-append ms (m ∷ []) ([], 0) i first in
          let g : get_or (ms ++ m ∷ []) j ([], 0) ≡ m = ap (λ (k : ℕ). get_or (ms ++ m ∷ []) k ([], 0)) at ∙ get_or-append_seam ms m [] ([], 0) in
          rw (e, g) (new i first)
    ]

-- members that break no rule, and one more that breaks none
fit_more : (n : ℕ) (ms : List (List ℕ × ℕ)) (m : List ℕ × ℕ) → AreFit n ms → member_fault n ms m ≡ None → AreFit n (ms ++ m ∷ [])
fit_more n ms m fit none =
    let tests : (nat_le 8 (length ms) ≡ false) × (has_name m.0 ms ≡ false) × (has_initial m.1 ms ≡ false) × (nat_le n m.1 ≡ false) =
    none_of_four _ _ _ _ _ _ _ _ none in
    let few : length ms < 8 = leb-false 8 (length ms) tests.0 in
    let small : m.1 < n = leb-false n m.1 tests.3 in
    let total : length (ms ++ m ∷ []) ≡ length ms + 1 = length-append ms (m ∷ []) in
    record {
      few = omega arith;
      names = pairs_more (λ a b. a.0 ≢ b.0) ms m fit.names
          (λ i l same. fails_at (λ member. bytes_eq member.0 m.0) ms i ([], 0) l tests.1 ((bytes_eq-Decides _ _).1 same));
      initials = pairs_more (λ a b. a.1 ≢ b.1) ms m fit.initials
          (λ i l same. fails_at (λ member. member.1 == m.1) ms i ([], 0) l tests.2 (eq-eqb _ _ same));
      below = λ i l.
          elim (cases_lt i (length ms)) as (λ _. (get_or (ms ++ m ∷ []) i ([], 0)).1 < n) [
            | inl first ↦
                let e : get_or (ms ++ m ∷ []) i ([], 0) ≡ get_or ms i ([], 0) = get_or-append ms (m ∷ []) ([], 0) i first in
                rw e (fit.below i first)
            | inr last ↦
                let at : i ≡ length ms = omega arith in
                let g : get_or (ms ++ m ∷ []) i ([], 0) ≡ m = ap (λ (k : ℕ). get_or (ms ++ m ∷ []) k ([], 0)) at ∙ get_or-append_seam ms m [] ([], 0) in
                rw g small
          ];
    }

-- a list without a fault has none at its head and none after it
no_first_fault : (one other : Option ClustersError) → first_fault one other ≡ None → (one ≡ None) × (other ≡ None)
no_first_fault (Some fault) other h = absurd (cc)
no_first_fault None other h = (refl, h)

-- members without a fault after fit ones fit with them
fit_all : (n : ℕ) (before ms : List (List ℕ × ℕ)) → AreFit n before → fault_from n before ms ≡ None → AreFit n (before ++ ms)
fit_all n before [] fit none = rw (append-nil before) fit
fit_all n before (m ∷ ms) fit none =
    let parts : (member_fault n before m ≡ None) × (fault_from n (before ++ m ∷ []) ms ≡ None) = no_first_fault _ _ none in
    subst (AreFit n) (append_assoc before (m ∷ []) ms) (fit_all n (before ++ m ∷ []) ms (fit_more n before m fit parts.0) parts.1)

fit_none : (n : ℕ) → AreFit n []
fit_none n = record {
  few = omega arith;
  names = λ i j l within. absurd (omega arith);
  initials = λ i j l within. absurd (omega arith);
  below = λ i within. absurd (omega arith);
}

-- an increment in range and some members without a fault are clusters
pub sound_without_fault : (n : ℕ) (ms : List (List ℕ × ℕ)) → 0 < n → n ≤ 10 ^ 12 → 0 < length ms → fault_from n [] ms ≡ None →
    AreClusters (record { increment = n; members = ms })
sound_without_fault n ms least most some none =
    let fit : AreFit n ms = fit_all n [] ms (fit_none n) none in
    record {
      increment_least = least;
      increment_most = most;
      count_least = some;
      count_most = fit.few;
      names_differ = fit.names;
      initials_differ = fit.initials;
      initials_below = fit.below;
    }

-- where no element passes at any place, none passes
none_passes : {X : Type 0} (p : X → Bool) (xs : List X) (d : X) → ((i : ℕ) → i < length xs → p (get_or xs i d) ≡ false) → list_any p xs ≡ false
none_passes p [] d h = refl
none_passes p (x ∷ xs) d h =
    let head : p x ≡ false = h 0 (omega arith) in
    let rest : list_any p xs ≡ false = none_passes p xs d (λ i l. h (suc i) (omega arith)) in
    rw head rest

-- a member of fitting ones breaks no rule after those before it
member_fits : (n : ℕ) (before : List (List ℕ × ℕ)) (m : List ℕ × ℕ) (ms : List (List ℕ × ℕ)) → AreFit n (before ++ m ∷ ms) → member_fault n before m ≡ None
member_fits n before m ms fit =
    let total : length (before ++ m ∷ ms) ≡ length before + length (m ∷ ms) = length-append before (m ∷ ms) in
    let room : length before < 8 = let few : length (before ++ m ∷ ms) ≤ 8 = fit.few in omega arith in
    let at : get_or (before ++ m ∷ ms) (length before) ([], 0) ≡ m = get_or-append_seam before m ms ([], 0) in
    let here : length before < length (before ++ m ∷ ms) = omega arith in
    let names : has_name m.0 before ≡ false =
    none_passes (λ member. bytes_eq member.0 m.0) before ([], 0)
    (λ i l. let e : get_or (before ++ m ∷ ms) i ([], 0) ≡ get_or before i ([], 0) = get_or-append before (m ∷ ms) ([], 0) i l in
    not_true _ (λ same. fit.names i (length before) l here (rw (e, at) ((bytes_eq-Decides _ _).0 same)))) in
    let initials : has_initial m.1 before ≡ false =
    none_passes (λ member. member.1 == m.1) before ([], 0)
    (λ i l. let e : get_or (before ++ m ∷ ms) i ([], 0) ≡ get_or before i ([], 0) = get_or-append before (m ∷ ms) ([], 0) i l in
    not_true _ (λ same. fit.initials i (length before) l here (rw (e, at) (eqb-true _ _ same)))) in
    let below : m.1 < n = rw at at (fit.below (length before) here) in
    let few : nat_le 8 (length before) ≡ false = not_true _ (λ t. let g : 8 ≤ length before = leb-true _ _ t in absurd (omega arith)) in
    let small : nat_le n m.1 ≡ false = not_true _ (λ t. let g : n ≤ m.1 = leb-true _ _ t in absurd (omega arith)) in
    rw (few, names, initials, small) refl

-- fitting members have no fault
fits_without_fault : (n : ℕ) (before ms : List (List ℕ × ℕ)) → AreFit n (before ++ ms) → fault_from n before ms ≡ None
fits_without_fault n before [] fit = refl
fits_without_fault n before (m ∷ ms) fit =
    let head : member_fault n before m ≡ None = member_fits n before m ms fit in
    let rest : fault_from n (before ++ m ∷ []) ms ≡ None =
    fits_without_fault n (before ++ m ∷ []) ms (subst (AreFit n) (sym (append_assoc before (m ∷ []) ms)) fit) in
    rw head rest

-- two tests of which neither holds
neither : (p q : Bool) → (p || q) ≡ false → (p ≡ false) × (q ≡ false)
neither true q h = absurd (cc)
neither false q h = (refl, h)

-- what the answer Ok tells
told_by_answer : (limit none : Bool) (fault : Option ClustersError) (given clusters : ClusterList) →
    cond limit (Err IncrementLimit) (cond none (Err NoClusters) (clusters_without fault given)) ≡ Ok clusters →
    (limit ≡ false) × (none ≡ false) × (fault ≡ None) × (given ≡ clusters)
told_by_answer true none fault given clusters h = absurd (cc)
told_by_answer false true fault given clusters h = absurd (cc)
told_by_answer false false (Some fault) given clusters h = absurd (cc)
told_by_answer false false None given clusters h = (refl, refl, refl, cc)

-- clusters that were built are sound
pub built_is_sound : (n : ℕ) (ms : List (List ℕ × ℕ)) (clusters : ClusterList) → clusters_of n ms ≡ Ok clusters → AreClusters clusters
built_is_sound n ms clusters h =
    let told : (((n == 0) || nat_lt (10 ^ 12) n) ≡ false) × ((length ms == 0) ≡ false) × (fault_from n [] ms ≡ None) × (record { increment = n; members = ms } ≡ clusters) =
    told_by_answer _ _ _ _ clusters h in
    let tests : ((n == 0) ≡ false) × (nat_lt (10 ^ 12) n ≡ false) = neither (n == 0) (nat_lt (10 ^ 12) n) told.0 in
    let least : n ≢ 0 = λ e. let t : (n == 0) ≡ true = eq-eqb n 0 e in absurd (cc) in
    let some : length ms ≢ 0 = λ e. let t : (length ms == 0) ≡ true = eq-eqb (length ms) 0 e in absurd (cc) in
    subst AreClusters told.3 (sound_without_fault n ms (omega arith) (ltb-false (10 ^ 12) n tests.1) (omega arith) told.2)

-- and clusters can be built
pub sound_is_built : (clusters : ClusterList) → AreClusters clusters → clusters_of clusters.increment clusters.members ≡ Ok clusters
sound_is_built clusters sound =
    let none : fault_from clusters.increment [] clusters.members ≡ None =
    fits_without_fault clusters.increment [] clusters.members (record { few = sound.count_most; names = sound.names_differ; initials = sound.initials_differ; below = sound.initials_below }) in
    let least : (clusters.increment == 0) ≡ false = not_true _ (λ t. let e : clusters.increment ≡ 0 = eqb-true _ _ t in let l : 0 < clusters.increment = sound.increment_least in absurd (omega arith)) in
    let most : nat_lt (10 ^ 12) clusters.increment ≡ false = not_true _ (λ t. let g : 10 ^ 12 < clusters.increment = ltb-true _ _ t in let l : clusters.increment ≤ 10 ^ 12 = sound.increment_most in absurd (omega arith)) in
    let some : (length clusters.members == 0) ≡ false = not_true _ (λ t. let e : length clusters.members ≡ 0 = eqb-true _ _ t in let l : 0 < length clusters.members = sound.count_least in absurd (omega arith)) in
    rw (least, most, some, none) refl
