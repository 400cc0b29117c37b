-- The least number from another one on that leaves a given rest.
use Rattle.std.proofs.Common.{◌≡◌, ℕ, ◌+◌, ◌-◌, ◌*◌, ◌/◌, ◌%◌, ◌<◌, ◌≤◌, true, false, nat_le, cond, inl, inr, refl, sym, ◌∙◌, ap, arith}
use Rattle.std.proofs.Math.Nat.{mul-le-mul_left}
use Rattle.std.proofs.lemmas.Nat.{mod-mul-add}
use Rattle.std.proofs.lemmas.Bool.{leb-true, leb-false, cases_lt}
use Rattle.ndc_domain.specs.declared.clusters.ClusterNo.{ClusterNo}
use Rattle.ndc_domain.specs.Clusters.{ClusterList, AreClusters, count_of, initial_of}
use Rattle.ndc_domain.specs.Next.{IsNext, next_with_rest, next_of}
use Rattle.ndc_domain.proofs.Writers.{rest_of_writer, writer_of_rest}

-- what is said of the number up to the next rest, by whether the rest is still to come in this round
by_round : (P : ℕ → Type 0) (n old r : ℕ) →
    (old % n ≤ r → P (old + (r - old % n))) → (r < old % n → P (old + (n - old % n) + r)) → P (next_with_rest n old r)
by_round P n old r same later =
    elim (nat_le (old % n) r) as (λ t. nat_le (old % n) r ≡ t → P (cond t (old + (r - old % n)) (old + (n - old % n) + r))) [
      | true ↦ λ e. same (leb-true _ _ e)
      | false ↦ λ e. later (leb-false _ _ e)
    ] refl

-- a rest below n, after whole rounds
small_rest : (n k r x : ℕ) → r < n → x ≡ k * n + r → x % n ≡ r
small_rest n k r x l e = ap (λ (y : ℕ). y % n) e ∙ mod-mul-add k n r l

pub next_not_below : (n old r : ℕ) → r < n → old ≤ next_with_rest n old r
next_not_below n old r l = by_round (λ x. old ≤ x) n old r (λ h. omega arith) (λ h. omega arith)

pub next_leaves : (n old r : ℕ) → r < n → next_with_rest n old r % n ≡ r
next_leaves n old r l =
    by_round (λ x. x % n ≡ r) n old r
    (λ h. small_rest n (old / n) r (old + (r - old % n)) l (omega arith))
    (λ h. small_rest n (old / n + 1) r (old + (n - old % n) + r) l (omega arith))

-- of two numbers with rests below n, the one with more rounds is greater
fewer_rounds : (n q w a b : ℕ) → b < n → n * q + a ≤ n * w + b → q ≤ w
fewer_rounds n q w a b l h =
    elim (cases_lt w q) as (λ _. q ≤ w) [
      | inl gt ↦ let next : w + 1 ≤ q = omega arith in
          let more : n * (w + 1) ≤ n * q = mul-le-mul_left n next in absurd (omega arith)
      | inr le ↦ le
    ]

pub next_no_later : (n old r v : ℕ) → r < n → old ≤ v → v % n ≡ r → next_with_rest n old r ≤ v
next_no_later n old r v l le e =
    by_round (λ x. x ≤ v) n old r
    (λ h. let q : old / n ≤ v / n = fewer_rounds n (old / n) (v / n) (old % n) (v % n) (omega arith) (omega arith) in
    let more : n * (old / n) ≤ n * (v / n) = mul-le-mul_left n q in
    omega arith)
    (λ h. let q : old / n ≤ v / n = fewer_rounds n (old / n) (v / n) (old % n) (v % n) (omega arith) (omega arith) in
    let ne : old / n ≡ v / n → ⊥ = λ same. let rounds : n * (old / n) ≡ n * (v / n) = ap (λ (k : ℕ). n * k) same in omega arith in
    let up : old / n + 1 ≤ v / n = omega arith in
    let more : n * (old / n + 1) ≤ n * (v / n) = mul-le-mul_left n up in
    omega arith)

-- the next version by remainders is the least version of the cluster from the old one on
pub next_is : (clusters : ClusterList) (old : ℕ) (to : ClusterNo) → AreClusters clusters → to.number < count_of clusters →
    IsNext clusters old to (next_of clusters old to)
next_is clusters old to sound l =
    let below : initial_of clusters to < clusters.increment = sound.initials_below to.number l in (
      next_not_below clusters.increment old (initial_of clusters to) below,
      writer_of_rest clusters (next_of clusters old to) to sound l
          (sym (next_leaves clusters.increment old (initial_of clusters to) below)),
      λ version le writes.
          next_no_later clusters.increment old (initial_of clusters to) version below le
          (sym ((rest_of_writer clusters version to writes).1)),
    )
