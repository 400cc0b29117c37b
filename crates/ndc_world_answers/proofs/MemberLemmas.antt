-- The names of members, number by number.
use Rattle.std.proofs.Common.{◌≡◌, ℕ, ◌+◌, ◌<◌, ◌≤◌, Bool, true, false, ◌||◌, ◌==◌, ◌⊎◌, inl, inr, List, [], ◌∷◌, ◌++◌, map, drop, refl, sym, ap, ◌∙◌, subst, arith, append-nil, append_assoc}
use Rattle.std.specs.List.{AllByRecursion, filter}
use Rattle.std.proofs.lemmas.Bool.{cases_eq, eqb-true}
use Rattle.ndc_domain.specs.Clusters.{ClusterList, cluster_no, name_of}
use Rattle.ndc_world_answers.specs.Writers.{names_at}
use Rattle.ndc_domain.specs.Members.{AreMembers, has_member, numbers, numbers_where}

-- each number that is a member holds what all members hold
pub member-all : (P : ℕ → Type 0) (members : List ℕ) (number : ℕ) → AllByRecursion P members → has_member members number ≡ true → P number
member-all P [] number all h = absurd (cc)
member-all P (m ∷ ms) number all h = by (m == number) refl h (member-all P ms number all.1)
  where
    by : (t : Bool) → (m == number) ≡ t → (t || has_member ms number) ≡ true → (has_member ms number ≡ true → P number) → P number
    by true e h rest = subst P (eqb-true m number e) all.0
    by false e h rest = rest h

-- the numbers from one of them on
numbers-left : (n : ℕ) → n < 8 → drop n numbers ≡ n ∷ drop (n + 1) numbers
unfolding numbers
numbers-left n less =
    elim (cases_eq n 0) [
      | inl e ↦ rw e refl
      | inr a ↦ elim (cases_eq n 1) [
        | inl e ↦ rw e refl
        | inr b ↦ elim (cases_eq n 2) [
          | inl e ↦ rw e refl
          | inr c ↦ elim (cases_eq n 3) [
            | inl e ↦ rw e refl
            | inr d ↦ elim (cases_eq n 4) [
              | inl e ↦ rw e refl
              | inr f ↦ elim (cases_eq n 5) [
                | inl e ↦ rw e refl
                | inr g ↦ elim (cases_eq n 6) [ inl e ↦ rw e refl | inr h ↦ elim (cases_eq n 7) [ inl e ↦ rw e refl | inr i ↦ absurd (omega (arith, less, a, b, c, d, f, g, h, i)) ] ]
              ]
            ]
          ]
        ]
      ]
    ]

-- the names of the members among the numbers from this one on
abbrev pub names_from : ClusterList → List ℕ → ℕ → List (List ℕ)
names_from clusters members number = map (λ n. name_of clusters (cluster_no n)) (filter (has_member members) (drop number numbers))

-- the name of the next number goes last, where it is a member
pub next-name : (clusters : ClusterList) (members : List ℕ) (number : ℕ) (done new all : List (List ℕ)) → number < 8 → new ≡ done ++ names_at clusters members number → done ++ names_from clusters members number ≡ all
    → new ++ names_from clusters members (number + 1) ≡ all
next-name clusters members number done new all less made e =
    ap (λ (l : List (List ℕ)). l ++ names_from clusters members (number + 1)) made ∙ append_assoc done (names_at clusters members number) (names_from clusters members (number + 1))
    ∙ ap (λ (l : List (List ℕ)). done ++ l) (by (has_member members number) refl ∙ sym (ap (λ l. map (λ n. name_of clusters (cluster_no n)) (filter (has_member members) l)) (numbers-left number less))) ∙ e
  where
    rest : List (List ℕ)
    rest = names_from clusters members (number + 1)

    by : (t : Bool) → has_member members number ≡ t
        → names_at clusters members number ++ rest ≡ map (λ n. name_of clusters (cluster_no n)) (filter (has_member members) (number ∷ drop (number + 1) numbers))
    by true h = rw h refl
    by false h = rw h refl

-- after the last number the names are those of the members
pub all-names : (clusters : ClusterList) (members : List ℕ) (number : ℕ) (done : List (List ℕ)) → number ≡ 8 → AreMembers members → done ++ names_from clusters members number ≡ names_from clusters members 0
    → done ≡ map (λ n. name_of clusters (cluster_no n)) members
unfolding numbers numbers_where
all-names clusters members number done last are e =
    sym (append-nil done) ∙ ap (λ (l : List (List ℕ)). done ++ l) (sym (ap (names_from clusters members) last)) ∙ e ∙ ap (map (λ n. name_of clusters (cluster_no n))) (sym are)

pub ended : (clusters : ClusterList) (members : List ℕ) (number : ℕ) (done : List (List ℕ)) → number ≤ 8 → 8 ≤ number → done ++ names_from clusters members number ≡ names_from clusters members 0
    → (number ≡ 0) ⊎ AreMembers members → done ≡ map (λ n. name_of clusters (cluster_no n)) members
ended clusters members number done most least e (inl none) = absurd (omega (arith, none, least))
ended clusters members number done most least e (inr are) = all-names clusters members number done (omega (arith, most, least)) are e
