-- Clusters below a count.
use Rattle.std.proofs.Common.{◌≡◌, ◌<◌, ◌≤◌, ◌==◌, ◌||◌, ℕ, Bool, true, List, [], ◌∷◌, length, All, refl, ap, ◌∙◌, arith}
use Rattle.std.specs.List.{list_any, AllByRecursion as ByRecursion}
use Rattle.std.proofs.lemmas.Bool.{eq-eqb}
use Rattle.std.proofs.lemmas.List.Elements.{All-weaker, recursion_from_All}
use Rattle.ndc_domain.specs.declared.clusters.ClusterNo.{ClusterNo}
use Rattle.ndc_domain.specs.Flags.{has-where}
use Rattle.ndc_domain.specs.Members.{has_member, members_of}

-- clusters below a count of at most eight have numbers below eight
pub below_eight : (count : ℕ) (clusters : List ClusterNo) → count ≤ 8 → All (λ cluster. cluster.number < count) clusters → All (λ cluster. cluster.number < 8) clusters
below_eight count clusters most all = All-weaker (λ (cluster : ClusterNo). cluster.number < count) (λ (cluster : ClusterNo). cluster.number < 8) (λ cluster below. omega (arith, most, below)) clusters all

-- where there is a member there is one at least
some_has : (members : List ℕ) (n : ℕ) → has_member members n ≡ true → 0 < length members
some_has [] n h = absurd (cc)
some_has (member ∷ members) n h = omega arith

first_below : (clusters : List ClusterNo) → 0 < length clusters → ByRecursion (λ cluster. cluster.number < 8) clusters → 0 < length (members_of clusters)
first_below [] some all = absurd (omega arith)
first_below (cluster ∷ clusters) some all =
    some_has (members_of (cluster ∷ clusters)) cluster.number
    (has-where (λ number. list_any (λ (one : ClusterNo). one.number == number) (cluster ∷ clusters)) cluster.number all.0
    ∙ ap (λ (b : Bool). b || list_any (λ (one : ClusterNo). one.number == cluster.number) clusters) (eq-eqb cluster.number cluster.number refl))

-- clusters, where there are some, are some members
pub some_members : (clusters : List ClusterNo) → 0 < length clusters → All (λ cluster. cluster.number < 8) clusters → 0 < length (members_of clusters)
some_members clusters some all = first_below clusters some (recursion_from_All (λ (cluster : ClusterNo). cluster.number < 8) clusters all)
