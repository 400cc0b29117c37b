-- Clusters: their names, and which of them writes with a version.
use Rattle.std.specs.Prelude.{◌≢◌, ℕ, ◌%◌, ◌^◌, ◌<◌, ◌≤◌, Bool, ◌||◌, ◌==◌, nat_le, nat_lt, List, [], ◌∷◌, ◌++◌, length, position, option_map, slice_index_or, Option, Some, None, Result, Ok, Err, if◌then◌else◌}
use Rattle.std.specs.Str.{bytes_eq}
use Rattle.std.specs.List.{list_any}
use Rattle.ndc_domain.specs.declared.clusters.ClusterNo.{ClusterNo}
use Rattle.ndc_domain.specs.declared.clusters.ClustersError.{ClustersError}
use Rattle.ndc_domain.specs.declared.clusters.ClustersError.TheVariants.{IncrementLimit, NoClusters, TooMany, SameName, SameInitial, NotBelowIncrement}

-- the increment of the versions that clusters share, and each cluster's name and initial version in order
pub record ClusterList : Type 0 where
  pub increment : ℕ
  pub members : List (List ℕ × ℕ)

-- how many clusters there are
abbrev pub count_of : ClusterList → ℕ
count_of clusters = length clusters.members

-- the cluster at a place
abbrev pub cluster_no : ℕ → ClusterNo
cluster_no place = record { number = place }

-- the name of a cluster
abbrev pub name_of : ClusterList → ClusterNo → List ℕ
name_of clusters cluster = (slice_index_or clusters.members cluster.number ([], 0)).0

-- the initial version of a cluster
abbrev pub initial_of : ClusterList → ClusterNo → ℕ
initial_of clusters cluster = (slice_index_or clusters.members cluster.number ([], 0)).1

-- the cluster of this name
abbrev pub find_of : ClusterList → List ℕ → Option ClusterNo
find_of clusters name = option_map cluster_no (position (λ member. bytes_eq member.0 name) clusters.members)

-- the cluster that writes with this version: its initial version is the version modulo the increment
abbrev pub writer_of : ClusterList → ℕ → Option ClusterNo
writer_of clusters version =
    option_map cluster_no (position (λ member. member.1 == version % clusters.increment) clusters.members)

-- one to eight clusters, whose names differ, and whose initial versions differ and are below the increment, 1 to 10^12
pub record AreClusters (clusters : ClusterList) : Type 0 where
  pub increment_least : 0 < clusters.increment
  pub increment_most : clusters.increment ≤ 10 ^ 12
  pub count_least : 0 < count_of clusters
  pub count_most : count_of clusters ≤ 8
  pub names_differ : (i j : ℕ) → i < j → j < count_of clusters → name_of clusters (cluster_no i) ≢ name_of clusters (cluster_no j)
  pub initials_differ : (i j : ℕ) → i < j → j < count_of clusters → initial_of clusters (cluster_no i) ≢ initial_of clusters (cluster_no j)
  pub initials_below : (i : ℕ) → i < count_of clusters → initial_of clusters (cluster_no i) < clusters.increment

-- one of the members has this name
abbrev pub has_name : List ℕ → List (List ℕ × ℕ) → Bool
has_name name members = list_any (λ member. bytes_eq member.0 name) members

-- one of the members has this initial version
abbrev pub has_initial : ℕ → List (List ℕ × ℕ) → Bool
has_initial initial members = list_any (λ member. member.1 == initial) members

-- the first rule that a member breaks after those before it
abbrev pub member_fault : ℕ → List (List ℕ × ℕ) → List ℕ × ℕ → Option ClustersError
member_fault increment before member =
    if nat_le 8 (length before) then Some (TooMany (length before))
    else if has_name member.0 before then Some (SameName (length before))
    else if has_initial member.1 before then Some (SameInitial (length before))
    else if nat_le increment member.1 then Some (NotBelowIncrement (length before))
    else None

-- the earlier fault, or else the later one
abbrev pub first_fault : Option ClustersError → Option ClustersError → Option ClustersError
first_fault (Some fault) later = Some fault
first_fault None later = later

-- the first fault of the members that come after those before
abbrev pub fault_from : ℕ → List (List ℕ × ℕ) → List (List ℕ × ℕ) → Option ClustersError
fault_from increment before [] = None
fault_from increment before (member ∷ members) =
    first_fault (member_fault increment before member) (fault_from increment (before ++ member ∷ []) members)

-- the clusters, where there is no fault
abbrev pub clusters_without : Option ClustersError → ClusterList → Result ClusterList ClustersError
clusters_without None clusters = Ok clusters
clusters_without (Some fault) clusters = Err fault

-- the clusters of an increment and members, or the first reason why there are none
abbrev pub clusters_of : ℕ → List (List ℕ × ℕ) → Result ClusterList ClustersError
clusters_of increment members =
    if (increment == 0) || nat_lt (10 ^ 12) increment then Err IncrementLimit
    else if length members == 0 then Err NoClusters
    else clusters_without (fault_from increment [] members) (record { increment = increment; members = members })
