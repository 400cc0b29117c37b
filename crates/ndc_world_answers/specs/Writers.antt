-- Names of writers and members.
use Rattle.std.specs.Prelude.{ℕ, List, [], ◌∷◌, Option, Some, None, if◌then◌else◌}
use Rattle.ndc_domain.specs.Clusters.{ClusterList, cluster_no, name_of, writer_of}
use Rattle.ndc_domain.specs.Members.{has_member}
use Rattle.ndc_domain.specs.declared.clusters.ClusterNo.{ClusterNo}

-- the name of a cluster, where there is one
abbrev pub name_or_none : ClusterList → Option ClusterNo → List ℕ
name_or_none clusters None = []
name_or_none clusters (Some cluster) = name_of clusters cluster

-- the name of the cluster that writes with a version, where there is one
abbrev pub writer_name_in : ClusterList → ℕ → List ℕ
writer_name_in clusters version = name_or_none clusters (writer_of clusters version)

-- the name of the cluster with this number, where it is a member
abbrev pub names_at : ClusterList → List ℕ → ℕ → List (List ℕ)
names_at clusters members number = if has_member members number then name_of clusters (cluster_no number) ∷ [] else []
