-- Names of writers.
use Rattle.std.specs.Prelude.{ℕ, List, [], Option, Some, None}
use Rattle.ndc_domain.specs.Clusters.{ClusterList, name_of, writer_of}
use Rattle.ndc_domain.specs.declared.clusters.ClusterNo.{ClusterNo}

-- the name of a cluster, where there is one
abbrev pub name_or_none : ClusterList → Option ClusterNo → List ℕ
name_or_none clusters None = []
name_or_none clusters (Some cluster) = name_of clusters cluster

-- the name of the cluster that writes with a version, where the clusters were given and one of them does
abbrev pub writer_name : Option ClusterList → ℕ → List ℕ
writer_name None version = []
writer_name (Some clusters) version = name_or_none clusters (writer_of clusters version)
