-- Clusters below a count.
use Rattle.std.specs.Prelude.{ℕ, zero, suc, List, [], ◌∷◌, ◌++◌}
use Rattle.ndc_domain.specs.Clusters.{cluster_no}
use Rattle.ndc_domain.specs.declared.clusters.ClusterNo.{ClusterNo}

-- the first clusters, as many as this
abbrev pub clusters_below : ℕ → List ClusterNo
clusters_below zero = []
clusters_below (suc count) = clusters_below count ++ cluster_no count ∷ []
