-- Where the cells of a cluster stand.
use Rattle.std.specs.Prelude.{ℕ, List}
use Rattle.ndc_domain.specs.Clusters.{ClusterList}
use Rattle.ndc_domain.specs.declared.clusters.ClusterNo.{ClusterNo}
use Rattle.ndc_domain.specs.declared.record.DomainRecord.{DomainRecord}
use Rattle.ndc_model_cells.specs.Writing.{Desk}

-- all clusters, which of them it is, and the limit of histories
pub record HomeValue : Type 0 where
  pub clusters : ClusterList
  pub me : ClusterNo
  pub limit : ℕ

-- the desk at which they do jobs: their home, with the domain records of their cluster
abbrev pub desk_of : HomeValue → List DomainRecord → Desk
desk_of home table = record { clusters = home.clusters; me = home.me; limit = home.limit; table = table }
