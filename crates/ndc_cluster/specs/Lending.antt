-- What a cluster is once the loan of its domain records has ended.
use Rattle.std.specs.Prelude.{List}
use Rattle.std.specs.Borrow.{Lends, MutBor, Fml, RattleType}
use Rattle.ndc_cluster.specs.Clusters.{ClusterValue, with_records}
use Rattle.ndc_cluster.specs.contracts.cluster.Cluster.{the_row as cluster_row}
use Rattle.ndc_cluster.specs.declared.cell.Cell.{Ghosts}
use Rattle.ndc_domain.specs.contracts.table.DomainTable.{the_row as table_row}
use Rattle.ndc_domain.specs.declared.record.DomainRecord.{DomainRecord}

-- the cluster ends with the records as they are left
abbrev pub LendsRecords : (C : RattleType) → Ghosts C.Denot → MutBor ClusterValue → MutBor (List DomainRecord) → Fml
LendsRecords C cell s r = Lends (cluster_row C cell) table_row s r (λ left. with_records left s.now)
