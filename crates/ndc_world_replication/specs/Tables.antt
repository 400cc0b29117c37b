-- Domain records of a cluster of the world that are changed where they stand.
use Rattle.std.specs.Prelude.{◌≡◌, List, [], ◌∷◌, ◌++◌, Result, Ok, Err, if◌then◌else◌}
use Rattle.std.specs.List.{AllByRecursion}
use Rattle.ndc_domain.specs.declared.clusters.ClusterNo.{ClusterNo}
use Rattle.ndc_domain.specs.Records.{IsTable}
use Rattle.ndc_domain.specs.declared.record.DomainRecord.{DomainRecord}
use Rattle.ndc_event.specs.declared.name.Name.{Name}
use Rattle.ndc_model.specs.World.{Cluster, Link, World, is_link, with_table}

-- the answer of a call on the records of a cluster, with the world that has the changed ones; or the refusal
abbrev pub table_changed : {X E : Type 0} → ClusterNo → World → Result (X × List DomainRecord) E → Result (X × World) E
table_changed cluster w (Ok answer) = Ok (answer.0, with_table cluster answer.1 w)
table_changed cluster w (Err error) = Err error

-- the same of a call that answers the records alone
abbrev pub table_left : {E : Type 0} → ClusterNo → World → Result (List DomainRecord) E → Result World E
table_left cluster w (Ok table) = Ok (with_table cluster table w)
table_left cluster w (Err error) = Err error

-- a domain goes last among those of which a reader is a member late, as to a source
abbrev pub with_late_domain : ClusterNo → ClusterNo → Name → Link → Link
with_late_domain reader source domain link = if is_link reader source link then record link { late = link.late ++ domain ∷ [] } else link

-- each of these clusters holds these domain records
abbrev pub HaveAll : List DomainRecord → List Cluster → Type 0
HaveAll records clusters = AllByRecursion (λ (cluster : Cluster). cluster.table ≡ records) clusters

-- all of these clusters hold the same domain records
pub record HaveOneTable (clusters : List Cluster) : Type 0 where
  pub records : List DomainRecord
  pub ordered : IsTable records
  pub everywhere : HaveAll records clusters
