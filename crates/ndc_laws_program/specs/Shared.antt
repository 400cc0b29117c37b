-- Domains that all clusters share.
use Rattle.std.specs.Prelude.{◌≡◌, ℕ, ◌<◌, true, Some}
use Rattle.ndc_script_types.specs.declared.script.Header.{Header}
use Rattle.ndc_domain.specs.Clusters.{count_of}
use Rattle.ndc_domain.specs.Members.{has_member}
use Rattle.ndc_domain.specs.Records.{record_of}
use Rattle.ndc_domain.specs.declared.clusters.ClusterNo.{ClusterNo}
use Rattle.ndc_domain.specs.declared.record.DomainRecord.{DomainRecord}
use Rattle.ndc_event.specs.declared.name.Name.{Name}
use Rattle.ndc_model.specs.World.{World, cluster_at}

-- a record that names all clusters of a header
abbrev pub NamesAll : Header → DomainRecord → Type 0
NamesAll header one = (number : ℕ) → number < count_of header.clusters → has_member one.members number ≡ true

-- each record that any cluster holds names all clusters
abbrev pub SharesAll : Header → World → Type 0
SharesAll header w = (cluster : ClusterNo) (domain : Name) (one : DomainRecord) → record_of (cluster_at cluster w).table domain ≡ Some one → NamesAll header one
