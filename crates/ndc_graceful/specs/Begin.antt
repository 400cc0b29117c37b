-- The beginning of a handover: the domain fails over to the target, where its version is the cluster's own.
use Rattle.std.specs.Prelude.{ℕ, not, List, Option, Some, None, Result, Ok, Err, if◌then◌else◌}
use Rattle.ndc_model_cells.specs.Writing.{is_writer}
use Rattle.ndc_domain.specs.Clusters.{ClusterList, writer_of}
use Rattle.ndc_domain.specs.Records.{failover_of, record_of}
use Rattle.ndc_domain.specs.declared.clusters.ClusterNo.{ClusterNo}
use Rattle.ndc_domain.specs.declared.record.DomainRecord.{DomainRecord}
use Rattle.ndc_domain.specs.declared.record.FailoverError.{FailoverError}
use Rattle.ndc_domain.specs.declared.record.FailoverError.TheVariants as failover
use Rattle.ndc_event.specs.declared.name.Name.{Name}
use Rattle.ndc_graceful.specs.declared.handover.BeginError.{BeginError}
use Rattle.ndc_graceful.specs.declared.handover.BeginError.TheVariants as begin
use Rattle.ndc_graceful.specs.declared.handover.Handover.{Handover}

-- the handover of a domain between two clusters and two versions
abbrev pub handover_of : Name → ClusterNo → ClusterNo → ℕ → ℕ → List ℕ → Handover
handover_of domain from to old new places = record { domain = domain; from = from; to = to; old = old; new = new; places = places }

-- a refusal of `failover` as one of a handover: what is not a cluster is not a member either
abbrev pub as_begin_error : FailoverError → BeginError
as_begin_error failover.UnknownDomain = begin.UnknownDomain
as_begin_error failover.UnknownTarget = begin.NotMember
as_begin_error failover.VersionLimit = begin.VersionLimit
as_begin_error failover.NotMember = begin.NotMember

-- a handover begins where the domain fails over to the target
abbrev pub begun_by : ClusterNo → Name → ClusterNo → List ℕ → ℕ → Result (ℕ × List DomainRecord) FailoverError → Result (Handover × List DomainRecord) BeginError
begun_by at domain to places old (Err error) = Err (as_begin_error error)
begun_by at domain to places old (Ok answer) = Ok (handover_of domain at to old answer.0 places, answer.1)

-- a handover begins only where the version of the record is the cluster's own
abbrev pub begun_from : ClusterList → ClusterNo → Name → ClusterNo → List ℕ → List DomainRecord → Option DomainRecord → Result (Handover × List DomainRecord) BeginError
begun_from clusters at domain to places table None = Err begin.UnknownDomain
begun_from clusters at domain to places table (Some one) =
    if not (is_writer at (writer_of clusters one.version)) then Err (begin.NotActive one.version)
    else begun_by at domain to places one.version (failover_of clusters domain to table)

-- the beginning of a handover at a cluster: the handover and the table then, or the refusal
unfoldable pub begin_of : ClusterList → ClusterNo → Name → ClusterNo → List ℕ → List DomainRecord → Result (Handover × List DomainRecord) BeginError
begin_of clusters at domain to places table = begun_from clusters at domain to places table (record_of table domain)
