-- Lines on domains.
use Rattle.std.specs.Prelude.{ℕ, List, [], ◌∷◌, map, codes, decimal, Option, Some, None, Result, Ok, Err}
use Rattle.ndc_domain.specs.Clusters.{cluster_no, name_of, writer_of}
use Rattle.ndc_domain.specs.Merge.{merge_count, merged}
use Rattle.ndc_domain.specs.declared.clusters.ClusterNo.{ClusterNo}
use Rattle.ndc_domain.specs.declared.record.DomainError.{DomainError}
use Rattle.ndc_domain.specs.declared.record.DomainError.TheVariants as register
use Rattle.ndc_domain.specs.declared.record.DomainRecord.{DomainRecord}
use Rattle.ndc_domain.specs.declared.record.FailoverError.{FailoverError}
use Rattle.ndc_domain.specs.declared.record.FailoverError.TheVariants as failover
use Rattle.ndc_domain.specs.declared.record.JoinError.{JoinError}
use Rattle.ndc_domain.specs.declared.record.JoinError.TheVariants as join
use Rattle.ndc_domain.specs.declared.record.RetainError.{RetainError}
use Rattle.ndc_domain.specs.declared.record.RetainError.TheVariants as retain
use Rattle.ndc_script_types.specs.declared.script.Header.{Header}
use Rattle.ndc_text.specs.Views.{with_commas}
use Rattle.ndc_model.specs.Steps.{Stepped, answered}
use Rattle.ndc_model.specs.Texts.{ok, refused}
use Rattle.ndc_model.specs.World.{World, cluster_at, with_table}

-- what a change of a table that answers a number leaves and answers
abbrev pub table_step : {E : Type 0} → (E → List (List ℕ)) → ClusterNo → World → Result (ℕ × List DomainRecord) E → Stepped
table_step words cluster w (Ok answer) = answered (with_table cluster answer.1 w) (ok (decimal answer.0 ∷ []))
table_step words cluster w (Err error) = answered w (refused (words error))

-- how the refusals of `register` are printed
abbrev pub register_words : DomainError → List (List ℕ)
register_words register.NotPrimary = codes "NotPrimary" ∷ []
register_words register.DomainExists = codes "DomainExists" ∷ []
register_words register.UnknownTarget = codes "UnknownTarget" ∷ []
register_words register.NotMember = codes "NotMember" ∷ []
register_words register.Memory = []

-- how the refusals of `retain` are printed
abbrev pub retain_words : RetainError → List (List ℕ)
retain_words retain.NotPrimary = codes "NotPrimary" ∷ []
retain_words retain.UnknownDomain = codes "UnknownDomain" ∷ []

-- how the refusals of `failover` are printed
abbrev pub failover_words : FailoverError → List (List ℕ)
failover_words failover.UnknownDomain = codes "UnknownDomain" ∷ []
failover_words failover.UnknownTarget = codes "UnknownTarget" ∷ []
failover_words failover.VersionLimit = codes "VersionLimit" ∷ []
failover_words failover.NotMember = codes "NotMember" ∷ []

-- how the refusals of `join` are printed
abbrev pub join_words : JoinError → List (List ℕ)
join_words join.NotPrimary = codes "NotPrimary" ∷ []
join_words join.UnknownDomain = codes "UnknownDomain" ∷ []
join_words join.MemberExists = codes "MemberExists" ∷ []

-- `join`
abbrev pub join_step : ClusterNo → World → Result (List DomainRecord) JoinError → Stepped
join_step at w (Ok table) = answered (with_table at table w) (ok [])
join_step at w (Err error) = answered w (refused (join_words error))

-- the name of a writer, where there is one
abbrev pub writer_name : Header → Option ClusterNo → List ℕ
writer_name header None = []
writer_name header (Some cluster) = name_of header.clusters cluster

-- `domain`: a record's version, active cluster, config version and days
abbrev pub domain_answer : Header → Option DomainRecord → List ℕ
domain_answer header None = refused (codes "UnknownDomain" ∷ [])
domain_answer header (Some one) = ok (decimal one.version ∷ writer_name header (writer_of header.clusters one.version) ∷ decimal one.config ∷ decimal one.days ∷ [])

-- `members`: the names of a record's members in header order
abbrev pub members_answer : Header → Option DomainRecord → List ℕ
members_answer header None = refused (codes "UnknownDomain" ∷ [])
members_answer header (Some one) = ok (with_commas (map (λ number. name_of header.clusters (cluster_no number)) one.members) ∷ [])

-- `domains`: one cluster merges the table of another
abbrev pub domains_step : ClusterNo → ClusterNo → World → Stepped
domains_step to from w =
    answered (with_table to (merged (cluster_at to w).table (cluster_at from w).table) w) (ok (decimal (merge_count (cluster_at to w).table (cluster_at from w).table) ∷ []))
