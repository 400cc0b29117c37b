-- What worlds that are as they should be give to the calls of lines.
use Rattle.std.proofs.Common.{ℕ, ◌<◌, ◌^◌, List, [], ◌∷◌, Option, Some, None, IfSome, length, Bool, true, false, if◌then◌else◌, arith}
use Rattle.std.specs.List.{AllByRecursion}
use Rattle.std.specs.Str.{bytes_eq}
use Rattle.ndc_script_types.specs.WellFormed.{IsCluster, IsWellFormedHeader}
use Rattle.ndc_script_types.specs.declared.script.Header.{Header}
use Rattle.ndc_domain.specs.Clusters.{count_of}
use Rattle.ndc_domain.specs.Records.{record_of}
use Rattle.ndc_domain.specs.declared.clusters.ClusterNo.{ClusterNo}
use Rattle.ndc_domain.specs.declared.record.DomainRecord.{DomainRecord}
use Rattle.ndc_event.specs.declared.name.Name.{Name}
use Rattle.ndc_laws_reached.proofs.LearnedRanges.{ranges}
use Rattle.ndc_model.specs.Reading.{learned_at}
use Rattle.ndc_text.specs.Ranges.{InRange}
use Rattle.ndc_letters.specs.declared.letter.Letter.{Letter}
use Rattle.ndc_model.specs.Facts.{IsHandoverFit, IsLetterFit, IsReached}
use Rattle.ndc_model.specs.Fair.{AreMembersKnown, IsRecordInRange}
use Rattle.ndc_model.specs.World.{World, cluster_at}
use Rattle.ndc_model.proofs.ListLemmas.{all-weaker}
use Rattle.ndc_world_steps.specs.Links.{IsBetween}
use Rattle.ndc_world_replication.specs.Orderly.{IsOrderly}
use Rattle.ndc_world_replication.proofs.OrderlyLemmas.{orderly_fair}

-- what holds of all records holds of the one that is found
found-record : (P : DomainRecord → Type 0) (table : List DomainRecord) (name : Name) → AllByRecursion P table → IfSome (record_of table name) P
found-record P [] name all = tt
found-record P (one ∷ table) name all = by (bytes_eq one.name name) (found-record P table name all.1)
  where
    by : (t : Bool) → IfSome (record_of table name) P → IfSome (if t then Some one else record_of table name) P
    by true rest = all.0
    by false rest = rest

some-weaker : {X : Type 0} (P Q : X → Type 0) → ((x : X) → P x → Q x) → (o : Option X) → IfSome o P → IfSome o Q
some-weaker P Q gives None given = tt
some-weaker P Q gives (Some x) given = gives x given

module _ (header : Header) (lines : ℕ) (w : World) (is : IsReached header lines w) where
  -- the clusters of the header are those of the world
  pub there : (cluster : ClusterNo) → IsCluster header cluster → cluster.number < length w.clusters
  there cluster known = omega (arith, known, is.shaped.clusters)

  pub orderly : IsOrderly header w
  orderly = orderly_fair header w is.shaped is.fair.lanes

  -- config versions are small
  pub config_small : (cluster : ClusterNo) (domain : Name) → IsCluster header cluster → IfSome (record_of (cluster_at cluster w).table domain) (λ old. old.config < 10 ^ 12)
  config_small cluster domain known =
      some-weaker (IsRecordInRange header lines) (λ (old : DomainRecord). old.config < 10 ^ 12) (λ old range. omega (arith, range.config_most, is.fair.numbers.lines_most))
      (record_of (cluster_at cluster w).table domain) (found-record (IsRecordInRange header lines) (cluster_at cluster w).table domain (is.fair.records.ranges cluster known))

  -- members are clusters of the header
  pub members_known : (cluster : ClusterNo) (domain : Name) → IsCluster header cluster
      → IfSome (record_of (cluster_at cluster w).table domain) (λ one. AllByRecursion (λ number. number < count_of header.clusters) one.members)
  members_known cluster domain known =
      some-weaker (AreMembersKnown header) (λ (one : DomainRecord). AllByRecursion (λ number. number < count_of header.clusters) one.members) (λ one fit. fit.known)
      (record_of (cluster_at cluster w).table domain) (found-record (AreMembersKnown header) (cluster_at cluster w).table domain (is.fair.members.members cluster known))

  -- letters come from clusters of the header
  pub sources_known : (cluster : ClusterNo) → IsCluster header cluster → AllByRecursion (λ (letter : Letter). letter.source.number < count_of header.clusters) (cluster_at cluster w).letters
  sources_known cluster known =
      all-weaker (IsLetterFit header w cluster) (λ (letter : Letter). letter.source.number < count_of header.clusters) (λ letter fit. fit.clusters.second) (cluster_at cluster w).letters (is.letters cluster known)

  -- handovers lie between two clusters of the header, with a place for each shard
  pub handovers_fit : AllByRecursion (IsBetween header) w.handovers
  handovers_fit =
      all-weaker (IsHandoverFit header w) (IsBetween header) (λ handover fit. record { clusters = fit.clusters; places = fit.places }) w.handovers is.handovers.each

  -- all that is learned is in the ranges of the batch text
  pub learned_in_range : IsWellFormedHeader header → (cluster : ClusterNo) (domain workflow : Name) → IsCluster header cluster → AllByRecursion InRange (learned_at header cluster domain workflow w)
  learned_in_range fit cluster domain workflow known = ranges header lines w fit is cluster known domain workflow
