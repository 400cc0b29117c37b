-- What is promised of each world of a script, beside what clusters show of workflows.
use Rattle.std.specs.Prelude.{◌≡◌, ℕ, ◌<◌, List}
use Rattle.std.specs.List.{AllByRecursion}
use Rattle.ndc_script_types.specs.WellFormed.{AreTwoClusters, IsCluster}
use Rattle.ndc_script_types.specs.declared.script.Header.{Header}
use Rattle.ndc_domain.specs.declared.clusters.ClusterNo.{ClusterNo}
use Rattle.ndc_event.specs.declared.batch.Batch.{Batch}
use Rattle.ndc_event.specs.declared.name.Name.{Name}
use Rattle.ndc_laws.specs.Promised.{HaveTheSameReports, TipsDiffer}
use Rattle.ndc_laws.specs.TakenOver.{HaveTheSameClusters, synced}
use Rattle.ndc_laws_reached.specs.OneWriter.{EachHasOneCurrent}
use Rattle.ndc_laws_cells.specs.Past.{EventsAreOne}
use Rattle.ndc_laws_reached.specs.Trimmed.{IsLearnedOrLate, trimmed_of}
use Rattle.ndc_model.specs.Facts.{ReportsAgree}
use Rattle.ndc_model.specs.Fair.{written_of}
use Rattle.ndc_model.specs.World.{World, cluster_at}
use Rattle.ndc_model_sets.specs.Learned.{IsClosed, IsPart}
use Rattle.ndc_model_sets.specs.Sets.{IsSet}
use Rattle.ndc_model_sets.specs.Sound.{VersionsAreChains}
use Rattle.ndc_progress.specs.Reports.{held}
use Rattle.ndc_progress.specs.declared.report.ActivityRef.{ActivityRef}

-- each version has one writer: in each workflow all batches of one run and version form one chain, and an event that is named by its run, id
-- and version has one content and one past; what a source has trimmed of its queue is learned by the reader that it is addressed to, or of a
-- domain in which the reader is late
pub record HasOneWriters (header : Header) (w : World) : Type 0 where
  pub chains : (domain workflow : Name) → VersionsAreChains (written_of header domain workflow w)
  pub events : (domain workflow : Name) → EventsAreOne (written_of header domain workflow w)
  pub trimmed : (reader source : ClusterNo) (shard : ℕ) → AreTwoClusters header reader source → shard < header.shards → AllByRecursion (IsLearnedOrLate reader source shard w) (trimmed_of source shard w)

-- in each closed part of what was written of a workflow each run has one branch of greatest last version, and it is the current one; and the current
-- branches of no two runs share a tip
abbrev pub ClosedPartsHaveOneCurrent : Header → World → Type 0
ClosedPartsHaveOneCurrent header w =
    (domain workflow : Name) (part : List Batch) → IsSet part → IsClosed part → IsPart part (written_of header domain workflow w) → EachHasOneCurrent part × TipsDiffer part

-- progress reports: two of one activity, version and beat are one, and each stands in the list of the cluster that writes with its version;
-- clusters that have the same hold the same; and what is held after taking over those of others does not depend on their order or number
pub record HoldsReports (header : Header) (w : World) : Type 0 where
  pub agree : ReportsAgree header w
  pub same : (one two : ClusterNo) (activity : ActivityRef) → IsCluster header one → IsCluster header two → HaveTheSameReports one two w
      → held activity (cluster_at one w).reports ≡ held activity (cluster_at two w).reports
  pub any_order : (to : ClusterNo) (one two : List ClusterNo) (activity : ActivityRef) → IsCluster header to → AllByRecursion (AreTwoClusters header to) one → AllByRecursion (AreTwoClusters header to) two
      → HaveTheSameClusters one two → held activity (cluster_at to (synced header to one w)).reports ≡ held activity (cluster_at to (synced header to two w)).reports
