-- What is to hold further of every world that a script comes to: of handovers, letters and progress reports.
use Rattle.ndc_text.specs.Ranges.{InRange}
use Rattle.ndc_event.specs.declared.name.Name.{Name}
use Rattle.std.specs.Prelude.{◌≡◌, ◌≢◌, ℕ, ◌<◌, ◌≤◌, Bool, true, ◌&&◌, ◌==◌, not, AllPairs, drop, length, slice_index_or, Some, IsSomeAnd}
use Rattle.std.specs.List.{AllByRecursion, list_any, IsAmong}
use Rattle.std.specs.Str.{bytes_eq}
use Rattle.ndc_domain.specs.Clusters.{writer_of}
use Rattle.ndc_domain.specs.Records.{record_of}
use Rattle.ndc_domain.specs.declared.clusters.ClusterNo.{ClusterNo}
use Rattle.ndc_script_types.specs.WellFormed.{AreTwoClusters, IsCluster}
use Rattle.ndc_script_types.specs.declared.script.Header.{Header}
use Rattle.ndc_model_cells.specs.declared.message.Message.{Message}
use Rattle.ndc_model_cells.specs.Places.{is_at}
use Rattle.ndc_model_cells.specs.Shards.{shard_of}
use Rattle.ndc_model.specs.Fair.{HasRecordFrom, IsFair, IsShaped, is_named, written_of}
use Rattle.ndc_graceful.specs.declared.handover.Handover.{Handover}
use Rattle.ndc_letters.specs.declared.letter.Letter.{Letter}
use Rattle.ndc_letters.specs.Letters.{place_of_letter}
use Rattle.ndc_progress.specs.declared.report.Report.{Report}
use Rattle.ndc_model.specs.Queues.{names_cluster}
use Rattle.ndc_model.specs.World.{World, cluster_at, queue_at}

-- whether a message is of the domain of a handover and of its old version
abbrev pub is_old : Handover → Message → Bool
is_old handover sent = bytes_eq sent.batch.domain handover.domain && (sent.batch.key.version == handover.old)

-- the place of a handover in a shard
abbrev pub place_in : Handover → ℕ → ℕ
place_in handover shard = slice_index_or handover.places shard 0

-- an open handover: its old version is one of its cluster's, the new one is above it, the cluster's record has come to it and names the target, and for each shard
-- there is a place in the cluster's queue after all that is of the domain and of the old version
pub record IsHandoverFit (header : Header) (w : World) (handover : Handover) : Type 0 where
  pub clusters : AreTwoClusters header handover.from handover.to
  pub writer : writer_of header.clusters handover.old ≡ Some handover.from
  pub later : handover.old < handover.new
  pub given : HasRecordFrom handover.new handover.domain (cluster_at handover.from w).table
  pub names : names_cluster handover.to (record_of (cluster_at handover.from w).table handover.domain) ≡ true
  pub places : length handover.places ≡ header.shards
  pub place_most : (shard : ℕ) → shard < header.shards → place_in handover shard ≤ length (queue_at handover.from shard w)
  pub behind : (shard : ℕ) → shard < header.shards
      → AllByRecursion (λ sent. not (is_old handover sent) ≡ true) (drop (place_in handover shard) (queue_at handover.from shard w))

-- the open handovers: at most one of a domain
pub record HandoversFit (header : Header) (w : World) : Type 0 where
  pub one_each : AllPairs (λ one two. one.domain ≢ two.domain) w.handovers
  pub each : AllByRecursion (IsHandoverFit header w) w.handovers

-- a letter: its source is another cluster, whose queue has the message, and some record of its domain names the cluster
pub record IsLetterFit (header : Header) (w : World) (cluster : ClusterNo) (letter : Letter) : Type 0 where
  pub clusters : AreTwoClusters header cluster letter.source
  pub sent : list_any (λ sent. is_at (place_of_letter letter) sent.batch) (queue_at letter.source (shard_of letter.domain letter.workflow header.shards) w) ≡ true
  pub named : is_named header cluster w letter.domain ≡ true

-- the letters of each cluster
abbrev pub LettersFit : Header → World → Type 0
LettersFit header w = (cluster : ClusterNo) → IsCluster header cluster → AllByRecursion (IsLetterFit header w cluster) (cluster_at cluster w).letters

-- no beat is above the number of lines run
abbrev pub BeatsAreSmall : Header → ℕ → World → Type 0
BeatsAreSmall header lines w = (cluster : ClusterNo) → IsCluster header cluster → AllByRecursion (λ report. report.beat ≤ lines) (cluster_at cluster w).reports

-- reports of one activity, version and beat are one, and each stands in the list of the version's writer
pub record ReportsAgree (header : Header) (w : World) : Type 0 where
  pub one : (first second : ClusterNo) (report other : Report) → IsCluster header first → IsCluster header second → IsAmong (cluster_at first w).reports report
      → IsAmong (cluster_at second w).reports other → report.activity ≡ other.activity → report.version ≡ other.version → report.beat ≡ other.beat → report ≡ other
  pub told : (cluster : ClusterNo) → IsCluster header cluster
      → AllByRecursion (λ report. IsSomeAnd (writer_of header.clusters report.version) (λ writer. IsAmong (cluster_at writer w).reports report)) (cluster_at cluster w).reports

-- the numbers of all that was written are in the ranges of batch texts
abbrev pub WritingIsInRange : Header → World → Type 0
WritingIsInRange header w = (domain workflow : Name) → AllByRecursion InRange (written_of header domain workflow w)

-- all that holds of a world that so many lines lead to
pub record IsReached (header : Header) (lines : ℕ) (w : World) : Type 0 where
  pub shaped : IsShaped header w
  pub fair : IsFair header lines w
  pub ranges : WritingIsInRange header w
  pub handovers : HandoversFit header w
  pub letters : LettersFit header w
  pub beats : BeatsAreSmall header lines w
  pub reports : ReportsAgree header w
