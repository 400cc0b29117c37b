-- The opening world is fair.
use Rattle.std.proofs.Common.{◌≡◌, ◌≢◌, ℕ, zero, suc, ◌<◌, ◌≤◌, true, not, ◌⊎◌, inl, inr, true≢false, List, [], ◌∷◌, ◌++◌, length, map, replicate, slice_index_or, refl, sym, ◌∙◌, subst, ap, arith}
use Rattle.std.specs.Prelude.{AllPairs, IsSomeAnd}
use Rattle.std.specs.List.{AllByRecursion, IsAmong, filter, flat_map}
use Rattle.std.proofs.lemmas.Bool.Decides.{nat_tests}
use Rattle.std.proofs.lemmas.List.{length-append, length-map, length-replicate}
use Rattle.ndc_domain.specs.Clusters.{cluster_no, count_of, writer_of}
use Rattle.ndc_domain.specs.Laws.{DaysAgree}
use Rattle.ndc_domain.specs.Records.{IsTable, record_of}
use Rattle.ndc_domain.specs.declared.clusters.ClusterNo.{ClusterNo}
use Rattle.ndc_domain.specs.declared.record.DomainRecord.{DomainRecord}
use Rattle.ndc_event.specs.declared.batch.Batch.{Batch}
use Rattle.ndc_event.specs.declared.name.Name.{Name}
use Rattle.ndc_script_types.specs.Below.{clusters_below}
use Rattle.ndc_script_types.specs.WellFormed.{AreTwoClusters}
use Rattle.ndc_script_types.specs.declared.script.Header.{Header}
use Rattle.ndc_model_sets.specs.Sets.{Has}
use Rattle.ndc_model_sets.specs.Sound.{IsSound}
use Rattle.ndc_model_sets.proofs.SoundLemmas.{nothing_is_sound}
use Rattle.ndc_text.specs.Ranges.{InRange}
use Rattle.ndc_model.proofs.ListLemmas.{all-flat, all-map, all-weaker}
use Rattle.ndc_model_sets.proofs.ForkLemmas.{among-cases}
use Rattle.ndc_model_sets.proofs.Lists.{Among, all-from, filter-among, map-among}
use Rattle.ndc_model_cells.specs.declared.place.Place.{Place}
use Rattle.ndc_model_cells.specs.Cells.{Cell, both, empty_cell}
use Rattle.ndc_model_cells.specs.Places.{in_order, is_of, place_of}
use Rattle.ndc_model_cells.specs.Writing.{same_cluster}
use Rattle.ndc_progress.specs.declared.report.Report.{Report}
use Rattle.ndc_model.specs.Facts.{IsLetterFit, IsReached, ReportsAgree}
use Rattle.ndc_model.specs.Fair.{AreMessagesTrue, AreNumbersSmall, ArrivalsWereWritten, CopiesNameOriginals, EachRecord, IsArrivedFit, IsFair, IsLaneTrue, IsOwn, IsShaped, LanesAreTrue, MembersAlone, MessagesAreTrue, NumbersAreSmall, RecordsAgree, WritersUseOwnVersions, WritingIsSound, is_named, places_written, written_of}
use Rattle.ndc_model_cells.specs.Shards.{shard_of}
use Rattle.ndc_model.specs.Moves.{all_written}
use Rattle.ndc_model.specs.Queues.{Lane, names_cluster, new_lane}
use Rattle.ndc_model.specs.World.{Cluster, Link, cell_at, cluster_at, all_clusters, lane_in, new_cluster, new_link, opening_world, others_of, queue_at, trimmed_at}

-- lists of the same
index-same : {X : Type 0} (x : X) (n i : ℕ) → slice_index_or (replicate n x) i x ≡ x
index-same x zero i = refl
index-same x (suc n) zero = refl
index-same x (suc n) (suc i) = index-same x n i

index-either : {X Y : Type 0} (P : Y → Type 0) (y d : Y) (xs : List X) (i : ℕ) → P y → P d → P (slice_index_or (map (λ _. y) xs) i d)
index-either P y d [] i p q = q
index-either P y d (x ∷ xs) zero p q = p
index-either P y d (x ∷ xs) (suc i) p q = index-either P y d xs i p q

flat-none : {X Y : Type 0} (f : X → List Y) (xs : List X) → ((x : X) → f x ≡ []) → flat_map f xs ≡ []
flat-none f [] none = refl
flat-none f (x ∷ xs) none = ap (λ ys. ys ++ flat_map f xs) (none x) ∙ flat-none f xs none

-- the clusters of a header
pub clusters-among : (count : ℕ) (cluster : ClusterNo) → Among cluster (clusters_below count) → cluster.number < count
clusters-among zero cluster none = absurd none
clusters-among (suc count) cluster among = by (clusters-among count cluster) (among-cases cluster (clusters_below count) (cluster_no count ∷ []) among)
  where
    by : (Among cluster (clusters_below count) → cluster.number < count) → Among cluster (clusters_below count) ⊎ Among cluster (cluster_no count ∷ []) → cluster.number < suc count
    by below (inl front) = omega (arith, below front)
    by below (inr (inl same)) = omega (arith, ap (λ (c : ClusterNo). c.number) same)
    by below (inr (inr none)) = absurd none

module _ (header : Header) where
  -- what holds of a cluster in the beginning holds of each
  each-cluster : (P : Cluster → Type 0) (cluster : ClusterNo) → P (new_cluster header.shards) → P (new_cluster 0) → P (cluster_at cluster (opening_world header))
  each-cluster P cluster p q = index-either P (new_cluster header.shards) (new_cluster 0) (all_clusters header) cluster.number p q

  no-table : (cluster : ClusterNo) → (cluster_at cluster (opening_world header)).table ≡ []
  no-table cluster = each-cluster (λ c. c.table ≡ []) cluster refl refl

  no-letters : (cluster : ClusterNo) → (cluster_at cluster (opening_world header)).letters ≡ []
  no-letters cluster = each-cluster (λ c. c.letters ≡ []) cluster refl refl

  no-reports : (cluster : ClusterNo) → (cluster_at cluster (opening_world header)).reports ≡ []
  no-reports cluster = each-cluster (λ c. c.reports ≡ []) cluster refl refl

  each-cell : (cluster : ClusterNo) (shard : ℕ) → cell_at cluster shard (opening_world header) ≡ empty_cell
  each-cell cluster shard = each-cluster (λ c. slice_index_or c.cells shard empty_cell ≡ empty_cell) cluster (index-same empty_cell header.shards shard) (index-same empty_cell 0 shard)

  -- what a reader has of a source in the beginning
  record IsNew (link : Link) : Type 0 where
    lanes : link.lanes ≡ replicate header.shards new_lane
    late : link.late ≡ []
    ends : AreTwoClusters header link.reader link.source

  new-is : (reader source : ClusterNo) → Among reader (all_clusters header) → Among source (others_of header reader) → IsNew (new_link header reader source)
  new-is reader source first second =
      let p = filter-among (λ other. not (same_cluster reader other)) (all_clusters header) source second in
      record {
        lanes = refl;
        late = refl;
        ends = record { first = clusters-among (count_of header.clusters) reader first; second = clusters-among (count_of header.clusters) source p.1; differ = apart reader source p.0 };
      }
    where
      apart : (one two : ClusterNo) → not (same_cluster one two) ≡ true → one.number ≢ two.number
      apart one two n e = let same : same_cluster one two ≡ true = grind (arith, nat_tests) in true≢false (sym n ∙ ap not same)

  links-new : AllByRecursion IsNew (opening_world header).links
  links-new =
      all-flat IsNew (λ reader. map (new_link header reader) (others_of header reader)) (all_clusters header)
      (λ reader known. all-from IsNew (map (new_link header reader) (others_of header reader)) (λ link among. by reader known link (map-among (new_link header reader) (others_of header reader) link among)))
    where
      by : (reader : ClusterNo) → Among reader (all_clusters header) → (link : Link) → ((source : ClusterNo) × Among source (others_of header reader) × (link ≡ new_link header reader source)) → IsNew link
      by reader known link found = subst IsNew (sym found.2) (new-is reader found.0 known found.1)

  each-lane : (link : Link) → IsNew link → (shard : ℕ) → lane_in link shard ≡ new_lane
  each-lane link new shard = ap (λ lanes. slice_index_or lanes shard new_lane) new.lanes ∙ index-same new_lane header.shards shard

  no-trimmed : (source : ClusterNo) (shard : ℕ) → trimmed_at source (opening_world header) shard ≡ 0
  no-trimmed source shard =
      index-either (λ numbers. slice_index_or numbers shard 0 ≡ 0) (replicate header.shards 0) [] (all_clusters header) source.number (index-same 0 header.shards shard) refl

  no-queue : (source : ClusterNo) (shard : ℕ) → queue_at source shard (opening_world header) ≡ []
  no-queue source shard = ap (λ (c : Cell). c.written) (each-cell source shard)

  no-writing : (shard : ℕ) → all_written header shard (opening_world header) ≡ []
  no-writing shard = ap in_order (flat-none _ (all_clusters header) (λ cluster. ap (λ (c : Cell). flat_map both c.written) (each-cell cluster shard)))

  no-places : (shard : ℕ) → places_written header shard (opening_world header) ≡ []
  no-places shard = flat-none _ (all_clusters header) (λ cluster. ap (λ (c : Cell). map place_of (flat_map both c.written)) (each-cell cluster shard))

  none-written : (domain workflow : Name) → written_of header domain workflow (opening_world header) ≡ []
  none-written domain workflow = ap (filter (is_of domain workflow)) (no-writing (shard_of domain workflow header.shards))

  small-none : AreNumbersSmall 0 []
  small-none = record { tasks = tt; batches_most = omega arith; originals_most = omega arith; events_most = tt }

  writing-fair : WritingIsSound header (opening_world header)
  writing-fair = record {
    differ = λ shard below. subst (λ (places : List Place). AllPairs (λ one two. one ≢ two) places) (sym (no-places shard)) (λ i j d lt in_list. absurd (omega (arith, in_list)));
    sound = λ domain workflow. subst IsSound (sym (none-written domain workflow)) nothing_is_sound;
    carried = λ domain workflow b has. let none : Has [] b = subst (λ (bs : List Batch). Has bs b) (none-written domain workflow) has in absurd (cc);
    lone = λ domain workflow b has. let none : Has [] b = subst (λ (bs : List Batch). Has bs b) (none-written domain workflow) has in absurd (cc);
  }

  copies-fair : CopiesNameOriginals header (opening_world header)
  copies-fair domain workflow b has = let none : Has [] b = subst (λ (bs : List Batch). Has bs b) (none-written domain workflow) has in absurd (cc)

  writers-fair : WritersUseOwnVersions header (opening_world header)
  writers-fair cluster shard known below =
      subst (λ (cell : Cell). AllByRecursion (IsOwn header cluster shard (cluster_at cluster (opening_world header)).table cell) (flat_map both cell.written)) (sym (each-cell cluster shard)) tt

  arrivals-fair : ArrivalsWereWritten header (opening_world header)
  arrivals-fair cluster shard known below = subst (IsArrivedFit header (opening_world header) shard) (sym (each-cell cluster shard)) (record {
    once = tt;
    written = tt;
    carried = λ b second among. let none : IsAmong [] b = subst (λ (bs : List Batch). IsAmong bs b) (no-writing shard) among in absurd (omega (arith, none.1.0));
  })

  messages-fair : MessagesAreTrue header (opening_world header)
  messages-fair cluster shard known below =
      subst (AreMessagesTrue header (opening_world header) shard) (sym (each-cell cluster shard)) (record { written = tt; waiting = refl })

  lane-true : (link : Link) (shard : ℕ) → IsLaneTrue (opening_world header) link shard new_lane
  lane-true link shard = record {
    trimmed_most = omega (arith, no-trimmed link.source shard);
    levels = record { done_most = omega arith; read_most = omega arith };
    done = tt;
    flight = tt;
  }

  lanes-fair : LanesAreTrue header (opening_world header)
  lanes-fair =
      all-weaker IsNew _ (λ link new shard below. subst (IsLaneTrue (opening_world header) link shard) (sym (each-lane link new shard)) (lane-true link shard)) (opening_world header).links links-new

  -- what holds of no record holds of each
  each-record : (holds : DomainRecord → Type 0) → EachRecord header (opening_world header) holds
  each-record holds cluster known = subst (AllByRecursion holds) (sym (no-table cluster)) tt

  no-days : (others : List DomainRecord) → DaysAgree [] others
  no-days others name ours theirs found = absurd (cc)

  records-fair : RecordsAgree header 0 (opening_world header)
  records-fair = record {
    tables = λ cluster known. subst IsTable (sym (no-table cluster)) (record { ordered = tt; sound = tt });
    ranges = each-record _;
    known = each-record _;
    days = λ one two first second. subst (λ (table : List DomainRecord). DaysAgree table (cluster_at two (opening_world header)).table) (sym (no-table one)) (no-days _);
  }

  members-fair : MembersAlone header (opening_world header)
  members-fair = record {
    members = each-record _;
    arrived = λ cluster shard known below. subst (λ (cell : Cell). AllByRecursion (λ b. is_named header cluster (opening_world header) b.domain ≡ true) cell.arrived) (sym (each-cell cluster shard)) tt;
    flight = all-weaker IsNew _
        (λ link new shard below. subst (λ (lane : Lane). AllByRecursion (λ sent. is_named header link.reader (opening_world header) sent.batch.domain ≡ true) lane.flight) (sym (each-lane link new shard)) tt)
        (opening_world header).links links-new;
    late = all-weaker IsNew _
        (λ link new. subst (AllByRecursion (λ domain. names_cluster link.reader (record_of (cluster_at link.source (opening_world header)).table domain) ≡ true)) (sym new.late) tt)
        (opening_world header).links links-new;
  }

  numbers-fair : NumbersAreSmall header 0 (opening_world header)
  numbers-fair = record {
    written = λ domain workflow. subst (AreNumbersSmall 0) (sym (none-written domain workflow)) small-none;
    lines_most = omega arith;
  }

  -- there are as many clusters as the header names
  length-below : (count : ℕ) → length (clusters_below count) ≡ count
  length-below zero = refl
  length-below (suc count) = length-append (clusters_below count) (cluster_no count ∷ []) ∙ omega (arith, length-below count)

  length-clusters : length (all_clusters header) ≡ count_of header.clusters
  length-clusters = length-below (count_of header.clusters)

  shaped : IsShaped header (opening_world header)
  shaped = record {
    clusters = length-map (all_clusters header) _ ∙ length-clusters;
    cells = all-map _ _ (all_clusters header) (λ cluster. length-replicate header.shards empty_cell);
    links = refl;
    ends = all-weaker IsNew _ (λ link new. new.ends) (opening_world header).links links-new;
    lanes = all-weaker IsNew _ (λ link new. ap length new.lanes ∙ length-replicate header.shards new_lane) (opening_world header).links links-new;
    sources = length-map (all_clusters header) _ ∙ length-clusters;
    trimmed = all-map _ _ (all_clusters header) (λ cluster. length-replicate header.shards 0);
  }

  fair : IsFair header 0 (opening_world header)
  fair = record {
    writing = writing-fair;
    copies = copies-fair;
    writers = writers-fair;
    arrivals = arrivals-fair;
    messages = messages-fair;
    lanes = lanes-fair;
    records = records-fair;
    numbers = numbers-fair;
    members = members-fair;
  }

  none-among : {X : Type 0} (x : X) → IsAmong [] x → ⊥
  none-among x among = omega (arith, among.1.0)

  reports : ReportsAgree header (opening_world header)
  reports = record {
    one = λ first second report other known known' among. let none : IsAmong [] report = subst (λ (rs : List Report). IsAmong rs report) (no-reports first) among in absurd (none-among report none);
    told = λ cluster known. subst (AllByRecursion (λ report. IsSomeAnd (writer_of header.clusters report.version) (λ writer. IsAmong (cluster_at writer (opening_world header)).reports report))) (sym (no-reports cluster)) tt;
  }

-- the opening world is fair, and has no handover, letter or report
pub opening_reached : (header : Header) → IsReached header 0 (opening_world header)
opening_reached header = record {
  shaped = shaped header;
  fair = fair header;
  ranges = λ domain workflow. subst (AllByRecursion InRange) (sym (none-written header domain workflow)) tt;
  handovers = record { one_each = λ i j d lt in_list. absurd (omega (arith, in_list)); each = tt };
  letters = λ cluster known. subst (AllByRecursion (IsLetterFit header (opening_world header) cluster)) (sym (no-letters header cluster)) tt;
  beats = λ cluster known. subst (AllByRecursion (λ report. report.beat ≤ 0)) (sym (no-reports header cluster)) tt;
  reports = reports header;
}
