-- A cell that has grown, and the world with it.
use Rattle.std.proofs.Common.{◌≡◌, ℕ, zero, suc, ◌<◌, ◌≤◌, Bool, true, false, ◌||◌, not, List, [], ◌∷◌, length, map, take, slice_index_or, slice_set, Option, Some, None, refl, sym, ◌∙◌, subst, ap, arith}
use Rattle.std.specs.List.{AllByRecursion, IsAmong, flat_map}
use Rattle.std.proofs.lemmas.Bool.{and_from, and_parts, or_left, or_right}
use Rattle.ndc_script_types.specs.WellFormed.{IsCluster}
use Rattle.ndc_script_types.specs.declared.script.Header.{Header}
use Rattle.ndc_model_cells.specs.declared.message.Message.{Message}
use Rattle.ndc_model_cells.specs.Cells.{Cell, both, empty_cell, is_learned_in, is_message_learned, is_second_learned, learned_of}
use Rattle.ndc_model_cells.specs.Jobs.{cell_for}
use Rattle.ndc_model_cells.specs.Places.{in_order, place_of}
use Rattle.ndc_domain.specs.declared.clusters.ClusterNo.{ClusterNo}
use Rattle.ndc_domain.specs.declared.record.DomainRecord.{DomainRecord}
use Rattle.ndc_event.specs.declared.batch.Batch.{Batch}
use Rattle.ndc_event.specs.declared.name.Name.{Name}
use Rattle.ndc_model.specs.Facts.{IsReached}
use Rattle.ndc_model.specs.Fair.{AreMembersKnown, AreMessagesTrue, IsArrivedFit, IsLaneTrue, IsOwn, IsShaped, is_named}
use Rattle.ndc_domain.specs.Records.{record_of}
use Rattle.ndc_model.specs.Queues.{is_addressed, names_cluster, needs_nothing}
use Rattle.ndc_model.specs.World.{Cluster, Link, World, all_clusters, cell_at, cluster_at, is_late_in, lane_in, new_cluster, queue_at, with_cells}
use Rattle.ndc_model.proofs.ListLemmas.{all-set, all-weaker}
use Rattle.ndc_model.proofs.WorldLemmas.{cells-cases, set-cases}
use Rattle.ndc_model_sets.specs.Sets.{Has}
use Rattle.ndc_laws_reached.proofs.FrameLemmas.{WroteAlike, arrival-alike, batches_in, beats-alike, copies-alike, handovers-alike, letters-alike, letters_in, message-alike, named_by, numbers-alike, queues_in, ranges-alike, records-alike, reports-alike, reports_in, tables_in, writing-alike}
use Rattle.ndc_laws_reached.proofs.Lists.{each-link, length-set}

-- what a cell has learned is learned in another one too
abbrev pub LearnedMore : Cell → Cell → Type 0
LearnedMore old new = (domain workflow : Name) (b : Batch) → Has (learned_of domain workflow old) b → Has (learned_of domain workflow new) b

-- a cell that holds more than an old one, and has written the same
pub record IsGrown (header : Header) (w : World) (shard : ℕ) (cluster : ClusterNo) (old new : Cell) : Type 0 where
  pub written : new.written ≡ old.written
  pub learned : (b : Batch) → is_learned_in old b ≡ true → is_learned_in new b ≡ true
  pub own : LearnedMore old new
  pub fit : IsArrivedFit header w shard new
  pub messages : AreMessagesTrue header w shard new
  pub named : AllByRecursion (λ b. is_named header cluster w b.domain ≡ true) new.arrived

-- a world after another one, in which the same was written, tables are the same, and links are
pub record IsKept (header : Header) (lines : ℕ) (w v : World) : Type 0 where
  pub reached : IsReached header lines v
  pub batches : batches_in header v ≡ batches_in header w
  pub tables : tables_in v ≡ tables_in w
  pub queues : queues_in v ≡ queues_in w
  pub links : v.links ≡ w.links

module _ (header : Header) (lines : ℕ) (w : World) (is : IsReached header lines w) (cluster : ClusterNo) (shard : ℕ) (known : IsCluster header cluster) (below : shard < header.shards)
    (new : Cell) (grown : IsGrown header w shard cluster (cell_at cluster shard w) new) where
  abbrev old : Cell
  old = cell_at cluster shard w

  abbrev v : World
  v = with_cells cluster (slice_set (cluster_at cluster w).cells shard new) w

  -- a cell of the world: the new one at its place, or the one before
  pub by-cell : (P : ClusterNo → ℕ → Cell → Type 0) → P cluster shard new → (other : ClusterNo) (place : ℕ) → P other place (cell_at other place w) → P other place (cell_at other place v)
  by-cell P here other place there =
      cells-cases (P other place) cluster other place (slice_set (cluster_at cluster w).cells shard new) w
      (λ at. set-cases (P other place) (cluster_at cluster w).cells shard place new empty_cell
      (λ in_shard. subst (λ (n : ℕ). P other n new) (sym in_shard) (subst (λ (n : ℕ). P (record { number = n }) shard new) (sym at) here))
      (subst (λ (n : ℕ). P other place (cell_for place (slice_index_or w.clusters n (new_cluster 0)).cells)) at there)) there

  -- a part of a cluster that is none of its cells
  by-part : {X : Type 0} (part : Cluster → X) → ((c : Cluster) (cells : List Cell) → part (record c { cells = cells }) ≡ part c) → (other : ClusterNo) → part (cluster_at other v) ≡ part (cluster_at other w)
  by-part part same other =
      set-cases (λ (c : Cluster). part c ≡ part (cluster_at other w)) w.clusters cluster.number other.number _ (new_cluster 0)
      (λ at. same (cluster_at cluster w) _ ∙ ap (λ (n : ℕ). part (slice_index_or w.clusters n (new_cluster 0))) (sym at)) refl

  tables : tables_in v ≡ tables_in w
  tables = λ i other. by-part (λ c. c.table) (λ c cells. refl) other i

  letters : letters_in v ≡ letters_in w
  letters = λ i other. by-part (λ c. c.letters) (λ c cells. refl) other i

  reports : reports_in v ≡ reports_in w
  reports = λ i other. by-part (λ c. c.reports) (λ c cells. refl) other i

  queues : queues_in v ≡ queues_in w
  queues = λ i other place. by-cell (λ o p cell. cell.written ≡ queue_at o p w) grown.written other place refl i

  -- what was written, by what each cell has written
  wrote : WroteAlike header v w
  wrote = record {
    places = λ i s. flat_map (λ c. map place_of (flat_map both (queues i c s))) (all_clusters header);
    batches = λ i s. in_order (flat_map (λ c. flat_map both (queues i c s)) (all_clusters header));
  }

  named : (reader : ClusterNo) (domain : Name) → is_named header reader v domain ≡ is_named header reader w domain
  named reader domain = ap (λ (t : ClusterNo → List DomainRecord). named_by header t reader domain) tables

  -- what was learned is learned
  learned-there : (other : ClusterNo) (place : ℕ) (b : Batch) → is_learned_in (cell_at other place w) b ≡ true → is_learned_in (cell_at other place v) b ≡ true
  learned-there other place b = by-cell (λ o p cell. is_learned_in (cell_at o p w) b ≡ true → is_learned_in cell b ≡ true) (grown.learned b) other place (λ e. e)

  message-there : (other : ClusterNo) (place : ℕ) (sent : Message) → is_message_learned (cell_at other place w) sent ≡ true → is_message_learned (cell_at other place v) sent ≡ true
  message-there other place sent h =
      let p = and_parts (is_learned_in (cell_at other place w) sent.batch) (is_second_learned (cell_at other place w) sent.second) h in
      and_from (is_learned_in (cell_at other place v) sent.batch) (is_second_learned (cell_at other place v) sent.second) (learned-there other place sent.batch p.0) (second sent.second p.1)
    where
      second : (o : Option Batch) → is_second_learned (cell_at other place w) o ≡ true → is_second_learned (cell_at other place v) o ≡ true
      second None h = refl
      second (Some b) h = learned-there other place b h

  -- what needed nothing needs nothing
  nothing-there : (link : Link) (place : ℕ) (sent : Message)
      → (needs_nothing link.reader (cluster_at link.source w).table (cell_at link.reader place w) sent || is_late_in sent.batch.domain link) ≡ true
      → (needs_nothing link.reader (cluster_at link.source v).table (cell_at link.reader place v) sent || is_late_in sent.batch.domain link) ≡ true
  nothing-there link place sent h =
      subst (λ (t : ClusterNo → List DomainRecord). ((is_message_learned (cell_at link.reader place v) sent || not (is_addressed link.reader (t link.source) sent)) || is_late_in sent.batch.domain link) ≡ true) (sym tables)
      (by (is_message_learned (cell_at link.reader place w) sent) refl (not (is_addressed link.reader (cluster_at link.source w).table sent)) (is_late_in sent.batch.domain link) h)
    where
      by : (t : Bool) → is_message_learned (cell_at link.reader place w) sent ≡ t → (u z : Bool) → ((t || u) || z) ≡ true → ((is_message_learned (cell_at link.reader place v) sent || u) || z) ≡ true
      by true e u z h = or_left (is_message_learned (cell_at link.reader place v) sent || u) z (or_left (is_message_learned (cell_at link.reader place v) sent) u (message-there link.reader place sent e))
      by false e true z h = or_left (is_message_learned (cell_at link.reader place v) sent || true) z (or_right (is_message_learned (cell_at link.reader place v) sent) true refl)
      by false e false true h = or_right (is_message_learned (cell_at link.reader place v) sent || false) true refl
      by false e false false h = absurd (cc)

  lane-there : (link : Link) (place : ℕ) → IsLaneTrue w link place (lane_in link place) → IsLaneTrue v link place (lane_in link place)
  lane-there link place t = record {
    trimmed_most = t.trimmed_most;
    levels = record {
      done_most = t.levels.done_most;
      read_most = subst (λ (q : ClusterNo → ℕ → List Message). (lane_in link place).levels.read ≤ length (q link.source place)) (sym queues) t.levels.read_most;
    };
    done = subst (λ (q : ClusterNo → ℕ → List Message). AllByRecursion
        (λ sent. (needs_nothing link.reader (cluster_at link.source v).table (cell_at link.reader place v) sent || is_late_in sent.batch.domain link) ≡ true) (take (lane_in link place).levels.done (q link.source place))) (sym queues)
        (all-weaker _ _ (nothing-there link place) (take (lane_in link place).levels.done (queue_at link.source place w)) t.done);
    flight = subst (λ (q : ClusterNo → ℕ → List Message). AllByRecursion (IsAmong (q link.source place)) (lane_in link place).flight) (sym queues) t.flight;
  }

  -- a change of facts on links

  shaped : IsShaped header v
  shaped = record {
    clusters = length-set w.clusters cluster.number _ ∙ is.shaped.clusters;
    cells = all-set (λ c. length c.cells ≡ header.shards) w.clusters cluster.number _
        (length-set (cluster_at cluster w).cells shard new ∙ at-cluster w.clusters cluster.number is.shaped.cells (omega (arith, known, is.shaped.clusters))) is.shaped.cells;
    links = is.shaped.links;
    ends = is.shaped.ends;
    lanes = is.shaped.lanes;
    sources = is.shaped.sources;
    trimmed = is.shaped.trimmed;
  }
    where
      at-cluster : (clusters : List Cluster) (i : ℕ) → AllByRecursion (λ c. length c.cells ≡ header.shards) clusters → i < length clusters → length (slice_index_or clusters i (new_cluster 0)).cells ≡ header.shards
      at-cluster [] i all less = absurd (omega (arith, less))
      at-cluster (c ∷ cs) zero all less = all.0
      at-cluster (c ∷ cs) (suc i) all less = at-cluster cs i all.1 (omega (arith, less))

  -- what a cell wrote is its own still
  own-there : (o : ClusterNo) (place : ℕ) → (table : List DomainRecord) → (bs : List Batch) → AllByRecursion (IsOwn header o place table (cell_at o place w)) bs → AllByRecursion (IsOwn header o place table (cell_at o place v)) bs
  own-there o place table [] all = tt
  own-there o place table (b ∷ bs) all = (
    record {
      lives = all.0.lives;
      version = all.0.version;
      learned = by-cell (λ o p cell. Has (learned_of b.domain b.workflow (cell_at o p w)) b → Has (learned_of b.domain b.workflow cell) b) (grown.own b.domain b.workflow b) o place (λ h. h) all.0.learned;
      recorded = all.0.recorded;
    },
    own-there o place table bs all.1,
  )

  pub cell-grown : IsKept header lines w v
  cell-grown = record {
    reached = record {
      shaped = shaped;
      fair = record {
        writing = writing-alike header v w wrote is.fair.writing;
        copies = copies-alike header v w wrote.batches is.fair.copies;
        writers = λ o place there less.
            subst (λ (q : ClusterNo → ℕ → List Message). AllByRecursion (IsOwn header o place (cluster_at o v).table (cell_at o place v)) (flat_map both (q o place))) (sym queues)
            (subst (λ (t : ClusterNo → List DomainRecord). AllByRecursion (IsOwn header o place (t o) (cell_at o place v)) (flat_map both (queue_at o place w))) (sym tables)
            (own-there o place (cluster_at o w).table (flat_map both (queue_at o place w)) (is.fair.writers o place there less)));
        arrivals = λ o place there less. arrival-alike header v w wrote.batches place (cell_at o place v) (by-cell (λ o p cell. IsArrivedFit header w p cell) grown.fit o place (is.fair.arrivals o place there less));
        messages = λ o place there less. message-alike header v w wrote.batches place (cell_at o place v) (by-cell (λ o p cell. AreMessagesTrue header w p cell) grown.messages o place (is.fair.messages o place there less));
        lanes = each-link (λ link t place less. lane-there link place (t place less)) w.links is.fair.lanes;
        records = records-alike header v w lines tables is.fair.records;
        numbers = numbers-alike header v w lines wrote.batches is.fair.numbers;
        members = record {
          members = λ o there. subst (λ (t : ClusterNo → List DomainRecord). AllByRecursion (AreMembersKnown header) (t o)) (sym tables) (is.fair.members.members o there);
          arrived = λ o place there less. subst (λ (t : ClusterNo → List DomainRecord). AllByRecursion (λ b. named_by header t o b.domain ≡ true) (cell_at o place v).arrived) (sym tables)
              (by-cell (λ o p cell. AllByRecursion (λ b. is_named header o w b.domain ≡ true) cell.arrived) grown.named o place (is.fair.members.arrived o place there less));
          flight = subst (λ (t : ClusterNo → List DomainRecord). AllByRecursion (λ link. (place : ℕ) → place < header.shards → AllByRecursion (λ sent. named_by header t link.reader sent.batch.domain ≡ true) (lane_in link place).flight) w.links) (sym tables) is.fair.members.flight;
          late = subst (λ (t : ClusterNo → List DomainRecord). AllByRecursion (λ link. AllByRecursion (λ domain. names_cluster link.reader (record_of (t link.source) domain) ≡ true) link.late) w.links) (sym tables) is.fair.members.late;
        };
      };
      ranges = ranges-alike header v w wrote.batches is.ranges;
      handovers = handovers-alike header v w tables queues refl is.handovers;
      letters = letters-alike header v w tables queues letters is.letters;
      beats = beats-alike header v w lines reports is.beats;
      reports = reports-alike header v w reports is.reports;
    };
    batches = wrote.batches;
    tables = tables;
    queues = queues;
    links = refl;
  }
