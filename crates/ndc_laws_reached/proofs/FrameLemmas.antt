-- Worlds that differ in one part alone: what holds of all other parts stays.
use Rattle.std.proofs.Common.{◌≡◌, ◌≢◌, ℕ, ◌<◌, ◌≤◌, Bool, true, false, ◌||◌, map, take, List, [], ◌∷◌, length, Some, sym, subst, if◌then◌else◌}
use Rattle.std.specs.List.{AllByRecursion, IsAmong, filter, flat_map, list_any}
use Rattle.std.specs.Prelude.{AllPairs, IsSomeAnd, is_some, drop, not}
use Rattle.ndc_script_types.specs.WellFormed.{IsCluster}
use Rattle.ndc_script_types.specs.declared.script.Header.{Header}
use Rattle.ndc_model_cells.specs.declared.message.Message.{Message}
use Rattle.ndc_model_cells.specs.declared.place.Place.{Place}
use Rattle.ndc_model_cells.specs.Cells.{Cell, both, carries, own_message, put_off_in}
use Rattle.ndc_model_cells.specs.Arrival.{has_arrived}
use Rattle.ndc_model_cells.specs.Places.{batch_there, in_order, is_at, is_of, place_of}
use Rattle.ndc_model_cells.specs.Shards.{shard_of}
use Rattle.ndc_domain.specs.Clusters.{writer_of}
use Rattle.ndc_domain.specs.Laws.{DaysAgree}
use Rattle.ndc_domain.specs.Records.{IsTable, record_of}
use Rattle.ndc_domain.specs.declared.clusters.ClusterNo.{ClusterNo}
use Rattle.ndc_domain.specs.declared.record.DomainRecord.{DomainRecord}
use Rattle.ndc_event.specs.declared.batch.Batch.{Batch}
use Rattle.ndc_event.specs.declared.name.Name.{Name}
use Rattle.ndc_graceful.specs.declared.handover.Handover.{Handover}
use Rattle.ndc_letters.specs.declared.letter.Letter.{Letter}
use Rattle.ndc_letters.specs.Letters.{place_of_letter}
use Rattle.ndc_progress.specs.declared.report.Report.{Report}
use Rattle.ndc_model_sets.specs.Sets.{Has}
use Rattle.ndc_model_sets.specs.Sound.{CopiesNamed, IsSound}
use Rattle.ndc_text.specs.Ranges.{InRange}
use Rattle.ndc_model.specs.Facts.{BeatsAreSmall, HandoversFit, IsHandoverFit, IsLetterFit, LettersFit, ReportsAgree, WritingIsInRange, is_old, place_in}
use Rattle.ndc_model.specs.Fair.{AreMembersKnown, AreMessagesTrue, AreNumbersSmall, ArrivalsWereWritten, CopiesNameOriginals, HasRecordFrom, IsArrivedFit, IsFair, IsLaneTrue, IsConfigKnown, IsOwn, IsRecordInRange, MessagesAreTrue, NumbersAreSmall, RecordsAgree, WritersUseOwnVersions, WritingIsSound, is_named, places_written, primary}
use Rattle.ndc_model.specs.Moves.{all_written, messages_among}
use Rattle.ndc_model.specs.Queues.{Lane, names_cluster, needs_nothing}
use Rattle.ndc_model.specs.World.{Link, World, all_clusters, cell_at, cluster_at, is_late_in, lane_in, queue_at, trimmed_at}
use Rattle.ndc_laws_reached.proofs.Lists.{each-link}
use Rattle.ndc_model_cells.specs.Writing.{goes_on}

-- the parts of a world, as functions
abbrev pub places_in : Header → World → ℕ → List Place
places_in header w shard = places_written header shard w

abbrev pub batches_in : Header → World → ℕ → List Batch
batches_in header w shard = all_written header shard w

abbrev pub cells_in : World → ClusterNo → ℕ → Cell
cells_in w cluster shard = cell_at cluster shard w

abbrev pub queues_in : World → ClusterNo → ℕ → List Message
queues_in w source shard = queue_at source shard w

abbrev pub tables_in : World → ClusterNo → List DomainRecord
tables_in w cluster = (cluster_at cluster w).table

abbrev pub trims_in : World → ClusterNo → ℕ → ℕ
trims_in w source shard = trimmed_at source w shard

abbrev pub letters_in : World → ClusterNo → List Letter
letters_in w cluster = (cluster_at cluster w).letters

abbrev pub reports_in : World → ClusterNo → List Report
reports_in w cluster = (cluster_at cluster w).reports

-- all batches of a workflow, of those that were written by shard
abbrev pub written_by : Header → (ℕ → List Batch) → Name → Name → List Batch
written_by header batches domain workflow = filter (is_of domain workflow) (batches (shard_of domain workflow header.shards))

-- whether some table names a cluster
abbrev pub named_by : Header → (ClusterNo → List DomainRecord) → ClusterNo → Name → Bool
named_by header tables cluster domain = list_any (λ other. names_cluster cluster (record_of (tables other) domain)) (all_clusters header)

-- two worlds in which the same was written
pub record WroteAlike (header : Header) (v w : World) : Type 0 where
  pub places : places_in header v ≡ places_in header w
  pub batches : batches_in header v ≡ batches_in header w

module _ (header : Header) (v w : World) where
  pub writing-alike : WroteAlike header v w → WritingIsSound header w → WritingIsSound header v
  writing-alike same is = record {
    differ = subst (λ (f : ℕ → List Place). (shard : ℕ) → shard < header.shards → AllPairs (λ one two. one ≢ two) (f shard)) (sym same.places) is.differ;
    sound = subst (λ (f : ℕ → List Batch). (d u : Name) → IsSound (written_by header f d u)) (sym same.batches) is.sound;
    carried = subst (λ (f : ℕ → List Batch). (d u : Name) (b : Batch) → Has (written_by header f d u) b → length (filter (carries b) (written_by header f d u)) ≡ (if goes_on b then 1 else 0)) (sym same.batches) is.carried;
    lone = subst (λ (f : ℕ → List Batch). (d u : Name) (b : Batch) → Has (written_by header f d u) b → is_some b.carrier ≡ true → goes_on b ≡ false) (sym same.batches) is.lone;
  }

  pub copies-alike : batches_in header v ≡ batches_in header w → CopiesNameOriginals header w → CopiesNameOriginals header v
  copies-alike same is = subst (λ (f : ℕ → List Batch). (d u : Name) → CopiesNamed (written_by header f d u)) (sym same) is

  pub numbers-alike : (lines : ℕ) → batches_in header v ≡ batches_in header w → NumbersAreSmall header lines w → NumbersAreSmall header lines v
  numbers-alike lines same is = record {
    written = subst (λ (f : ℕ → List Batch). (d u : Name) → AreNumbersSmall lines (written_by header f d u)) (sym same) is.written;
    lines_most = is.lines_most;
  }

  pub ranges-alike : batches_in header v ≡ batches_in header w → WritingIsInRange header w → WritingIsInRange header v
  ranges-alike same is = subst (λ (f : ℕ → List Batch). (d u : Name) → AllByRecursion InRange (written_by header f d u)) (sym same) is

  pub writers-alike : cells_in v ≡ cells_in w → tables_in v ≡ tables_in w → WritersUseOwnVersions header w → WritersUseOwnVersions header v
  writers-alike cells tables is =
      subst (λ (t : ClusterNo → List DomainRecord). (c : ClusterNo) (shard : ℕ) → IsCluster header c → shard < header.shards
      → AllByRecursion (IsOwn header c shard (t c) (cells_in v c shard)) (flat_map both (cells_in v c shard).written)) (sym tables)
      (subst (λ (f : ClusterNo → ℕ → Cell). (c : ClusterNo) (shard : ℕ) → IsCluster header c → shard < header.shards
      → AllByRecursion (IsOwn header c shard (tables_in w c) (f c shard)) (flat_map both (f c shard).written)) (sym cells) is)

  -- what has arrived in a cell fits all that was written
  pub arrival-alike : batches_in header v ≡ batches_in header w → (shard : ℕ) (cell : Cell) → IsArrivedFit header w shard cell → IsArrivedFit header v shard cell
  arrival-alike same shard cell is = record {
    once = is.once;
    written = subst (λ (f : ℕ → List Batch). AllByRecursion (λ b. batch_there (f shard) (place_of b) ≡ Some b) cell.arrived) (sym same) is.written;
    carried = subst (λ (f : ℕ → List Batch). (b second : Batch) → IsAmong (f shard) b → IsAmong (f shard) second → carries b second ≡ true → has_arrived b cell ≡ has_arrived second cell) (sym same) is.carried;
  }

  pub arrivals-alike : cells_in v ≡ cells_in w → batches_in header v ≡ batches_in header w → ArrivalsWereWritten header w → ArrivalsWereWritten header v
  arrivals-alike cells same is =
      subst (λ (f : ClusterNo → ℕ → Cell). (c : ClusterNo) (shard : ℕ) → IsCluster header c → shard < header.shards → IsArrivedFit header v shard (f c shard)) (sym cells)
      (λ c shard known below. arrival-alike same shard (cells_in w c shard) (is c shard known below))

  -- the messages of a cell are true
  pub message-alike : batches_in header v ≡ batches_in header w → (shard : ℕ) (cell : Cell) → AreMessagesTrue header w shard cell → AreMessagesTrue header v shard cell
  message-alike same shard cell is = record {
    written = subst (λ (f : ℕ → List Batch). AllByRecursion (λ (sent : Message). (batch_there (f shard) (place_of sent.batch) ≡ Some sent.batch)
        × (own_message (filter (is_of sent.batch.domain sent.batch.workflow) (f shard)) (f shard) sent.batch ≡ Some sent)) cell.written) (sym same) is.written;
    waiting = subst (λ (f : ℕ → List Batch). cell.waiting ≡ messages_among (f shard) (put_off_in cell)) (sym same) is.waiting;
  }

  pub messages-alike : cells_in v ≡ cells_in w → batches_in header v ≡ batches_in header w → MessagesAreTrue header w → MessagesAreTrue header v
  messages-alike cells same is =
      subst (λ (f : ClusterNo → ℕ → Cell). (c : ClusterNo) (shard : ℕ) → IsCluster header c → shard < header.shards → AreMessagesTrue header v shard (f c shard)) (sym cells)
      (λ c shard known below. message-alike same shard (cells_in w c shard) (is c shard known below))

  pub records-alike : (lines : ℕ) → tables_in v ≡ tables_in w → RecordsAgree header lines w → RecordsAgree header lines v
  records-alike lines same is = record {
    tables = subst (λ (t : ClusterNo → List DomainRecord). (c : ClusterNo) → IsCluster header c → IsTable (t c)) (sym same) is.tables;
    ranges = subst (λ (t : ClusterNo → List DomainRecord). (c : ClusterNo) → IsCluster header c → AllByRecursion (IsRecordInRange header lines) (t c)) (sym same) is.ranges;
    known = subst (λ (t : ClusterNo → List DomainRecord). (c : ClusterNo) → IsCluster header c → AllByRecursion (IsConfigKnown (t primary)) (t c)) (sym same) is.known;
    days = subst (λ (t : ClusterNo → List DomainRecord). (one two : ClusterNo) → IsCluster header one → IsCluster header two → DaysAgree (t one) (t two)) (sym same) is.days;
  }

  pub handovers-alike : tables_in v ≡ tables_in w → queues_in v ≡ queues_in w → v.handovers ≡ w.handovers → HandoversFit header w → HandoversFit header v
  handovers-alike tables queues same is = record {
    one_each = subst (AllPairs (λ one two. one.domain ≢ two.domain)) (sym same) is.one_each;
    each = subst (AllByRecursion (IsHandoverFit header v)) (sym same) (all w.handovers is.each);
  }
    where
      one : (handover : Handover) → IsHandoverFit header w handover → IsHandoverFit header v handover
      one handover fit = record {
        clusters = fit.clusters;
        writer = fit.writer;
        later = fit.later;
        given = subst (λ (t : ClusterNo → List DomainRecord). HasRecordFrom handover.new handover.domain (t handover.from)) (sym tables) fit.given;
        names = subst (λ (t : ClusterNo → List DomainRecord). names_cluster handover.to (record_of (t handover.from) handover.domain) ≡ true) (sym tables) fit.names;
        places = fit.places;
        place_most = subst (λ (q : ClusterNo → ℕ → List Message). (shard : ℕ) → shard < header.shards → place_in handover shard ≤ length (q handover.from shard)) (sym queues) fit.place_most;
        behind = subst (λ (q : ClusterNo → ℕ → List Message). (shard : ℕ) → shard < header.shards → AllByRecursion (λ sent. not (is_old handover sent) ≡ true) (drop (place_in handover shard) (q handover.from shard))) (sym queues) fit.behind;
      }

      all : (handovers : List Handover) → AllByRecursion (IsHandoverFit header w) handovers → AllByRecursion (IsHandoverFit header v) handovers
      all [] fit = tt
      all (handover ∷ handovers) fit = (one handover fit.0, all handovers fit.1)

  pub letter-alike : tables_in v ≡ tables_in w → queues_in v ≡ queues_in w → (cluster : ClusterNo) (letter : Letter) → IsLetterFit header w cluster letter → IsLetterFit header v cluster letter
  letter-alike tables queues cluster letter fit = record {
    clusters = fit.clusters;
    sent = subst (λ (q : ClusterNo → ℕ → List Message). list_any (λ sent. is_at (place_of_letter letter) sent.batch) (q letter.source (shard_of letter.domain letter.workflow header.shards)) ≡ true) (sym queues) fit.sent;
    named = subst (λ (t : ClusterNo → List DomainRecord). named_by header t cluster letter.domain ≡ true) (sym tables) fit.named;
  }

  pub letters-alike : tables_in v ≡ tables_in w → queues_in v ≡ queues_in w → letters_in v ≡ letters_in w → LettersFit header w → LettersFit header v
  letters-alike tables queues same is =
      subst (λ (f : ClusterNo → List Letter). (c : ClusterNo) → IsCluster header c → AllByRecursion (IsLetterFit header v c) (f c)) (sym same) (λ c known. all c (letters_in w c) (is c known))
    where
      all : (c : ClusterNo) (letters : List Letter) → AllByRecursion (IsLetterFit header w c) letters → AllByRecursion (IsLetterFit header v c) letters
      all c [] fit = tt
      all c (letter ∷ letters) fit = (letter-alike tables queues c letter fit.0, all c letters fit.1)

  pub beats-alike : (lines : ℕ) → reports_in v ≡ reports_in w → BeatsAreSmall header lines w → BeatsAreSmall header lines v
  beats-alike lines same is = subst (λ (f : ClusterNo → List Report). (c : ClusterNo) → IsCluster header c → AllByRecursion (λ report. report.beat ≤ lines) (f c)) (sym same) is

  pub reports-alike : reports_in v ≡ reports_in w → ReportsAgree header w → ReportsAgree header v
  reports-alike same is = record {
    one = subst (λ (f : ClusterNo → List Report). (first second : ClusterNo) (report other : Report) → IsCluster header first → IsCluster header second → IsAmong (f first) report
        → IsAmong (f second) other → report.activity ≡ other.activity → report.version ≡ other.version → report.beat ≡ other.beat → report ≡ other) (sym same) is.one;
    told = subst (λ (f : ClusterNo → List Report). (c : ClusterNo) → IsCluster header c
        → AllByRecursion (λ report. IsSomeAnd (writer_of header.clusters report.version) (λ writer. IsAmong (f writer) report)) (f c)) (sym same) is.told;
  }

  -- a lane is as true where cells, tables and what is trimmed are the same
  pub lane-alike : cells_in v ≡ cells_in w → tables_in v ≡ tables_in w → trims_in v ≡ trims_in w → (link : Link) (shard : ℕ) (lane : Lane) → IsLaneTrue w link shard lane → IsLaneTrue v link shard lane
  lane-alike cells tables trims link shard lane t = record {
    trimmed_most = subst (λ (f : ClusterNo → ℕ → ℕ). f link.source shard ≤ lane.levels.done) (sym trims) t.trimmed_most;
    levels = record {
      done_most = t.levels.done_most;
      read_most = subst (λ (f : ClusterNo → ℕ → Cell). lane.levels.read ≤ length (f link.source shard).written) (sym cells) t.levels.read_most;
    };
    done = subst (λ (f : ClusterNo → List DomainRecord). AllByRecursion (λ sent. (needs_nothing link.reader (f link.source) (cell_at link.reader shard v) sent || is_late_in sent.batch.domain link) ≡ true) (take lane.levels.done (queue_at link.source shard v))) (sym tables)
        (subst (λ (f : ClusterNo → ℕ → Cell). AllByRecursion (λ sent. (needs_nothing link.reader (cluster_at link.source w).table (f link.reader shard) sent || is_late_in sent.batch.domain link) ≡ true) (take lane.levels.done (f link.source shard).written)) (sym cells) t.done);
    flight = subst (λ (f : ClusterNo → ℕ → Cell). AllByRecursion (IsAmong (f link.source shard).written) lane.flight) (sym cells) t.flight;
  }

  -- worlds whose cells, tables, links and trimmed queues are the same are as fair
  module _ (lines : ℕ) (cells : cells_in v ≡ cells_in w) (tables : tables_in v ≡ tables_in w) (links : v.links ≡ w.links) (trims : trims_in v ≡ trims_in w) where
    pub queues-same : queues_in v ≡ queues_in w
    queues-same = λ i other place. (cells i other place).written

    pub wrote-same : WroteAlike header v w
    wrote-same = record {
      places = λ i s. flat_map (λ c. map place_of (flat_map both (queues-same i c s))) (all_clusters header);
      batches = λ i s. in_order (flat_map (λ c. flat_map both (queues-same i c s)) (all_clusters header));
    }

    pub fair-alike : IsFair header lines w → IsFair header lines v
    fair-alike is = record {
      writing = writing-alike wrote-same is.writing;
      copies = copies-alike wrote-same.batches is.copies;
      writers = writers-alike cells tables is.writers;
      arrivals = arrivals-alike cells wrote-same.batches is.arrivals;
      messages = messages-alike cells wrote-same.batches is.messages;
      lanes = subst (AllByRecursion (λ link. (shard : ℕ) → shard < header.shards → IsLaneTrue v link shard (lane_in link shard))) (sym links)
          (each-link (λ link t shard below. lane-alike cells tables trims link shard (lane_in link shard) (t shard below)) w.links is.lanes);
      records = records-alike lines tables is.records;
      numbers = numbers-alike lines wrote-same.batches is.numbers;
      members = record {
        members = subst (λ (f : ClusterNo → List DomainRecord). (c : ClusterNo) → IsCluster header c → AllByRecursion (AreMembersKnown header) (f c)) (sym tables) is.members.members;
        arrived = subst (λ (t : ClusterNo → List DomainRecord). (c : ClusterNo) (shard : ℕ) → IsCluster header c → shard < header.shards → AllByRecursion (λ b. named_by header t c b.domain ≡ true) (cell_at c shard v).arrived) (sym tables)
            (subst (λ (f : ClusterNo → ℕ → Cell). (c : ClusterNo) (shard : ℕ) → IsCluster header c → shard < header.shards → AllByRecursion (λ b. is_named header c w b.domain ≡ true) (f c shard).arrived) (sym cells) is.members.arrived);
        flight = subst (λ (t : ClusterNo → List DomainRecord). AllByRecursion (λ link. (shard : ℕ) → shard < header.shards → AllByRecursion (λ sent. named_by header t link.reader sent.batch.domain ≡ true) (lane_in link shard).flight) v.links) (sym tables)
            (subst (AllByRecursion (λ link. (shard : ℕ) → shard < header.shards → AllByRecursion (λ sent. is_named header link.reader w sent.batch.domain ≡ true) (lane_in link shard).flight)) (sym links) is.members.flight);
        late = subst (λ (t : ClusterNo → List DomainRecord). AllByRecursion (λ link. AllByRecursion (λ domain. names_cluster link.reader (record_of (t link.source) domain) ≡ true) link.late) v.links) (sym tables)
            (subst (AllByRecursion (λ link. AllByRecursion (λ domain. names_cluster link.reader (record_of (cluster_at link.source w).table domain) ≡ true) link.late)) (sym links) is.members.late);
      };
    }
