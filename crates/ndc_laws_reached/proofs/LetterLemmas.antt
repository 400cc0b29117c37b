-- Letters: set aside, dropped, and brought again.
use Rattle.std.specs.Prelude.{codes, find}
use Rattle.std.proofs.lemmas.Bool.{and_parts}
use Rattle.std.proofs.lemmas.Nat.{mod_below}
use Rattle.ndc_model_cells.specs.Cells.{arrived_of}
use Rattle.ndc_model_cells.specs.Writing.{same_cluster}
use Rattle.ndc_model_cells.proofs.PlaceLemmas.{set_of_workflow}
use Rattle.ndc_model.specs.Fair.{IsMessageTrue}
use Rattle.ndc_model.specs.Moves.{all_written, jobs_done}
use Rattle.ndc_model.specs.Steps.{answered}
use Rattle.ndc_model.specs.Texts.{ok}
use Rattle.ndc_model.specs.World.{is_link, lane_in, link_found}
use Rattle.ndc_model_sets.specs.Sets.{Has}
use Rattle.ndc_model_sets.proofs.BranchLemmas.{among-has}
use Rattle.ndc_model_sets.proofs.LearnedLemmas.{learned_closed}
use Rattle.ndc_model_sets.proofs.Lists.{filter_map-among, find-among}
use Rattle.ndc_laws_reached.proofs.FrameLemmas.{fair-alike, queues-same, wrote-same}
use Rattle.ndc_laws_reached.proofs.ArrivalLemmas.{own-is}
use Rattle.ndc_laws_reached.proofs.BringLemmas.{IsArrival}
use Rattle.ndc_laws_cells.proofs.FoundLemmas.{find-passes, is_at-own, there-among}
use Rattle.ndc_laws_reached.proofs.ManyLemmas.{many, one-cluster}
use Rattle.ndc_laws_reached.proofs.MessageLemmas.{learned-arrived, learned-true}
use Rattle.ndc_laws_reached.proofs.WrittenLemmas.{cell-is, lives, names-of}
use Rattle.std.proofs.Common.{◌≡◌, ℕ, zero, suc, ◌<◌, Bool, true, false, if◌then◌else◌, List, [], ◌∷◌, ◌++◌, length, remove, slice_get, slice_index_or, Option, Some, None, option_map, refl, sym, ◌∙◌, subst, ap, arith}
use Rattle.std.specs.List.{AllByRecursion, IsAmong, filter_map, list_any}
use Rattle.ndc_script_types.specs.WellFormed.{AreTwoClusters, IsCluster}
use Rattle.ndc_script_types.specs.declared.script.Header.{Header}
use Rattle.ndc_model_cells.specs.declared.message.Message.{Message}
use Rattle.ndc_model_cells.specs.declared.job.ShardJob.{ShardJob}
use Rattle.ndc_model_cells.specs.Cells.{Cell, learned_message, learned_of, message_found}
use Rattle.ndc_model_cells.specs.Jobs.{cell_for}
use Rattle.ndc_model_cells.specs.Places.{batch_there, is_at, place_of}
use Rattle.ndc_model_cells.specs.Shards.{hash_of, shard_of}
use Rattle.ndc_domain.specs.declared.clusters.ClusterNo.{ClusterNo}
use Rattle.ndc_event.specs.declared.batch.Batch.{Batch}
use Rattle.ndc_event.specs.declared.name.Name.{Name}
use Rattle.ndc_letters.specs.declared.letter.Letter.{Letter}
use Rattle.ndc_letters.specs.Letters.{is_whole, letter_of, place_of_letter}
use Rattle.ndc_model.specs.Facts.{IsLetterFit, IsReached}
use Rattle.ndc_model.specs.Fair.{IsShaped, is_named}
use Rattle.ndc_model.specs.Letters.{damage_at, damage_step, damaged, letter_job, letters_merged, purge_step, with_letters}
use Rattle.ndc_model.specs.Moves.{arrives}
use Rattle.ndc_model.specs.World.{Cluster, Link, World, cell_of, cluster_at, flight_at, new_cluster, queue_at, with_flight}
use Rattle.ndc_model.proofs.ListLemmas.{all-append, all-got, all-remove, all-set}
use Rattle.ndc_laws_cells.proofs.Lists.{is-among}
use Rattle.ndc_model.proofs.WorldLemmas.{set-cases}
use Rattle.ndc_model_sets.proofs.Lists.{Among, all-among, all-from, list_any-one}
use Rattle.ndc_laws_reached.proofs.FrameLemmas.{beats-alike, cells_in, handovers-alike, letter-alike, queues_in, ranges-alike, reports-alike, reports_in, tables_in}
use Rattle.ndc_laws_reached.proofs.LaneLemmas.{flight-put, renewed-all}
use Rattle.ndc_laws_reached.proofs.LinkLemmas.{IsLinkFit, links-fit}
use Rattle.ndc_laws_reached.proofs.Lists.{length-set}

-- a workflow lives in one of the shards
pub shard-below : (domain workflow : Name) (shards : ℕ) → 0 < shards → shard_of domain workflow shards < shards
unfolding shard_of
shard-below domain workflow shards some = mod_below (hash_of domain workflow) shards some

module _ (header : Header) (lines : ℕ) (cluster : ClusterNo) (letters : List Letter) (w : World) (is : IsReached header lines w) (known : IsCluster header cluster)
    (fit : AllByRecursion (IsLetterFit header w cluster) letters) where
  abbrev v : World
  v = with_letters cluster letters w

  -- a part of clusters that is not their letters
  by-part : {X : Type 0} (part : Cluster → X) → ((c : Cluster) → part (record c { letters = letters }) ≡ part c) → (other : ClusterNo) → part (cluster_at other v) ≡ part (cluster_at other w)
  by-part part same other =
      set-cases (λ (c : Cluster). part c ≡ part (cluster_at other w)) w.clusters cluster.number other.number _ (new_cluster 0)
      (λ at. same (cluster_at cluster w) ∙ ap (λ (n : ℕ). part (slice_index_or w.clusters n (new_cluster 0))) (sym at)) refl

  tables : tables_in v ≡ tables_in w
  tables = λ i other. by-part (λ c. c.table) (λ c. refl) other i

  reports : reports_in v ≡ reports_in w
  reports = λ i other. by-part (λ c. c.reports) (λ c. refl) other i

  cells : cells_in v ≡ cells_in w
  cells = λ i other place. cell_for place (by-part (λ c. c.cells) (λ c. refl) other i)

  shaped : IsShaped header v
  shaped = record {
    clusters = length-set w.clusters cluster.number _ ∙ is.shaped.clusters;
    cells = all-set (λ c. length c.cells ≡ header.shards) w.clusters cluster.number _ (at-cluster w.clusters cluster.number is.shaped.cells (omega (arith, known, is.shaped.clusters))) is.shaped.cells;
    links = is.shaped.links;
    ends = is.shaped.ends;
    lanes = is.shaped.lanes;
    sources = is.shaped.sources;
    trimmed = is.shaped.trimmed;
  }
    where
      at-cluster : (clusters : List Cluster) (i : ℕ) → AllByRecursion (λ c. length c.cells ≡ header.shards) clusters → i < length clusters → length (slice_index_or clusters i (new_cluster 0)).cells ≡ header.shards
      at-cluster [] i all less = absurd (omega (arith, less))
      at-cluster (c ∷ cs) zero all less = all.0
      at-cluster (c ∷ cs) (suc i) all less = at-cluster cs i all.1 (omega (arith, less))

  pub letters-put : IsReached header lines v
  letters-put = record {
    shaped = shaped;
    fair = fair-alike header v w lines cells tables refl refl is.fair;
    ranges = ranges-alike header v w (wrote-same header v w lines cells tables refl refl).batches is.ranges;
    handovers = handovers-alike header v w tables queues refl is.handovers;
    letters = λ c there. of-cluster c (all c (is.letters c there));
    beats = beats-alike header v w lines reports is.beats;
    reports = reports-alike header v w reports is.reports;
  }
    where
      queues : queues_in v ≡ queues_in w
      queues = queues-same header v w lines cells tables refl refl

      moved : (c : ClusterNo) (list : List Letter) → AllByRecursion (IsLetterFit header w c) list → AllByRecursion (IsLetterFit header v c) list
      moved c [] f = tt
      moved c (letter ∷ list) f = (letter-alike header v w tables queues c letter f.0, moved c list f.1)

      all : (c : ClusterNo) → AllByRecursion (IsLetterFit header w c) (cluster_at c w).letters → AllByRecursion (IsLetterFit header v c) (cluster_at c w).letters
      all c f = moved c (cluster_at c w).letters f

      of-cluster : (c : ClusterNo) → AllByRecursion (IsLetterFit header v c) (cluster_at c w).letters → AllByRecursion (IsLetterFit header v c) (cluster_at c v).letters
      of-cluster c old =
          set-cases (λ (x : Cluster). AllByRecursion (IsLetterFit header v c) x.letters) w.clusters cluster.number c.number _ (new_cluster 0)
          (λ at. subst (λ (n : ℕ). AllByRecursion (IsLetterFit header v (record { number = n })) letters) (sym at) (moved cluster letters fit)) old

-- the letters of a cluster are dropped
pub purged-kept : (header : Header) (lines : ℕ) (cluster : ClusterNo) (w : World) → IsReached header lines w → IsCluster header cluster → IsReached header lines (purge_step cluster w).world
purged-kept header lines cluster w is known = letters-put header lines cluster [] w is known tt

module _ (header : Header) (lines : ℕ) (reader source : ClusterNo) (two : AreTwoClusters header reader source) (shard : ℕ) (below : shard < header.shards) (w : World) (is : IsReached header lines w) where
  -- what is left of a message in flight is a letter as it should be
  letter-fit : (cut place : ℕ) (sent : Message) → slice_get (flight_at reader source shard w) place ≡ Some sent → IsLetterFit header w reader (letter_of source cut sent.batch)
  letter-fit cut place sent e = by (find (is_link reader source) w.links) refl e
    where
      by : (o : Option Link) → find (is_link reader source) w.links ≡ o → slice_get (lane_in (link_found reader source o) shard).flight place ≡ Some sent → IsLetterFit header w reader (letter_of source cut sent.batch)
      by None f e = absurd (all-got (λ (m : Message). ⊥) [] place sent e tt)
      by (Some link) f e =
          let fit = all-among (IsLinkFit header w) w.links link (links-fit header lines w is) (find-among (is_link reader source) w.links link f) in
          let mine = and_parts (same_cluster link.reader reader) (same_cluster link.source source) (find-passes (is_link reader source) w.links link f) in
          let r : link.reader ≡ reader = one-cluster link.reader reader mine.0 in
          let s : link.source ≡ source = one-cluster link.source source mine.1 in
          let among : IsAmong (queue_at link.source shard w) sent = all-got (IsAmong (queue_at link.source shard w)) (lane_in link shard).flight place sent e (fit.lanes shard below).is_true.flight in
          let named : is_named header link.reader w sent.batch.domain ≡ true = all-got (λ m. is_named header link.reader w m.batch.domain ≡ true) (lane_in link shard).flight place sent e (fit.lanes shard below).named in
          let here : Among sent (queue_at source shard w) = subst (λ (c : ClusterNo). Among sent (queue_at c shard w)) s (is-among (queue_at link.source shard w) sent among) in
          let written : Among sent.batch (all_written header shard w) =
          there-among (all_written header shard w) (place_of sent.batch) sent.batch (all-among (IsMessageTrue header shard w) (queue_at source shard w) sent (is.fair.messages source shard two.second below).written here).0 in
          record {
            clusters = two;
            sent = subst (λ (n : ℕ). list_any (λ m. is_at (place_of sent.batch) m.batch) (queue_at source n w) ≡ true) (sym (lives header lines w is shard below sent.batch written))
                (list_any-one (λ m. is_at (place_of sent.batch) m.batch) (queue_at source shard w) sent here (is_at-own sent.batch));
            named = subst (λ (c : ClusterNo). is_named header c w sent.batch.domain ≡ true) r named;
          }

  -- a message that comes damaged
  damaged-letter : (place : ℕ) (letter : Letter) → IsLetterFit header w reader letter → IsReached header lines (damaged reader source shard place w letter).world
  damaged-letter place letter fit = by (is_whole letter)
    where
      after : World
      after = with_flight reader source shard (remove (flight_at reader source shard w) place) w

      by : (t : Bool) → IsReached header lines (if t then answered w (ok (codes "whole" ∷ [])) else answered (with_letters reader ((cluster_at reader w).letters ++ letter ∷ [])
          (with_flight reader source shard (remove (flight_at reader source shard w) place) w)) (ok (codes "aside" ∷ []))).world
      by true = is
      by false =
          letters-put header lines reader ((cluster_at reader w).letters ++ letter ∷ []) (with_flight reader source shard (remove (flight_at reader source shard w) place) w)
          (flight-put header lines w is reader source shard (remove (flight_at reader source shard w) place) (λ P all. all-remove P (flight_at reader source shard w) place all)) two.first
          (each ((cluster_at reader w).letters ++ letter ∷ []) (all-append (IsLetterFit header w reader) (cluster_at reader w).letters (letter ∷ []) (is.letters reader two.first) (fit, tt)))
        where
          each : (list : List Letter) → AllByRecursion (IsLetterFit header w reader) list → AllByRecursion (IsLetterFit header (with_flight reader source shard (remove (flight_at reader source shard w) place) w) reader) list
          each [] f = tt
          each (one ∷ list) f = (record { clusters = f.0.clusters; sent = f.0.sent; named = f.0.named }, each list f.1)

  pub damaged-kept : (place cut : ℕ) → IsReached header lines (damage_step reader source shard place cut w).world
  damaged-kept place cut = by (slice_get (flight_at reader source shard w) place) refl
    where
      by : (o : Option Message) → slice_get (flight_at reader source shard w) place ≡ o → IsReached header lines (damage_at reader source shard place cut w o).world
      by None e = is
      by (Some sent) e = damaged-letter place (letter_of source cut sent.batch) (letter-fit cut place sent e)

-- the messages of letters arrive again
module _ (header : Header) (lines : ℕ) (reader : ClusterNo) (known : IsCluster header reader) (some : 0 < header.shards) (w : World) (is : IsReached header lines w) where
  job-may : (letter : Letter) → IsLetterFit header w reader letter → (asked : ShardJob) → letter_job header w letter ≡ Some asked → IsArrival header reader w asked
  job-may letter fit asked e = by (batch_there (learned_of letter.domain letter.workflow cell) (place_of_letter letter)) refl e
    where
      shard : ℕ
      shard = shard_of letter.domain letter.workflow header.shards

      cell : Cell
      cell = cell_of header letter.source letter.domain letter.workflow w

      below : shard_of letter.domain letter.workflow header.shards < header.shards
      below = shard-below letter.domain letter.workflow header.shards some

      sent-may : (b : Batch) → batch_there (learned_of letter.domain letter.workflow (cell_of header letter.source letter.domain letter.workflow w)) (place_of_letter letter) ≡ Some b
          → (o : Option Message) → learned_message (cell_of header letter.source letter.domain letter.workflow w) b ≡ o → option_map (arrives (shard_of letter.domain letter.workflow header.shards)) o ≡ Some asked → IsArrival header reader w asked
      sent-may b f None g e = absurd (cc)
      sent-may b f (Some sent) g e =
          let there : Among b (learned_of letter.domain letter.workflow (cell_of header letter.source letter.domain letter.workflow w)) = there-among _ (place_of_letter letter) b f in
          let set = learned_closed (arrived_of letter.domain letter.workflow (cell_of header letter.source letter.domain letter.workflow w))
          (set_of_workflow letter.domain letter.workflow (cell_of header letter.source letter.domain letter.workflow w) (cell-is header lines w is (shard_of letter.domain letter.workflow header.shards) below letter.source fit.clusters.second)) in
          let has : Has (learned_of letter.domain letter.workflow (cell_of header letter.source letter.domain letter.workflow w)) b = among-has (learned_of letter.domain letter.workflow (cell_of header letter.source letter.domain letter.workflow w)) b set.0.ordered there in
          let p = learned-arrived header lines w is (shard_of letter.domain letter.workflow header.shards) below letter.source fit.clusters.second letter.domain letter.workflow b has in
          let n = names-of letter.domain letter.workflow b p.1 in
          let own : Has (learned_of b.domain b.workflow (cell_of header letter.source letter.domain letter.workflow w)) b =
          subst (λ (d : Name). Has (learned_of d b.workflow (cell_of header letter.source letter.domain letter.workflow w)) b) (sym n.0)
          (subst (λ (u : Name). Has (learned_of letter.domain u (cell_of header letter.source letter.domain letter.workflow w)) b) (sym n.1) has) in
          let same : b ≡ sent.batch = ap (λ (m : Message). m.batch) (own-is (learned_of b.domain b.workflow (cell_of header letter.source letter.domain letter.workflow w)) (cell_of header letter.source letter.domain letter.workflow w).arrived b sent g).1 in
          let job_is : arrives (shard_of letter.domain letter.workflow header.shards) sent ≡ asked = cc in
          subst (IsArrival header reader w) job_is (record {
            sent = sent;
            job = refl;
            below = below;
            may = record {
              is_true = learned-true header lines w is (shard_of letter.domain letter.workflow header.shards) below letter.source fit.clusters.second b sent own g;
              named = subst (λ (x : Batch). is_named header reader w x.domain ≡ true) same (subst (λ (d : Name). is_named header reader w d ≡ true) (sym n.0) fit.named);
            };
          })

      by : (o : Option Batch) → batch_there (learned_of letter.domain letter.workflow (cell_of header letter.source letter.domain letter.workflow w)) (place_of_letter letter) ≡ o
          → option_map (arrives (shard_of letter.domain letter.workflow header.shards)) (message_found (cell_of header letter.source letter.domain letter.workflow w) o) ≡ Some asked → IsArrival header reader w asked
      by None f e = absurd (cc)
      by (Some b) f e = sent-may b f (learned_message (cell_of header letter.source letter.domain letter.workflow w) b) refl e

  jobs-may : (letters : List Letter) → AllByRecursion (IsLetterFit header w reader) letters → AllByRecursion (IsArrival header reader w) (filter_map (letter_job header w) letters)
  jobs-may letters fit = all-from (IsArrival header reader w) (filter_map (letter_job header w) letters)
      (λ asked among. let f = filter_map-among (letter_job header w) letters asked among in job-may f.0 (all-among (IsLetterFit header w reader) letters f.0 fit f.1) asked f.2)

  pub letters-merged : IsReached header lines (letters_merged header reader w).world
  unfolding letters_merged jobs_done
  letters-merged =
      let m = many header lines reader known (filter_map (letter_job header w) (cluster_at reader w).letters) w is (jobs-may (cluster_at reader w).letters (is.letters reader known)) in
      renewed-all header lines _ (letters-put header lines reader [] _ m.0.kept.reached known tt) reader
