-- The messages of letters may arrive again.
use Rattle.std.proofs.Common.{◌≡◌, ℕ, ◌<◌, List, Option, Some, None, option_map, refl, sym, subst, ap}
use Rattle.std.specs.Prelude.{true}
use Rattle.std.specs.List.{filter_map}
use Rattle.ndc_script_types.specs.WellFormed.{IsCluster}
use Rattle.ndc_script_types.specs.declared.script.Header.{Header}
use Rattle.ndc_model_cells.specs.declared.job.ShardJob.{ShardJob}
use Rattle.ndc_model_cells.specs.declared.message.Message.{Message}
use Rattle.ndc_model_cells.specs.Cells.{Cell, arrived_of, learned_message, learned_of, message_found}
use Rattle.ndc_model_cells.specs.Places.{batch_there}
use Rattle.ndc_model_cells.specs.Shards.{shard_of}
use Rattle.ndc_model_cells.proofs.PlaceLemmas.{set_of_workflow}
use Rattle.ndc_domain.specs.declared.clusters.ClusterNo.{ClusterNo}
use Rattle.ndc_event.specs.declared.batch.Batch.{Batch}
use Rattle.ndc_event.specs.declared.name.Name.{Name}
use Rattle.ndc_laws_reached.proofs.ArrivalLemmas.{own-is}
use Rattle.ndc_laws_reached.proofs.BringLemmas.{IsArrival}
use Rattle.ndc_laws_cells.proofs.FoundLemmas.{there-among}
use Rattle.ndc_laws_reached.proofs.LetterLemmas.{shard-below}
use Rattle.ndc_laws_reached.proofs.MessageLemmas.{learned-arrived, learned-true}
use Rattle.ndc_laws_reached.proofs.WrittenLemmas.{cell-is, names-of}
use Rattle.ndc_letters.specs.Letters.{place_of_letter}
use Rattle.ndc_letters.specs.declared.letter.Letter.{Letter}
use Rattle.ndc_model.specs.Facts.{IsLetterFit, IsReached}
use Rattle.ndc_model.specs.Fair.{is_named}
use Rattle.ndc_model.specs.Letters.{letter_job}
use Rattle.ndc_model.specs.Moves.{arrives}
use Rattle.ndc_model.specs.World.{World, cell_at, cluster_at}
use Rattle.ndc_model.specs.Conditions.{MayDoAll}
use Rattle.ndc_model_sets.specs.Sets.{Has}
use Rattle.ndc_model_sets.proofs.BranchLemmas.{among-has}
use Rattle.ndc_model_sets.proofs.LearnedLemmas.{learned_closed}
use Rattle.ndc_model_sets.proofs.Lists.{all-among, all-from, filter_map-among}
use Rattle.ndc_model_cells.specs.Allowed.{IsAllowed}
use Rattle.ndc_model.specs.Allowed.{letter_jobs}
use Rattle.ndc_laws_jobs.proofs.ComeLemmas.{many-allowed}

module _ (header : Header) (lines : ℕ) (reader : ClusterNo) (known : IsCluster header reader) (some : 0 < header.shards) (w : World) (is : IsReached header lines w) where
  -- the job of a letter
  module _ (letter : Letter) (fit : IsLetterFit header w reader letter) (asked : ShardJob) where
    abbrev shard : ℕ
    shard = shard_of letter.domain letter.workflow header.shards

    abbrev cell : Cell
    cell = cell_at letter.source shard w

    abbrev part : List Batch
    part = learned_of letter.domain letter.workflow cell

    below : shard_of letter.domain letter.workflow header.shards < header.shards
    below = shard-below letter.domain letter.workflow header.shards some

    sent-may : (b : Batch) → Has part b → (o : Option Message) → learned_message cell b ≡ o → option_map (arrives shard) o ≡ Some asked → IsArrival header reader w asked
    sent-may b has None g e = absurd (cc)
    sent-may b has (Some sent) g e =
        let n = names-of letter.domain letter.workflow b (learned-arrived header lines w is shard below letter.source fit.clusters.second letter.domain letter.workflow b has).1 in
        let own : Has (learned_of b.domain b.workflow cell) b = subst (λ (d : Name). Has (learned_of d b.workflow cell) b) (sym n.0) (subst (λ (u : Name). Has (learned_of letter.domain u cell) b) (sym n.1) has) in
        let same : b ≡ sent.batch = ap (λ (m : Message). m.batch) (own-is (learned_of b.domain b.workflow cell) cell.arrived b sent g).1 in
        let job_is : arrives shard sent ≡ asked = cc in
        subst (IsArrival header reader w) job_is (record {
          sent = sent;
          job = refl;
          below = below;
          may = record {
            is_true = learned-true header lines w is shard below letter.source fit.clusters.second b sent own g;
            named = subst (λ (x : Batch). is_named header reader w x.domain ≡ true) same (subst (λ (d : Name). is_named header reader w d ≡ true) (sym n.0) fit.named);
          };
        })

    letter-may : letter_job header w letter ≡ Some asked → IsArrival header reader w asked
    letter-may = by (batch_there part (place_of_letter letter)) refl
      where
        by : (o : Option Batch) → batch_there part (place_of_letter letter) ≡ o → option_map (arrives shard) (message_found cell o) ≡ Some asked → IsArrival header reader w asked
        by None f e = absurd (cc)
        by (Some b) f e =
            let set = learned_closed (arrived_of letter.domain letter.workflow cell) (set_of_workflow letter.domain letter.workflow cell (cell-is header lines w is shard below letter.source fit.clusters.second)) in
            sent-may b (among-has part b set.0.ordered (there-among part (place_of_letter letter) b f)) (learned_message cell b) refl e

  pub letters_allowed : MayDoAll IsAllowed header reader (letter_jobs header reader w) w
  letters_allowed = many-allowed header lines reader known (filter_map (letter_job header w) (cluster_at reader w).letters) w is
      (all-from (IsArrival header reader w) (filter_map (letter_job header w) (cluster_at reader w).letters)
      (λ asked among. let f = filter_map-among (letter_job header w) (cluster_at reader w).letters asked among in
      letter-may f.0 (all-among (IsLetterFit header w reader) (cluster_at reader w).letters f.0 (is.letters reader known) f.1) asked f.2))
