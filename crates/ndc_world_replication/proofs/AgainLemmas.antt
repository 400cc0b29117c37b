-- What is brought and sent again in a world that some lines lead to.
use Rattle.std.proofs.Common.{◌≡◌, ℕ, ◌<◌, List, [], ◌∷◌, ◌++◌, map, refl, sym, ◌∙◌, subst, ap}
use Rattle.std.specs.List.{AllByRecursion, IsAmong, flat_map}
use Rattle.ndc_script_types.specs.WellFormed.{IsCluster}
use Rattle.ndc_script_types.specs.declared.script.Header.{Header}
use Rattle.ndc_model.specs.Again.{brought_again, sent_again_at, sent_again_of}
use Rattle.ndc_laws_jobs.proofs.AgainLemmas.{brought-of-workflow, sent-by-workflow}
use Rattle.ndc_model_cells.specs.declared.place.Place.{Place}
use Rattle.ndc_model_cells.specs.Cells.{put_off_in}
use Rattle.ndc_model_cells.specs.Jobs.{workflows_of}
use Rattle.ndc_model_cells.specs.Places.{place_of}
use Rattle.ndc_domain.specs.declared.clusters.ClusterNo.{ClusterNo}
use Rattle.ndc_event.specs.declared.batch.Batch.{Batch}
use Rattle.ndc_laws_reached.proofs.OwnLemmas.{workflows-among}
use Rattle.ndc_model.specs.Sometime.{IsReachedSometime}
use Rattle.ndc_model.specs.Moves.{sent_again}
use Rattle.ndc_model.specs.World.{World, cell_at}
use Rattle.ndc_model.proofs.ListLemmas.{among-is, is-among}
use Rattle.ndc_world_replication.proofs.OrderlyLemmas.{orderly_fair}
use Rattle.ndc_world_replication.specs.Orderly.{IsOrderly}
use Rattle.ndc_model_sets.proofs.Lists.{Among, all-from, among-map, map-among}

-- a world that some lines lead to is orderly
pub orderly_sometime : (header : Header) (w : World) → IsReachedSometime header w → IsOrderly header w
orderly_sometime header w it = orderly_fair header w it.reached.shaped it.reached.fair.lanes

module _ (header : Header) (w : World) (it : IsReachedSometime header w) (shard : ℕ) (below : shard < header.shards) (reader : ClusterNo) (known : IsCluster header reader) where
  -- what is brought of the workflow of a place is what is sent again of it
  pub brought_at : (place : Place) → IsAmong (map place_of (put_off_in (cell_at reader shard w))) place
      → brought_again header reader w shard place.domain place.workflow ≡ sent_again_of header reader w shard place.domain place.workflow
  brought_at place among = by (map-among place_of (put_off_in (cell_at reader shard w)) place (is-among (map place_of (put_off_in (cell_at reader shard w))) place among))
    where
      by : ((h : Batch) × Among h (put_off_in (cell_at reader shard w)) × (place ≡ place_of h))
          → brought_again header reader w shard place.domain place.workflow ≡ sent_again_of header reader w shard place.domain place.workflow
      by m =
          subst (λ (q : Place). brought_again header reader w shard q.domain q.workflow ≡ sent_again_of header reader w shard q.domain q.workflow) (sym m.2)
          (brought-of-workflow header it.lines w it.reached shard below reader known m.0 m.1)

  -- the places of the first of each workflow are places of what is put off
  pub places_among : (places : List Place) → places ≡ map place_of (workflows_of (put_off_in (cell_at reader shard w))) → AllByRecursion (IsAmong (map place_of (put_off_in (cell_at reader shard w)))) places
  places_among places is =
      subst (AllByRecursion (IsAmong (map place_of (put_off_in (cell_at reader shard w))))) (sym is)
      (all-from (IsAmong (map place_of (put_off_in (cell_at reader shard w)))) (map place_of (workflows_of (put_off_in (cell_at reader shard w)))) each)
    where
      each : (q : Place) → Among q (map place_of (workflows_of (put_off_in (cell_at reader shard w)))) → IsAmong (map place_of (put_off_in (cell_at reader shard w))) q
      each q among =
          let m = map-among place_of (workflows_of (put_off_in (cell_at reader shard w))) q among in
          among-is (map place_of (put_off_in (cell_at reader shard w))) q
          (subst (λ (p : Place). Among p (map place_of (put_off_in (cell_at reader shard w)))) (sym m.2)
          (among-map place_of (put_off_in (cell_at reader shard w)) m.0 (workflows-among (put_off_in (cell_at reader shard w)) m.0 m.1)))

  -- what is sent again, place by place
  pub sent_by_places : (places : List Place) → places ≡ map place_of (workflows_of (put_off_in (cell_at reader shard w))) → flat_map (sent_again_at header reader w shard) places ≡ sent_again header reader w shard
  sent_by_places places is =
      ap (flat_map (sent_again_at header reader w shard)) is ∙ at-heads (workflows_of (put_off_in (cell_at reader shard w))) ∙ sent-by-workflow header it.lines w it.reached shard below reader known
    where
      at-heads : (heads : List Batch) → flat_map (sent_again_at header reader w shard) (map place_of heads) ≡ flat_map (λ h. sent_again_of header reader w shard h.domain h.workflow) heads
      at-heads [] = refl
      at-heads (h ∷ heads) = ap (λ l. sent_again_of header reader w shard h.domain h.workflow ++ l) (at-heads heads)
