-- What a message is answered that arrives in a world that lines lead to.
use Rattle.std.proofs.Common.{◌≡◌, ◌<◌, ◌↔◌, ℕ, false, true, List, [], ◌∷◌, ◌∙◌, subst}
use Rattle.std.specs.List.{filter}
use Rattle.ndc_script_types.specs.WellFormed.{IsCluster}
use Rattle.ndc_script_types.specs.declared.script.Header.{Header}
use Rattle.ndc_model_cells.specs.declared.job.Arrived.TheVariants.{PutOff}
use Rattle.ndc_model_cells.specs.declared.message.Message.{Message}
use Rattle.ndc_model_cells.specs.Arrival.{arrival_of, arrived_at, cell_with, has_arrived}
use Rattle.ndc_model_cells.specs.Cells.{Cell, IsCell, arrived_of}
use Rattle.ndc_model_cells.specs.Jobs.{after_job, cells_after}
use Rattle.ndc_model_cells.specs.Places.{is_of}
use Rattle.ndc_model_cells.specs.Shards.{shard_of}
use Rattle.ndc_domain.specs.declared.clusters.ClusterNo.{ClusterNo}
use Rattle.ndc_event.specs.declared.batch.Batch.{Batch}
use Rattle.ndc_event.specs.declared.key.BatchKey.{BatchKey}
use Rattle.ndc_laws_reached.proofs.BringLemmas.{HasCome, IsBrought, MayArrive, one-arrives, world_after}
use Rattle.ndc_laws_reached.proofs.WrittenLemmas.{cell-is}
use Rattle.ndc_laws_reached.proofs.LandLemmas.{cell-here}
use Rattle.ndc_laws.specs.Promised.{FirstMissing, LacksAncestor}
use Rattle.ndc_laws.proofs.AncestorLemmas.{arrived-part}
use Rattle.ndc_laws.proofs.CellArrivalLemmas.{next-is, put-off-first, put-off-lacks}
use Rattle.ndc_model.specs.Facts.{IsReached}
use Rattle.ndc_model.specs.Fair.{written_of}
use Rattle.ndc_model.specs.Moves.{arrives}
use Rattle.ndc_model.specs.World.{World, cell_at}
use Rattle.ndc_model_sets.specs.Learned.{IsPart}
use Rattle.ndc_model_sets.specs.Sets.{Has}
use Rattle.ndc_model_sets.proofs.BranchLemmas.{has-among}
use Rattle.ndc_model_sets.proofs.Lists.{filter-among}

module _ (header : Header) (lines : ℕ) (w : World) (is : IsReached header lines w) (cluster : ClusterNo) (known : IsCluster header cluster) (shard : ℕ) (below : shard < header.shards)
    (sent : Message) (may : MayArrive header cluster shard w sent) where
  abbrev b : Batch
  b = sent.batch

  abbrev cell : Cell
  cell = cell_at cluster shard w

  abbrev all : List Batch
  all = written_of header b.domain b.workflow w

  own : (x : Batch) → Has all x → is_of b.domain b.workflow x ≡ true
  own x has = (filter-among (is_of b.domain b.workflow) _ x (has-among all x has)).0

  cell-now : IsCell cell
  cell-now = cell-is header lines w is shard below cluster known

  -- the world in which it has arrived
  module _ (fresh : has_arrived b cell ≡ false) where
    abbrev v : World
    v = world_after header cluster (arrives shard sent ∷ []) w

    brought : IsBrought header lines cluster w v × HasCome cluster shard v sent
    brought = one-arrives header lines cluster known w shard sent is below may

    cell-same : cell_at cluster shard v ≡ cell_with sent cell
    unfolding cells_after after_job
    cell-same = cell-here header w is.shaped cluster known shard below (arrived_at sent cell) ∙ next-is sent cell fresh

    then-is : IsCell (cell_with sent cell)
    then-is = subst IsCell cell-same (cell-is header lines v brought.0.kept.reached shard below cluster known)

    within : IsPart (arrived_of b.domain b.workflow (cell_with sent cell)) all
    within =
        subst (λ (f : ℕ → List Batch). IsPart (arrived_of b.domain b.workflow (cell_with sent cell)) (filter (is_of b.domain b.workflow) (f (shard_of b.domain b.workflow header.shards)))) brought.0.kept.batches
        (subst (λ (c : Cell). IsPart (arrived_of b.domain b.workflow c) (written_of header b.domain b.workflow v)) cell-same
        (arrived-part header lines v brought.0.kept.reached cluster known shard below b.domain b.workflow))

  -- a message that may arrive is put off exactly where its batch is new and lacks an ancestor
  pub reached-put-off : ((key : BatchKey) × (arrival_of sent cell ≡ PutOff key)) ↔ ((has_arrived b cell ≡ false) × LacksAncestor header (arrived_at sent cell) b w)
  reached-put-off = put-off-lacks all (is.fair.writing.sound b.domain b.workflow) sent cell own cell-now then-is within

  pub reached-first : (key : BatchKey) → arrival_of sent cell ≡ PutOff key → FirstMissing (arrived_of b.domain b.workflow (arrived_at sent cell)) key b
  reached-first = put-off-first all (is.fair.writing.sound b.domain b.workflow) sent cell own cell-now then-is within
