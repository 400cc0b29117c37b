-- What a cell has learned among a sound set is sound.
use Rattle.std.proofs.Common.{List}
use Rattle.ndc_model_cells.specs.Cells.{Cell, arrived_of, learned_of}
use Rattle.ndc_model_cells.specs.Laws.{IsFoundAmong}
use Rattle.ndc_model_cells.specs.Places.{AreInOrder}
use Rattle.ndc_model_cells.proofs.PlaceLemmas.{rise-own}
use Rattle.ndc_event.specs.declared.batch.Batch.{Batch}
use Rattle.ndc_event.specs.declared.name.Name.{Name}
use Rattle.ndc_model_sets.specs.Learned.{IsPart}
use Rattle.ndc_model_sets.specs.Sets.{IsSet, PointsBack, Rise}
use Rattle.ndc_model_sets.specs.Sound.{IsSound}
use Rattle.ndc_model_sets.proofs.BranchLemmas.{among-has}
use Rattle.ndc_model_sets.proofs.LearnedLemmas.{learned-reaches, learned_closed, reaches-has}
use Rattle.ndc_model_sets.proofs.Lists.{all-from}
use Rattle.ndc_model_sets.proofs.SoundLemmas.{faultless-back, part_is_sound}

module _ (domain workflow : Name) (cell : Cell) (batches : List Batch) (ordered : AreInOrder cell.arrived) (sound : IsSound batches) (among : IsFoundAmong domain workflow cell batches) where
  rises : Rise (arrived_of domain workflow cell)
  rises = rise-own domain workflow cell.arrived ordered

  -- what has arrived of the workflow is a set
  pub found-set : IsSet (arrived_of domain workflow cell)
  found-set = record {
    ordered = rises;
    back = all-from PointsBack (arrived_of domain workflow cell) (λ b there. faultless-back b (sound.faultless b (among b (among-has (arrived_of domain workflow cell) b rises there))));
  }

  learned-part : IsPart (learned_of domain workflow cell) batches
  learned-part b has = among b (reaches-has (arrived_of domain workflow cell) b (learned-reaches (arrived_of domain workflow cell) b found-set has))

  found-sound : IsSound (learned_of domain workflow cell)
  found-sound =
      let closed = learned_closed (arrived_of domain workflow cell) found-set in
      part_is_sound batches (learned_of domain workflow cell) sound closed.0 closed.1 learned-part

-- what is learned in a cell whose batches are all found among a sound set is sound
pub learned_is_sound : (domain workflow : Name) (cell : Cell) (batches : List Batch) → AreInOrder cell.arrived → IsSound batches → IsFoundAmong domain workflow cell batches
    → IsSound (learned_of domain workflow cell)
learned_is_sound domain workflow cell batches ordered sound among = found-sound domain workflow cell batches ordered sound among
