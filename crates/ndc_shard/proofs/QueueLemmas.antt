-- What a cell has written is nothing to what arrives there.
use Rattle.std.proofs.Common.{◌≡◌, Bool, true, false, List, refl, sym, subst}
use Rattle.std.specs.Prelude.{if◌then◌else◌}
use Rattle.ndc_model_cells.specs.declared.message.Message.{Message}
use Rattle.ndc_model_cells.specs.Arrival.{arrival_of, arrived_at, cell_with, has_arrived, learned_by}
use Rattle.ndc_model_cells.specs.Cells.{Cell, learned_of}
use Rattle.ndc_model_sets.specs.Sound.{IsSound}
use Rattle.ndc_model_cells.specs.Allowed.{MayArrive}
use Rattle.ndc_shard.specs.Shards.{having_written}

module _ (sent : Message) (messages : List Message) (cell : Cell) where
  pub arrival-same : arrival_of sent cell ≡ arrival_of sent (having_written messages cell)
  unfolding arrival_of
  arrival-same = refl

  pub learned-same : learned_by sent cell ≡ learned_by sent (having_written messages cell)
  unfolding learned_by
  learned-same = refl

  pub arrived-same : having_written messages (arrived_at sent cell) ≡ arrived_at sent (having_written messages cell)
  unfolding arrived_at
  arrived-same = by (has_arrived sent.batch cell)
    where
      by : (t : Bool) → having_written messages (if t then cell else cell_with sent cell) ≡ (if t then having_written messages cell else cell_with sent (having_written messages cell))
      by true = refl
      by false = refl

  pub may-same : MayArrive sent (having_written messages cell) → MayArrive sent cell
  may-same may = record {
    message = may.message;
    lone = may.lone;
    own = may.own;
    new = may.new;
    sound = subst (λ (c : Cell). IsSound (learned_of sent.batch.domain sent.batch.workflow c)) (sym arrived-same) may.sound;
    ids = may.ids;
  }
