-- What is put off, each batch with the gap before it, as it is told by keys.
use Rattle.std.specs.Prelude.{ℕ, List, Option}
use Rattle.std.specs.Global.{Vec}
use Rattle.std.specs.Option.{option_map}
use Rattle.ndc_history.specs.declared.item.Item.{Item}
use Rattle.ndc_model_cells.specs.declared.message.Message.{Message}
use Rattle.ndc_model_cells.specs.Messages.{batches_of}
use Rattle.ndc_model_sets.specs.Sets.{batch_at}
use Rattle.ndc_resend.specs.declared.asking.GapOf.{GapOf}
use Rattle.ndc_resend.specs.PutOff.{gap_with}
use Rattle.ndc_shard.specs.Histories.{histories_at}
use Rattle.ndc_shard_waiting.specs.declared.waiting.PutOff.{PutOff}

-- a batch that is put off, by its key and what it misses, beside histories by run
abbrev pub gap_there : List (ℕ × Vec (List Item)) → List Message → PutOff → Option GapOf
gap_there histories waiting one = option_map (λ b. gap_with (histories_at b.run histories) waiting one.missing b) (batch_at one.key (batches_of waiting))
