-- What the calls of a shard answer.
use Rattle.std.specs.Prelude.{List, [], ◌∷◌, Result, Ok, Err, Some, None}
use Rattle.ndc_command.specs.declared.refusal.CommandError.{CommandError}
use Rattle.ndc_command.specs.declared.refusal.CommandError.TheVariants as command
use Rattle.ndc_event.specs.declared.batch.Batch.{Batch}
use Rattle.ndc_event.specs.declared.key.BatchKey.{BatchKey}
use Rattle.ndc_event.specs.declared.name.Name.{Name}
use Rattle.ndc_model_cells.specs.declared.job.Written.{Written}
use Rattle.ndc_model_cells.specs.Jobs.{all_batches}
use Rattle.ndc_model_cells.specs.Writing.{Entry}
use Rattle.ndc_shard.specs.declared.error.ShardError.{ShardError}
use Rattle.ndc_shard.specs.declared.error.ShardError.TheVariants.{Memory, Refused}

-- why a command is not planned, as why a shard has not written it
abbrev pub as_shard_error : CommandError → ShardError
as_shard_error (command.Refused why) = Refused why
as_shard_error command.Memory = Memory

-- the keys of what was written: its first batch, and the other one, where there are two; where nothing is written, no answer is right
abbrev pub keys_of : List Batch → Result Written ShardError
keys_of [] = Err Memory
keys_of (b ∷ []) = Ok (record { key = b.key; second = None })
keys_of (b ∷ second ∷ batches) = Ok (record { key = b.key; second = Some second.key })

-- what a call answers that writes entries or is refused
abbrev pub answer_of : Result (List Entry) CommandError → Result Written ShardError
answer_of (Ok entries) = keys_of (all_batches entries)
answer_of (Err error) = Err (as_shard_error error)

-- where a batch stands in a shard: its domain, its workflow and its key
abbrev pub names_of : Batch → Name × Name × BatchKey
names_of b = (b.domain, b.workflow, b.key)
