-- What is read of the tip.
use Rattle.std.proofs.Common.{◌≡◌, ◌≤◌, ◌+◌, ◌^◌, ◌<◌, ℕ, false, List, [], Option, Some, None, IfSome, sym, ap, arith}
use Rattle.ndc_command.specs.Laws.{begins_run, last_id}
use Rattle.ndc_command.specs.declared.command.Command.{Command}
use Rattle.ndc_command.specs.declared.command.Command.TheVariants.{Start}
use Rattle.ndc_event.specs.declared.batch.Batch.{Batch}
use Rattle.ndc_event.specs.declared.key.BatchKey.{BatchKey}
use Rattle.ndc_model_sets.specs.Paths.{events_to, path_to}
use Rattle.ndc_model_sets.specs.Sets.{batch_at}
use Rattle.ndc_shard_runs.proofs.TipLemmas.{none-map}
use Rattle.ndc_state.specs.Replay.{history_of}
use Rattle.ndc_state.specs.Value.{StateValue}
use Rattle.ndc_model_sets.specs.Reading.{path_at}
use Rattle.ndc_model_sets.proofs.NoPaths.{no-path}

-- what is planned below a tip keeps its ids within u64
pub ids-within : (o : Option StateValue) (command : Command) (limit count : ℕ) → begins_run command ≡ false → last_id o command + count ≤ limit → limit < 2 ^ 64 → IfSome o (λ s. s.next + count ≤ 2 ^ 64)
ids-within None command limit count other most small = tt
ids-within (Some s) (Start _) limit count other most small = absurd (cc)
ids-within (Some s) _ limit count other most small = omega (arith, most, small)

-- a key that is not there has no history
pub no-history : (batches : List Batch) (key : BatchKey) → None ≡ path_at key batches → [] ≡ events_to key batches
no-history batches key e = sym (ap history_of (no-path batches key (none-map (λ (b : Batch). path_to key batches) (batch_at key batches) e)))
