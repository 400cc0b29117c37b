-- What a command or a reset replies, and the cell after it.
use Rattle.std.proofs.Common.{◌≡◌, ◌≢◌, ◌<◌, List, [], ◌∷◌, length, arith, Result, Ok, Err, OnOk, OnErr, refl, sym, ◌∙◌, ap}
use Rattle.ndc_model_cells.specs.Cells.{Cell}
use Rattle.ndc_model_cells.specs.Jobs.{written_at, written_now, written_outcome}
use Rattle.ndc_model_cells.specs.Writing.{Entry}
use Rattle.ndc_command.specs.declared.refusal.CommandError.{CommandError}
use Rattle.ndc_command.specs.declared.refusal.CommandError.TheVariants.{Memory, Refused}
use Rattle.ndc_event.specs.Outcome.{Gives}
use Rattle.ndc_event.specs.declared.batch.Batch.{Batch}
use Rattle.ndc_model_cells.specs.declared.job.Written.{Written}
use Rattle.ndc_shard.specs.Answers.{keys_of}
use Rattle.ndc_shard.specs.Shards.{batches_written, reply_of}
use Rattle.ndc_shard.specs.declared.error.ShardError.{ShardError}

reply-by : (asked : Result (List Entry) CommandError) → reply_of (batches_written asked) ≡ record { outcome = written_outcome asked; learned = written_now asked }
reply-by (Ok entries) = refl
reply-by (Err (Refused refusal)) = refl
reply-by (Err Memory) = refl

-- what was answered is the answer, where it is not want of memory
answered : (written : Result (List Batch) CommandError) (answer : Result (List Batch) CommandError) → Gives Memory (λ (batches : List Batch). batches) written answer → written ≢ Err Memory → written ≡ answer
answered (Ok batches) answer gives calm = sym gives
answered (Err error) answer gives calm = sym (gives (λ e. calm (ap Err e)))

pub reply-same : (asked : Result (List Entry) CommandError) (written : Result (List Batch) CommandError) → Gives Memory (λ (batches : List Batch). batches) written (batches_written asked) → written ≢ Err Memory
    → reply_of written ≡ record { outcome = written_outcome asked; learned = written_now asked }
reply-same asked written gives calm = ap reply_of (answered written (batches_written asked) gives calm) ∙ reply-by asked

pub cell-same : (asked : Result (List Entry) CommandError) (written : Result (List Batch) CommandError) (old new : Cell) → Gives Memory (λ (batches : List Batch). batches) written (batches_written asked)
    → written ≢ Err Memory → OnOk written (new ≡ written_at asked old) → OnErr written (new ≡ old) → new ≡ written_at asked old
cell-same asked (Ok batches) old new gives calm done kept = done
cell-same asked (Err error) old new gives calm done kept = kept ∙ by asked (gives (λ e. calm (ap Err e)))
  where
    by : (asked : Result (List Entry) CommandError) → batches_written asked ≡ Err error → old ≡ written_at asked old
    by (Ok entries) e = absurd (cc)
    by (Err other) e = refl

-- the keys of batches that were written are not an error
pub keys-kept : (P : Type 0) (batches : List Batch) → 0 < length batches → (r : Result Written ShardError) → r ≡ keys_of batches → OnErr r P
keys-kept P [] some r e = absurd (omega (arith, some))
keys-kept P (b ∷ []) some (Ok written) e = tt
keys-kept P (b ∷ []) some (Err error) e = absurd (cc)
keys-kept P (b ∷ second ∷ batches) some (Ok written) e = tt
keys-kept P (b ∷ second ∷ batches) some (Err error) e = absurd (cc)
