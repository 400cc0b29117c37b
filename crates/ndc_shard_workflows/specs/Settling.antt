-- What holds while messages are gone over that waited for one that is learned.
use Rattle.std.specs.Prelude.{◌≡◌, false, List, Some, None}
use Rattle.std.specs.Global.{Vec}
use Rattle.std.specs.List.{AllByRecursion}
use Rattle.ndc_event.specs.declared.batch.Batch.{Batch}
use Rattle.ndc_model_cells.specs.Messages.{batches_of, HasSmallIds, IsMessage, IsNewTo}
use Rattle.ndc_model_cells.specs.declared.message.Message.{Message}
use Rattle.ndc_model_sets.specs.Learned.{has_key}
use Rattle.ndc_model_sets.specs.Sets.{Rise, batch_at, earlier}
use Rattle.ndc_shard_waiting.specs.Learning.{ArePutOff}
use Rattle.ndc_shard_waiting.specs.Waiting.{CanWait}
use Rattle.ndc_shard_workflows.specs.Admitting.{Settling}
use Rattle.ndc_shard_workflows.specs.declared.admission.Admission.{Admission}
use Rattle.ndc_shard_workflows.specs.declared.admission.Admission.TheVariants as admission
use Rattle.ndc_shard_workflows.specs.declared.admission.SetAside.{SetAside}

-- a message that is gone over: one as cells write them, which is learned, or waits and is new to what is learned
pub record IsLeft (known : List Batch) (sent : Message) : Type 0 where
  pub message : IsMessage sent
  pub waits : has_key (Some sent.batch.key) known ≡ false → CanWait sent
  pub fresh : has_key (Some sent.batch.key) known ≡ false → IsNewTo known sent

-- beside what is learned messages wait, and these are left to be gone over: new to those that wait, in key order, and none that waits waits for
-- one of them
pub record CanSettle (known : List Batch) (waiting left : List Message) : Type 0 where
  pub apart : ArePutOff known waiting
  pub small : AllByRecursion HasSmallIds (batches_of waiting)
  pub left_small : AllByRecursion HasSmallIds (batches_of left)
  pub each : AllByRecursion (IsLeft known) left
  pub keys : AllByRecursion (λ b. batch_at b.key (batches_of waiting) ≡ None) (batches_of left)
  pub quiet : AllByRecursion (λ b. has_key (earlier b) (batches_of left) ≡ false) (batches_of waiting)
  pub rise : Rise (batches_of left)

-- what is gone over came to this: what is told, and what is learned and waits then
pub record IsSettled (told : Admission) (end : Settling) (known : List Batch) (waiting : List Message) : Type 0 where
  pub batches : List Batch
  pub aside : Vec SetAside
  pub told_is : told ≡ admission.Learned batches aside
  pub batches_are : batches ≡ batches_of end.learned
  pub aside_are : aside.items ≡ end.aside
  pub known_is : known ≡ end.known
  pub waiting_is : waiting ≡ end.waiting
