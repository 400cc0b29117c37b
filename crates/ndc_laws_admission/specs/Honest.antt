-- Honest messages: what is asked so that one is admitted as it arrives.
use Rattle.std.specs.Prelude.{◌≡◌, ◌<◌, ◌^◌, true, List, Some, IfSome}
use Rattle.std.specs.List.{AllByRecursion}
use Rattle.ndc_admission.specs.Faults.{IsWellMade}
use Rattle.ndc_admission.specs.History.{TellsPathIn}
use Rattle.ndc_event.specs.declared.batch.Batch.{Batch}
use Rattle.ndc_model_cells.specs.Keeping.{IsMessageOf}
use Rattle.ndc_model_cells.specs.Messages.{HasSmallIds, batches_of}
use Rattle.ndc_model_cells.specs.Workflow.{WorkflowValue}
use Rattle.ndc_model_cells.specs.Writing.{greatest_task}
use Rattle.ndc_model_cells.specs.declared.message.Message.{Message}
use Rattle.ndc_model_sets.specs.Learned.{has_key, learned, IsPart}
use Rattle.ndc_model_sets.specs.Sound.{IsSound}
use Rattle.ndc_shard_workflows.specs.Admitting.{HasSmallTask, IsLone}
use Rattle.ndc_shard_workflows.specs.Terms.{IsForeign, TermsValue}

-- tasks are below 2^64, as those of all batches are in the program, ids of what waits are small, and no other carries the batch of a message that
-- waits
pub record IsInBounds (w : WorkflowValue) : Type 0 where
  pub lone : AllByRecursion IsLone w.waiting
  pub ids : AllByRecursion HasSmallIds (batches_of w.waiting)
  pub tasks : greatest_task (learned w.arrived) < 2 ^ 64
  pub waiting_tasks : AllByRecursion HasSmallTask (batches_of w.waiting)

-- a message is honest: it is one of a sound set that holds all that has arrived, well made, of another cluster's versions, and there is room for it;
-- what it carries has arrived with its batch alone, and the version histories of what waits are those of their paths
pub record IsHonest (terms : TermsValue) (all : List Batch) (sent : Message) (w : WorkflowValue) : Type 0 where
  pub sound : IsSound all
  pub within : IsPart w.arrived all
  pub message : IsMessageOf all sent
  pub made : IsWellMade terms.clusters sent
  pub foreign : IsForeign terms (learned w.arrived) sent
  pub with_first : IfSome sent.second (λ s. has_key (Some s.key) w.arrived ≡ true → has_key (Some sent.batch.key) w.arrived ≡ true)
  pub room : terms.may_wait ≡ true
  pub histories : AllByRecursion (TellsPathIn all) w.waiting
  pub bounds : IsInBounds w
