-- What can be learned of a workflow, message by message.
use Rattle.std.specs.Prelude.{◌≡◌, List, [], ◌∷◌, Option, Some, None, IfSome}
use Rattle.std.specs.List.{AllByRecursion}
use Rattle.ndc_model_cells.specs.declared.message.Message.{Message}
use Rattle.ndc_event.specs.declared.batch.Batch.{Batch}
use Rattle.ndc_model_sets.specs.Learned.{IsClosed}
use Rattle.ndc_model_sets.specs.Sets.{IsSet}
use Rattle.ndc_model_sets.specs.Sound.{IsSound}
use Rattle.ndc_shard_waiting.specs.Learning.{with_messages, AreLearnable}
use Rattle.ndc_model_cells.specs.Messages.{batches_of, carrying, IsMessage, HasSmallIds}

-- messages can be learned one after the other after these learned batches, and what is learned then is sound
pub record CanBeLearned (known : List Batch) (messages : List Message) : Type 0 where
  pub set : IsSet known
  pub closed : IsClosed known
  pub order : AreLearnable known messages
  pub each : AllByRecursion IsMessage messages
  pub sound : IsSound (with_messages messages known)
  pub small : AllByRecursion HasSmallIds (batches_of messages)

-- a batch, and the one that is learned after it, where there is one, as messages of their own
abbrev pub one_by_one : Batch → Option Batch → List Message
one_by_one b None = carrying b None ∷ []
one_by_one b (Some second) = carrying b None ∷ carrying second None ∷ []

-- a batch can be learned, and after it the other, where there is one, which begins a run
pub record CanBothBeLearned (known : List Batch) (b : Batch) (second : Option Batch) : Type 0 where
  pub order : CanBeLearned known (one_by_one b second)
  pub begins : IfSome second (λ s. s.parent ≡ None)
