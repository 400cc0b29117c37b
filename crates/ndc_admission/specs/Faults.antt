-- Why a message is not one that cells send, the first cause, and what a message is that has none.
use Rattle.std.specs.Prelude.{◌≡◌, ◌≤◌, ◌^◌, Bool, true, false, ◌&&◌, not, nat_le, is_some, is_none, IsSome, IfSome, List, [], ◌∷◌, Option, Some, None, option_map}
use Rattle.std.specs.Bool.{then_some}
use Rattle.std.specs.List.{AllByRecursion}
use Rattle.ndc_admission.specs.Numbers.{is_in_range}
use Rattle.ndc_admission.specs.declared.fault.MessageFault.{MessageFault}
use Rattle.ndc_admission.specs.declared.fault.MessageFault.TheVariants.{Faulty, SecondFaulty, OutOfRange, SecondOutOfRange, Carried, LacksSecond, ExtraSecond, Foreign, NotCarried, NoWriter}
use Rattle.ndc_domain.specs.Clusters.{ClusterList, writer_of}
use Rattle.ndc_event.specs.Batch.{fault_of}
use Rattle.ndc_event.specs.Key.{key_eq}
use Rattle.ndc_event.specs.declared.batch.Batch.{Batch}
use Rattle.ndc_event.specs.declared.batch.BatchFault.{BatchFault}
use Rattle.ndc_event.specs.declared.kind.EventKind.{EventKind}
use Rattle.ndc_event.specs.declared.kind.EventKind.TheVariants.{WorkflowExecutionContinuedAsNew}
use Rattle.ndc_model_cells.specs.declared.message.Message.{Message}
use Rattle.ndc_model_cells.specs.Cells.{both}
use Rattle.ndc_model_cells.specs.Messages.{IsCarriedBy}
use Rattle.ndc_model_cells.specs.Places.{is_of}
use Rattle.ndc_model_cells.specs.Writing.{goes_on, key_behind}
use Rattle.ndc_model_sets.specs.Keys.{is_key}
use Rattle.ndc_text.specs.Ranges.{InRange}

-- the first of these that is there
abbrev pub first_of : {X : Type 0} → List (Option X) → Option X
first_of [] = None
first_of (Some x ∷ later) = Some x
first_of (None ∷ later) = first_of later

-- whether there is a second batch for which the test holds
abbrev pub second_is : (Batch → Bool) → Option Batch → Bool
second_is test None = false
second_is test (Some second) = test second

-- the first fault of the second batch, where there is one
abbrev pub second_fault : Option Batch → Option BatchFault
second_fault None = None
second_fault (Some second) = fault_of second

-- whether a batch's numbers are in range, and its task is at most 10^11
abbrev pub fits : Batch → Bool
fits b = is_in_range b && nat_le b.key.task (10 ^ 11)

-- whether the second batch is the one that the first carries: it has the next key, no parent, and the first as its carrier
abbrev pub is_carried_by : Batch → Batch → Bool
is_carried_by b second = key_eq second.key (key_behind b.key) && is_none second.parent && is_key b.key second.carrier

-- whether an event of this kind goes on as another run
abbrev pub continues : EventKind → Bool
continues (WorkflowExecutionContinuedAsNew run workflow_type) = true
continues kind = false

-- the causes why a message is not one that cells of these clusters send, each where it holds, in their order
abbrev pub causes : Message → ClusterList → List (Option MessageFault)
causes sent clusters =
    option_map Faulty (fault_of sent.batch)
    ∷ option_map SecondFaulty (second_fault sent.second)
    ∷ then_some (not (fits sent.batch)) OutOfRange
    ∷ then_some (second_is (λ b. not (fits b)) sent.second) SecondOutOfRange
    ∷ then_some (is_some sent.batch.carrier) Carried
    ∷ then_some (goes_on sent.batch && is_none sent.second) LacksSecond
    ∷ then_some (not (goes_on sent.batch) && is_some sent.second) ExtraSecond
    ∷ then_some (second_is (λ b. not (is_of sent.batch.domain sent.batch.workflow b)) sent.second) Foreign
    ∷ then_some (second_is (λ b. not (is_carried_by sent.batch b)) sent.second) NotCarried
    ∷ then_some (is_none (writer_of clusters sent.batch.key.version)) NoWriter
    ∷ []

-- why a message is not one that cells of these clusters send: the first cause that holds
unfoldable pub first_fault : Message → ClusterList → Option MessageFault
first_fault sent clusters = first_of (causes sent clusters)

-- a message that cells of these clusters may have sent, as far as it shows by itself
pub record IsWellMade (clusters : ClusterList) (sent : Message) : Type 0 where
  pub faultless : AllByRecursion (λ b. fault_of b ≡ None) (both sent)
  pub range : AllByRecursion InRange (both sent)
  pub tasks : AllByRecursion (λ b. b.key.task ≤ 10 ^ 11) (both sent)
  pub lone : sent.batch.carrier ≡ None
  pub goes : is_some sent.second ≡ goes_on sent.batch
  pub own : IfSome sent.second (λ second. is_of sent.batch.domain sent.batch.workflow second ≡ true)
  pub second : IfSome sent.second (IsCarriedBy sent.batch)
  pub written : IsSome (writer_of clusters sent.batch.key.version)
