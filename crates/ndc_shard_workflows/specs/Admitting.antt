-- Messages that nobody vouches for: what becomes of one, and of those that waited for it.
use Rattle.std.specs.Prelude.{◌≡◌, ◌<◌, ◌^◌, true, false, Bool, ◌&&◌, not, is_some, List, [], ◌∷◌, ◌++◌, ◌⊎◌, Option, None, Result, Ok, Err, Some, IsOk, if◌then◌else◌}
use Rattle.ndc_admission.specs.History.{history_ends, tells_path}
use Rattle.ndc_event.specs.Batch.{fault_of}
use Rattle.ndc_model_cells.specs.Cells.{missing_of}
use Rattle.ndc_model_cells.specs.Messages.{batches_of, IsNewTo}
use Rattle.ndc_model_cells.specs.Workflow.{WorkflowValue}
use Rattle.ndc_model_cells.specs.declared.message.Message.{Message}
use Rattle.ndc_event.specs.declared.batch.Batch.{Batch}
use Rattle.ndc_event.specs.declared.key.BatchKey.{BatchKey}
use Rattle.ndc_model_sets.specs.Learned.{has_key, learned}
use Rattle.ndc_model_sets.specs.Sets.{earlier}
use Rattle.ndc_run.specs.Learning.{or_error}
use Rattle.ndc_run.specs.declared.answer.Learned.{Learned}
use Rattle.ndc_shard_runs.specs.Fitting.{fit_of}
use Rattle.ndc_shard_runs.specs.declared.misfit.Misfit.{Misfit}
use Rattle.ndc_shard_runs.specs.declared.misfit.Misfit.TheVariants.{IllFormed}
use Rattle.ndc_shard_waiting.specs.Learning.{with_message}
use Rattle.ndc_shard_waiting.specs.Waiting.{freed, put_off, still_put_off}
use Rattle.ndc_shard_workflows.specs.declared.admission.Admission.{Admission}
use Rattle.ndc_shard_workflows.specs.declared.admission.Admission.TheVariants as admission
use Rattle.ndc_shard_workflows.specs.declared.admission.AdmitError.{AdmitError}
use Rattle.ndc_shard_workflows.specs.declared.admission.AdmitError.TheVariants as error
use Rattle.ndc_shard_workflows.specs.declared.admission.NotAdmitted.{NotAdmitted}
use Rattle.ndc_shard_workflows.specs.declared.admission.NotAdmitted.TheVariants as refused
use Rattle.ndc_shard_workflows.specs.declared.admission.SetAside.{SetAside}
use Rattle.ndc_shard_workflows.specs.Terms.{HasNoRival, HasRival, IsForeign, IsKnown, TermsValue, has_unknown_own, is_unknown_own}
use Rattle.ndc_shard_workflows.specs.Workflow.{beside, empty_workflow, workflow_with}

-- whether a batch has no fault of its own
abbrev pub is_faultless : Batch → Bool
is_faultless b = not (is_some (fault_of b))

-- the same of the batch that is carried, where there is one
abbrev pub is_second_faultless : Option Batch → Bool
is_second_faultless None = true
is_second_faultless (Some second) = is_faultless second

-- whether a message is whole: no other carries its batch, and neither this one nor the one that it carries has a fault
abbrev pub is_whole : Message → Bool
is_whole sent = not (is_some sent.batch.carrier) && (is_faultless sent.batch && is_second_faultless sent.second)

-- whether what would be written fits what is learned, or why not
abbrev pub fit_in : List Batch → Message → Result Learned Misfit
fit_in known sent = if is_whole sent then fit_of known sent.batch sent.second else Err IllFormed

-- whether a message fits what is learned, or why not: it is whole, its version history is that of its path, and its batches fit
abbrev pub fit_message : List Batch → Message → Result Learned NotAdmitted
fit_message known sent =
    if is_whole sent then (if tells_path known sent then or_error refused.Misfit (fit_of known sent.batch sent.second) else Err refused.History)
    else Err (refused.Misfit IllFormed)

-- while messages are gone over that waited for a batch: what is learned by then, what waits on, the messages that became learned, and those
-- that were set aside, each with why it does not fit
pub record Settling : Type 0 where
  pub known : List Batch
  pub waiting : List Message
  pub learned : List Message
  pub aside : List SetAside

-- a message is learned where it fits, and set aside where not
abbrev pub tried : Result Learned NotAdmitted → Message → Settling → Settling
tried (Ok learned) sent s = record s { known = with_message sent s.known; learned = s.learned ++ sent ∷ [] }
tried (Err why) sent s = record s { aside = s.aside ++ record { message = sent; cause = why } ∷ [] }

-- a message that is learned already counts as learned; one whose earlier key is learned is tried; any other waits on
abbrev pub settled_one : Message → Settling → Settling
settled_one sent s =
    if has_key (Some sent.batch.key) s.known then record s { learned = s.learned ++ sent ∷ [] }
    else if has_key (earlier sent.batch) s.known then tried (fit_message s.known sent) sent s
    else record s { waiting = put_off sent s.waiting }

-- messages are gone over, in key order
abbrev pub settled : List Message → Settling → Settling
settled [] s = s
settled (sent ∷ messages) s = settled messages (settled_one sent s)

-- what becomes of the messages that waited for one that is learned
abbrev pub settled_with : Message → List Batch → List Message → Settling
settled_with sent known waiting =
    settled (freed sent waiting) (record { known = with_message sent known; waiting = still_put_off sent waiting; learned = []; aside = [] })

-- a message that has not arrived is refused: it is not whole, or its earlier key is learned and it does not fit
pub record IsRefused (sent : Message) (why : NotAdmitted) (before : WorkflowValue) : Type 0 where
  pub reached : is_whole sent ≡ true → has_key (earlier sent.batch) (learned before.arrived) ≡ true
  pub why_is : fit_message (learned before.arrived) sent ≡ Err why

-- a message can't be learned yet: it is whole, and its earlier key is not learned
pub record IsEarly (sent : Message) (before : WorkflowValue) : Type 0 where
  pub whole : is_whole sent ≡ true
  pub off : has_key (earlier sent.batch) (learned before.arrived) ≡ false

-- a message is put off
pub record IsPutOff (sent : Message) (missing : BatchKey) (before after : WorkflowValue) : Type 0 where
  pub early : IsEarly sent before
  pub waits : after ≡ workflow_with sent before
  pub missing_is : missing_of sent.batch after.arrived ≡ Some missing

-- a message is learned, and of those that waited for it, in key order, each that fits; those that do not are set aside
pub record IsLearned (sent : Message) (batches : List Batch) (aside : List SetAside) (before after : WorkflowValue) : Type 0 where
  pub reached : has_key (earlier sent.batch) (learned before.arrived) ≡ true
  pub fits : IsOk (fit_message (learned before.arrived) sent)
  pub learned_are : batches ≡ batches_of (settled_with sent (learned before.arrived) before.waiting).learned
  pub aside_are : aside ≡ (settled_with sent (learned before.arrived) before.waiting).aside
  pub workflow_is : after ≡ beside (settled_with sent (learned before.arrived) before.waiting).known (settled_with sent (learned before.arrived) before.waiting).waiting

-- what comes of a message that has not arrived, and may wait or not
abbrev pub IsTried : Bool → Message → Admission → WorkflowValue → WorkflowValue → Type 0
IsTried may_wait sent (admission.Refused refused.History) before after = IsRefused sent refused.History before × (after ≡ before)
IsTried may_wait sent (admission.Refused (refused.Misfit why)) before after = IsRefused sent (refused.Misfit why) before × (after ≡ before)
IsTried may_wait sent (admission.Refused refused.Full) before after = IsEarly sent before × (may_wait ≡ false) × (after ≡ before)
IsTried may_wait sent (admission.Refused _) before after = ⊥
IsTried may_wait sent admission.Known before after = ⊥
IsTried may_wait sent (admission.PutOff missing) before after = IsPutOff sent missing before after × (may_wait ≡ true)
IsTried may_wait sent (admission.Learned batches aside) before after = IsLearned sent batches aside.items before after

-- a message has not arrived, and may be looked at on these terms
pub record IsNew (terms : TermsValue) (sent : Message) (before : WorkflowValue) : Type 0 where
  pub foreign : IsForeign terms (learned before.arrived) sent
  pub new : IsNewTo before.arrived sent
  pub history : history_ends sent ≡ true

-- why a message is not admitted
abbrev pub IsRefusedFor : TermsValue → Message → NotAdmitted → WorkflowValue → Type 0
IsRefusedFor terms sent (refused.Fault fault) before = ⊥
IsRefusedFor terms sent refused.OwnVersion before = is_unknown_own terms (learned before.arrived) sent.batch ≡ true
IsRefusedFor terms sent refused.OwnOrigin before =
    (is_unknown_own terms (learned before.arrived) sent.batch ≡ false) × (has_unknown_own terms (learned before.arrived) sent ≡ true)
IsRefusedFor terms sent (refused.Rival key waits) before =
    IsForeign terms (learned before.arrived) sent × HasRival before.arrived sent key × (waits ≡ not (has_key (Some key) (learned before.arrived)))
IsRefusedFor terms sent refused.History before =
    (IsForeign terms (learned before.arrived) sent × HasNoRival before.arrived sent × (history_ends sent ≡ false))
    ⊎ (IsNew terms sent before × IsRefused sent refused.History before)
IsRefusedFor terms sent (refused.Misfit why) before = IsNew terms sent before × IsRefused sent (refused.Misfit why) before
IsRefusedFor terms sent refused.Full before = IsNew terms sent before × IsEarly sent before × (terms.may_wait ≡ false)

-- what comes of a message that is handed to a workflow on these terms
abbrev pub IsAdmitted : TermsValue → Message → Admission → WorkflowValue → WorkflowValue → Type 0
IsAdmitted terms sent (admission.Refused cause) before after = IsRefusedFor terms sent cause before × (after ≡ before)
IsAdmitted terms sent admission.Known before after =
    IsForeign terms (learned before.arrived) sent × IsKnown before.arrived sent × (history_ends sent ≡ true) × (after ≡ before)
IsAdmitted terms sent (admission.PutOff missing) before after = IsNew terms sent before × IsPutOff sent missing before after × (terms.may_wait ≡ true)
IsAdmitted terms sent (admission.Learned batches aside) before after = IsNew terms sent before × IsLearned sent batches aside.items before after

-- what want of memory leaves
abbrev pub IsLeftBy : AdmitError → WorkflowValue → WorkflowValue → Type 0
IsLeftBy error.Memory before after = after ≡ before
IsLeftBy error.Spent before after = after ≡ empty_workflow

-- no other carries the batch of a message
abbrev pub IsLone : Message → Type 0
IsLone sent = sent.batch.carrier ≡ None

-- the task of a batch is a number of 64 bits
abbrev pub HasSmallTask : Batch → Type 0
HasSmallTask b = b.key.task < 2 ^ 64
