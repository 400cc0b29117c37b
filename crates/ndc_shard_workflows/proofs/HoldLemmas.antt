-- Reapplication is due in no workflow but those that are listed.
use Rattle.std.proofs.Common.{◌≡◌, Bool, true, false, not, ◌&&◌, ◌||◌, List, Option, None, Result, Ok, Err, OnOk, OnErr, refl, sym, ◌∙◌, subst, ap, true≢false}
use Rattle.std.specs.Str.{bytes_eq}
use Rattle.ndc_model_cells.specs.declared.message.Message.{Message}
use Rattle.ndc_model_cells.specs.Arrival.{arrived_at}
use Rattle.ndc_model_cells.specs.Cells.{Cell, IsCell, empty_cell, learned_of}
use Rattle.ndc_model_cells.specs.Places.{is_of}
use Rattle.ndc_model_cells.specs.Writing.{Entry, state_under, with_batches}
use Rattle.ndc_model_cells.proofs.CellLemmas.{others_learned, others_learned_by}
use Rattle.ndc_event.specs.declared.batch.Batch.{Batch}
use Rattle.ndc_event.specs.declared.name.Name.{Name}
use Rattle.ndc_shard_runs.specs.Kept.{is_due, is_empty, is_open, StaysSettled}
use Rattle.ndc_model_sets.specs.Branches.{workflow_tip}
use Rattle.ndc_model_sets.specs.Learned.{learned}
use Rattle.ndc_model_sets.specs.Sets.{arrived, batch_at}
use Rattle.ndc_model_sets.specs.Sound.{IsSound}
use Rattle.ndc_shard_waiting.specs.Learning.{with_message}
use Rattle.ndc_model_cells.specs.Messages.{IsNewTo, carrying}
use Rattle.ndc_model_cells.specs.Allowed.{MayArrive}
use Rattle.ndc_model_cells.specs.Workflow.{WorkflowValue, workflow_of}
use Rattle.ndc_shard_workflows.specs.Workflow.{IsWorkflow, beside}
use Rattle.ndc_shard_workflows.proofs.CellLemmas.{written_same, own-names}
use Rattle.ndc_shard_workflows.proofs.PutOffLemmas.{new-to-known}
use Rattle.ndc_shard_workflows.proofs.OneWriteLemmas.{CanBeWritten, written-is, written-learned}
use Rattle.ndc_shard_workflows.specs.Due.{HoldDue, is_listed, is_named}
use Rattle.ndc_shard_workflows.specs.Listed.{IsListedBefore, IsListedWhereDue}
use Rattle.ndc_shard_workflows.specs.Writing.{MayBeWrittenTogether}
use Rattle.ndc_shard_workflows.proofs.BehindLemmas.{second-other}
use Rattle.ndc_shard_workflows.proofs.NameLemmas.{name-itself}
use Rattle.ndc_shard_workflows.proofs.PutLemmas.{can-be}
use Rattle.ndc_shard_workflows.proofs.SameLemmas.{names-of}

abbrev Names : Type 0
Names = List (Name × Name)

-- in an empty cell nothing is due
pub hold-empty : (list : Names) (cell : Cell) → cell ≡ empty_cell → HoldDue list cell
hold-empty list cell e = subst (HoldDue list) (sym e) (λ d w f. refl)

-- more may be listed
pub hold-more : (before after : Names) (cell : Cell) → ((d w : Name) → is_listed d w after ≡ false → is_listed d w before ≡ false) → HoldDue before cell → HoldDue after cell
hold-more before after cell kept hold d w e = hold d w (kept d w e)

-- where a workflow was put to the others, each that is not there was not there before, and that one is
module _ (names : Name × Name) (before after : Names) (put : (d w : Name) → is_listed d w after ≡ (is_named d w names || is_listed d w before)) where
  pub put-kept : (d w : Name) → is_listed d w after ≡ false → is_listed d w before ≡ false
  put-kept d w e = by (is_named d w names) (sym (put d w) ∙ e)
    where
      by : (t : Bool) → (t || is_listed d w before) ≡ false → is_listed d w before ≡ false
      by true f = absurd (true≢false f)
      by false f = f

  pub put-listed : {P : Type 0} → is_listed names.0 names.1 after ≡ false → P
  put-listed e = absurd (true≢false (sym (put names.0 names.1 ∙ ap (λ t. t || is_listed names.0 names.1 before) itself) ∙ e))
    where
      itself : is_named names.0 names.1 names ≡ true
      itself = ap (λ t. t && (bytes_eq names.1 names.1)) (name-itself names.0) ∙ name-itself names.1

-- a message arrives, and its workflow is listed where reapplication may be due in it
pub hold-arrived : (sent : Message) (cell : Cell) (may_be_due : Bool) (before after : Names) → MayArrive sent cell → HoldDue before cell
    → (may_be_due ≡ false → is_due (learned_of sent.batch.domain sent.batch.workflow (arrived_at sent cell)) ≡ false)
    → IsListedWhereDue sent.batch.domain sent.batch.workflow may_be_due before after → HoldDue after (arrived_at sent cell)
hold-arrived sent cell may_be_due before after may hold due listed d w e = by (is_of d w sent.batch) refl
  where
    by : (t : Bool) → is_of d w sent.batch ≡ t → is_due (learned_of d w (arrived_at sent cell)) ≡ false
    by true f =
        let names = names-of d w sent.batch f in
        subst (λ (k : Name). is_due (learned_of k w (arrived_at sent cell)) ≡ false) names.0
        (subst (λ (k : Name). is_due (learned_of sent.batch.domain k (arrived_at sent cell)) ≡ false) names.1
        (due (listed.own (subst (λ (k : Name). is_listed k sent.batch.workflow after ≡ false) (sym names.0) (subst (λ (k : Name). is_listed d k after ≡ false) (sym names.1) e)))))
    by false f = ap is_due (others_learned_by d w sent cell f (second-other d w sent.batch sent.second f may.own)) ∙ hold d w (listed.kept d w e)

-- a batch is written that leaves no stray, or its workflow is listed
module _ (entry : Entry) (cell : Cell) (is : IsCell cell) (workflow : IsWorkflow (workflow_of entry.batch.domain entry.batch.workflow cell))
    (may : MayBeWrittenTogether (carrying entry.batch entry.second) (workflow_of entry.batch.domain entry.batch.workflow cell)) where
  abbrev own : WorkflowValue
  own = workflow_of entry.batch.domain entry.batch.workflow cell

  abbrev sent : Message
  sent = carrying entry.batch entry.second

  can : CanBeWritten sent (beside (learned own.arrived) own.waiting)
  can = subst (CanBeWritten sent) workflow.parts (can-be sent own may)

  -- what is learned of the workflow then
  learned-then : learned_of entry.batch.domain entry.batch.workflow (with_batches entry cell) ≡ with_message sent (learned own.arrived)
  learned-then =
      ap (λ (v : WorkflowValue). learned v.arrived) (written_same entry.batch.domain entry.batch.workflow entry cell is may.together.back (own-names entry.batch) may.own)
      ∙ ap (λ (v : WorkflowValue). learned (with_message sent v.arrived)) workflow.parts
      ∙ ap (λ (v : WorkflowValue). learned v.arrived) (sym (written-is (learned own.arrived) own.waiting workflow.apart sent can))
      ∙ written-learned (learned own.arrived) own.waiting workflow.apart sent can
      ∙ ap (λ (v : WorkflowValue). with_message sent (learned v.arrived)) (sym workflow.parts)

  fresh : batch_at entry.batch.key (learned own.arrived) ≡ None
  fresh = (new-to-known (learned own.arrived) own.waiting workflow.apart sent (subst (λ (v : WorkflowValue). IsNewTo v.arrived sent) workflow.parts may.fresh)).0

  settled-then : entry.second ≡ None → StaysSettled entry.batch (learned own.arrived) → is_due (learned_of entry.batch.domain entry.batch.workflow (with_batches entry cell)) ≡ false
  settled-then none stays =
      ap is_due (learned-then ∙ alone)
      ∙ ap (λ l. not (is_empty l) && is_open (state_under (workflow_tip (arrived entry.batch (learned own.arrived))) (arrived entry.batch (learned own.arrived)))) (stays (subst IsSound alone may.sound) fresh)
    where
      alone : with_message sent (learned own.arrived) ≡ arrived entry.batch (learned own.arrived)
      alone = ap (λ (o : Option Batch). with_message (carrying entry.batch o) (learned own.arrived)) none

  pub hold-written : (before after : Names) → HoldDue before cell → IsListedBefore entry.batch entry.second (learned own.arrived) before after → HoldDue after (with_batches entry cell)
  hold-written before after hold listed d w e = by (is_of d w entry.batch) refl
    where
      by : (t : Bool) → is_of d w entry.batch ≡ t → is_due (learned_of d w (with_batches entry cell)) ≡ false
      by true f =
          let names = names-of d w entry.batch f in
          let out = subst (λ (k : Name). is_listed k entry.batch.workflow after ≡ false) (sym names.0) (subst (λ (k : Name). is_listed d k after ≡ false) (sym names.1) e) in
          subst (λ (k : Name). is_due (learned_of k w (with_batches entry cell)) ≡ false) names.0
          (subst (λ (k : Name). is_due (learned_of entry.batch.domain k (with_batches entry cell)) ≡ false) names.1 (settled-then (listed.alone out) (listed.settled out)))
      by false f = ap is_due (others_learned d w entry cell f (second-other d w entry.batch entry.second f may.own)) ∙ hold d w (listed.kept d w e)

-- the same, whether it is written or not
pub hold-either : (entry : Entry) (cell : Cell) → IsCell cell → IsWorkflow (workflow_of entry.batch.domain entry.batch.workflow cell) → {A E : Type 0} (r : Result A E) (before after : Names) (new : Cell)
    → OnOk r (MayBeWrittenTogether (carrying entry.batch entry.second) (workflow_of entry.batch.domain entry.batch.workflow cell)) → OnOk r (new ≡ with_batches entry cell) → OnErr r (new ≡ cell) → HoldDue before cell
    → OnOk r (IsListedBefore entry.batch entry.second (learned_of entry.batch.domain entry.batch.workflow cell) before after) → ((d w : Name) → is_listed d w after ≡ false → is_listed d w before ≡ false) → HoldDue after new
hold-either entry cell is workflow (Ok x) before after new may e f hold listed kept = subst (HoldDue after) (sym e) (hold-written entry cell is workflow may before after hold listed)
hold-either entry cell is workflow (Err x) before after new may e f hold listed kept = subst (HoldDue after) (sym f) (hold-more before after cell kept hold)
