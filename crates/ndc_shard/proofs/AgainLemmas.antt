-- What reapplication writes may be written, and where it is not due nothing is written.
use Rattle.std.proofs.Common.{◌≡◌, ◌≤◌, ◌^◌, ℕ, Bool, true, false, List, [], ◌∷◌, Option, Some, None, Result, Ok, Err, IfOk, IfSome, if◌then◌else◌, refl, sym, ◌∙◌, subst, ap}
use Rattle.std.specs.Prelude.{is_some, option_to_list}
use Rattle.ndc_model_cells.specs.declared.message.Message.{Message}
use Rattle.ndc_model_cells.specs.Cells.{Cell, learned_of}
use Rattle.ndc_model_cells.specs.Writing.{Entry, Desk, alone, batch_below, greatest_version, may_write, may_write_by, next_key, reapplication_below, reapplication_by, reapplication_of}
use Rattle.ndc_command.specs.declared.refusal.Refusal.{Refusal}
use Rattle.ndc_domain.specs.Records.{record_of}
use Rattle.ndc_shard_entries.proofs.IdLemmas.{reapplied-ids}
use Rattle.ndc_shard_entries.proofs.LawProofs.{reapplication-behind, tip-has, writes_ahead}
use Rattle.ndc_event.specs.declared.batch.Batch.{Batch}
use Rattle.ndc_event.specs.declared.name.Name.{Name}
use Rattle.ndc_reapply.specs.Reapplied.{reapplied}
use Rattle.ndc_reapply.specs.declared.stray.Stray.{Stray}
use Rattle.ndc_model_sets.specs.Branches.{workflow_tip}
use Rattle.ndc_model_sets.specs.Current.{state_to, strays}
use Rattle.ndc_model_sets.specs.Sound.{IsSound}
use Rattle.ndc_state.specs.Value.{StateValue}
use Rattle.ndc_model_cells.specs.Allowed.{HasRoom, MayWriteAll}
use Rattle.ndc_model_cells.specs.Messages.{carrying}
use Rattle.ndc_model_cells.specs.Workflow.{workflow_of}
use Rattle.ndc_shard_workflows.specs.Due.{AreDue}
use Rattle.ndc_shard_workflows.specs.Reapplied.{AreReapplied}
use Rattle.ndc_shard_workflows.specs.Writing.{MayBeWritten}
use Rattle.ndc_shard.specs.Shards.{AreWritable, IsFit, having_written}
use Rattle.ndc_shard.proofs.MayLemmas.{AreReached, all-may}

-- what is written goes below the tip
again-reached : (batches : List Batch) → IsSound batches → (domain workflow : Name) (version : ℕ) (tip : Option Batch) → workflow_tip batches ≡ tip → (list : List Stray)
    → AreReached batches (reapplication_below domain workflow version tip batches list)
again-reached batches sound domain workflow version None e list = tt
again-reached batches sound domain workflow version (Some tip) e [] = tt
again-reached batches sound domain workflow version (Some tip) e (stray ∷ list) = by s.running
  where
    s : StateValue
    s = state_to tip.run tip.key batches

    by : (running : Bool) → AreReached batches (if running then alone (batch_below domain workflow (next_key version batches) tip s (reapplied s version (stray ∷ list))) ∷ [] else [])
    by true = (ap is_some (tip-has batches sound tip e), tt)
    by false = tt

pub again-writable : (home : Desk) (domain workflow : Name) (cell : Cell) → IsFit domain workflow cell → HasRoom (learned_of domain workflow cell)
    → MayWriteAll domain workflow (reapplication_of home domain workflow cell) cell → AreWritable (reapplication_of home domain workflow cell) cell
unfolding reapplication_of may_write
again-writable home domain workflow cell fit room = by (may_write_by home (record_of home.table domain) known) (writes_ahead home (record_of home.table domain) known)
  where
    known : List Batch
    known = learned_of domain workflow cell

    by : (r : Result ℕ Refusal) → IfOk r (λ version. greatest_version known ≤ version) → MayWriteAll domain workflow (reapplication_by domain workflow r known) cell
        → AreWritable (reapplication_by domain workflow r known) cell
    by (Err why) ahead may = tt
    by (Ok version) ahead may =
        all-may domain workflow (reapplication_below domain workflow version (workflow_tip known) known (strays known)) cell fit
        (reapplication-behind known version domain workflow fit.sound ahead (workflow_tip known) refl (strays known))
        (again-reached known fit.sound domain workflow version (workflow_tip known) refl (strays known))
        (reapplied-ids known version domain workflow (10 ^ 12) (workflow_tip known) (strays known) room.ids) may

-- the entry, where there is one
pub entry-writable : (home : Desk) (domain workflow : Name) (cell : Cell) (entry : Entry) → entry ∷ [] ≡ reapplication_of home domain workflow cell → IsFit domain workflow cell
    → HasRoom (learned_of domain workflow cell) → MayWriteAll domain workflow (reapplication_of home domain workflow cell) cell → AreWritable (entry ∷ []) cell
entry-writable home domain workflow cell entry e fit room may = subst (λ (l : List Entry). AreWritable l cell) (sym e) (again-writable home domain workflow cell fit room may)

pub entry-may : (home : Desk) (domain workflow : Name) (old new : Cell) (o : Option Entry) (entry : Entry) → new ≡ old → o ≡ Some entry → option_to_list o ≡ reapplication_of home domain workflow old
    → IfSome o (λ _. IsFit domain workflow new) → HasRoom (learned_of domain workflow old) → MayWriteAll domain workflow (reapplication_of home domain workflow old) old
    → MayBeWritten (carrying entry.batch entry.second) (workflow_of entry.batch.domain entry.batch.workflow new)
entry-may home domain workflow old new o entry same some e fit room may =
    subst (λ (c : Cell). MayBeWritten (carrying entry.batch entry.second) (workflow_of entry.batch.domain entry.batch.workflow c)) (sym same)
    (entry-writable home domain workflow old entry (sym (ap option_to_list some) ∙ e) (subst (IsFit domain workflow) same (subst (λ (x : Option Entry). IfSome x (λ _. IsFit domain workflow new)) some fit)) room may).0

-- what is due is due whatever the cell has written
pub due-same : (messages : List Message) (list : List (Name × Name)) (cell : Cell) → AreDue list cell → AreDue list (having_written messages cell)
due-same messages list cell are = record { ordered = are.ordered; each = are.each }

-- what reapplication writes is told by what has arrived
written-same : (home : Desk) (messages : List Message) (domain workflow : Name) (cell : Cell)
    → reapplication_of home domain workflow (having_written messages cell) ≡ reapplication_of home domain workflow cell
unfolding reapplication_of may_write
written-same home messages domain workflow cell = refl

-- so those to which it writes are the same, whatever the cell has written
pub reapplied-same : (home : Desk) (messages : List Message) (list : List (Name × Name)) (cell : Cell) → AreReapplied home list cell → AreReapplied home list (having_written messages cell)
reapplied-same home messages list cell are = record {
  ordered = are.ordered;
  each = λ d w none. written-same home messages d w cell ∙ are.each d w none;
}
