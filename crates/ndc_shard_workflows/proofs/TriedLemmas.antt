-- What would be written in a cell, where it fits, may be written.
use Rattle.std.proofs.Common.{◌≡◌, true, false, List, Option, Some, None, IfNone, Ok, Err, sym, ◌∙◌, subst, ap}
use Rattle.std.specs.List.{AllByRecursion}
use Rattle.ndc_event.specs.declared.batch.Batch.{Batch}
use Rattle.ndc_model_cells.specs.Cells.{both}
use Rattle.ndc_model_cells.specs.Messages.{waits_for, IsNewTo}
use Rattle.ndc_model_cells.specs.Workflow.{WorkflowValue}
use Rattle.ndc_model_cells.specs.declared.message.Message.{Message}
use Rattle.ndc_model_sets.specs.Learned.{has_key, learned}
use Rattle.ndc_model_sets.specs.Sets.{earlier}
use Rattle.ndc_model_sets.specs.Sound.{IsSound}
use Rattle.ndc_shard_waiting.specs.Learning.{with_message, with_messages, ArePutOff}
use Rattle.ndc_shard_waiting.proofs.LearnLemmas.{learned_is}
use Rattle.ndc_shard_runs.specs.declared.misfit.Misfit.{Misfit}
use Rattle.ndc_shard_workflows.specs.Refused.{fit_next}
use Rattle.ndc_shard_workflows.specs.Workflow.{beside, with_written}
use Rattle.ndc_shard_workflows.specs.Writing.{IsMadeTogether, MayBeWrittenTogether}
use Rattle.ndc_shard_workflows.proofs.OneWriteLemmas.{CanBeWritten, put-off-still, written-is}

module _ (known : List Batch) (waiting : List Message) (are : ArePutOff known waiting) (new : Message) (made : IsMadeTogether new) (fresh : IsNewTo (with_messages waiting known) new)
    (reached : has_key (earlier new.batch) known ≡ true) (awaited : AllByRecursion (λ sent. waits_for (both new) sent ≡ false) waiting) (after : List Batch) (is : after ≡ with_message new known) (sound : IsSound after) where
  reached-then : has_key (earlier new.batch) (learned (with_messages waiting known)) ≡ true
  reached-then = ap (has_key (earlier new.batch)) (learned_is known waiting are) ∙ reached

  sound-then : IsSound (with_message new (learned (with_messages waiting known)))
  sound-then = subst (λ (l : List Batch). IsSound (with_message new l)) (sym (learned_is known waiting are)) (subst IsSound is sound)

  can : CanBeWritten new (beside known waiting)
  can = record { together = made.together; fresh = fresh; reached = reached-then; awaited = awaited; sound = sound-then; small = made.small }

  pub tried-may : MayBeWrittenTogether new (beside known waiting)
  tried-may = record { together = made.together; own = made.own; fresh = fresh; reached = reached-then; awaited = awaited; sound = sound-then; small = made.small }

  pub tried-written : beside after waiting ≡ with_written new (beside known waiting)
  tried-written = ap (λ (l : List Batch). beside l waiting) is ∙ written-is known waiting are new can

  pub tried-put-off : ArePutOff after waiting
  tried-put-off = put-off-still known waiting are new can {A = Unit {0}} {E = Unit {0}} (Ok tt) after is tt

-- a workflow that is seen as what is learned and what waits beside it
pub learned-view : (known : List Batch) (waiting : List Message) → ArePutOff known waiting → (w : WorkflowValue) → beside known waiting ≡ w → known ≡ learned w.arrived
learned-view known waiting are w e = sym (learned_is known waiting are) ∙ ap (λ (v : WorkflowValue). learned v.arrived) e

pub fit-next : (known : List Batch) (waiting : List Message) → ArePutOff known waiting → (new : Message) (w : WorkflowValue) → beside known waiting ≡ w → (why : Misfit) → fit_next known new ≡ Err why
    → fit_next (learned w.arrived) new ≡ Err why
fit-next known waiting are new w e why f = ap (λ (l : List Batch). fit_next l new) (sym (learned-view known waiting are w e)) ∙ f

-- from what holds where there is none
pub if-none : {X P : Type 0} (o : Option X) → o ≡ None → IfNone o P → P
if-none None e p = p
if-none (Some x) e p = absurd (cc)
