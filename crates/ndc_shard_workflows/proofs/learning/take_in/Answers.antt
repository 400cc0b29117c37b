use Rattle.std.proofs.Common.{◌≡◌, List, IfOk, sym, ◌∙◌, subst, ap}
use Rattle.std.specs.List.{AllByRecursion}
use Rattle.ndc_model_cells.specs.declared.job.Arrived.{Arrived}
use Rattle.ndc_model_cells.specs.declared.message.Message.{Message}
use Rattle.ndc_event.specs.declared.batch.Batch.{Batch}
use Rattle.ndc_shard_waiting.specs.Learning.{with_messages, ArePutOff}
use Rattle.ndc_model_cells.specs.Messages.{batches_of, HasSmallIds}
use Rattle.ndc_shard_waiting.specs.Waiting.{freed}
use Rattle.ndc_shard_workflows.specs.Workflow.{beside}
use Rattle.ndc_shard_workflows.proofs.FreedLemmas.{still-put-off, freed-with, freed-learned, freed-answer, freed-can, still-small}
use Rattle.ndc_shard_workflows.proofs.OkLemmas.{on-ok, on-both}
use Rattle.ndc_shard_workflows.proofs.PutOffLemmas.{new-to-waiting, put-off-beside, put-off-with, put-off-learned, put-off-answer, put-off-small}
use Rattle.ndc_shard_workflows.proofs.learning.take_in.Goals as goal

pub learn_freed-requires-clause-new : goal.learn_freed-requires-clause-new
learn_freed-requires-clause-new g c = new-to-waiting c.args.runs.now c.args.waiting.now c.requires.apart c.args.message c.requires.new

pub learn_freed-requires-clause-learnable : goal.learn_freed-requires-clause-learnable
learn_freed-requires-clause-learnable g c =
    freed-can c.args.runs.now c.args.waiting.now c.requires.apart c.args.message c.requires.message c.requires.new (sym c.is_reached.ensures ∙ c.if-is_reached.true)
    c.requires.ids c.requires.small c.requires.sound

pub put_off-requires-clause-new : goal.put_off-requires-clause-new
put_off-requires-clause-new g c = new-to-waiting c.args.runs.now c.args.waiting.now c.requires.apart c.args.message c.requires.new

pub returns-then-is_reached-clause-outcome : goal.returns-then-is_reached-clause-outcome
returns-then-is_reached-clause-outcome g c =
    subst (λ (answer : Arrived). IfOk c.learn_freed.result (λ arrival. arrival.outcome ≡ answer))
    (freed-answer c.args.runs.now c.args.waiting.now c.requires.apart c.args.message c.requires.message c.requires.new (sym c.is_reached.ensures ∙ c.if-is_reached.true)) c.learn_freed.ensures.outcome

pub returns-then-is_reached-clause-learned : goal.returns-then-is_reached-clause-learned
returns-then-is_reached-clause-learned g c =
    subst (λ (batches : List Batch). IfOk c.learn_freed.result (λ arrival. arrival.learned ≡ batches))
    (freed-learned c.args.runs.now c.args.waiting.now c.requires.apart c.args.message c.requires.message c.requires.new (sym c.is_reached.ensures ∙ c.if-is_reached.true)) c.learn_freed.ensures.learned

pub returns-then-is_reached-clause-workflow : goal.returns-then-is_reached-clause-workflow
returns-then-is_reached-clause-workflow g c =
    on-both c.learn_freed.result
    (λ e f. ap (λ (known : List Batch). beside known c.learn_freed.new.waiting) e ∙ ap (beside (with_messages (freed c.args.message c.args.waiting.now) c.args.runs.now)) f
    ∙ freed-with c.args.runs.now c.args.waiting.now c.requires.apart c.args.message c.requires.message c.requires.new (sym c.is_reached.ensures ∙ c.if-is_reached.true))
    c.learn_freed.ensures.runs c.learn_freed.ensures.waiting

pub returns-then-is_reached-clause-apart : goal.returns-then-is_reached-clause-apart
returns-then-is_reached-clause-apart g c =
    on-both c.learn_freed.result
    (λ e f. subst (λ (known : List Batch). ArePutOff known c.learn_freed.new.waiting) (sym e)
    (subst (ArePutOff (with_messages (freed c.args.message c.args.waiting.now) c.args.runs.now)) (sym f)
    (still-put-off c.args.runs.now c.args.waiting.now c.requires.apart c.args.message c.requires.message c.requires.new (sym c.is_reached.ensures ∙ c.if-is_reached.true))))
    c.learn_freed.ensures.runs c.learn_freed.ensures.waiting

pub returns-then-is_reached-clause-small : goal.returns-then-is_reached-clause-small
returns-then-is_reached-clause-small g c =
    on-ok c.learn_freed.result
    (λ f. subst (λ (waiting : List Message). AllByRecursion HasSmallIds (batches_of waiting)) (sym f)
    (still-small c.args.runs.now c.args.waiting.now c.requires.apart c.args.message c.requires.message c.requires.new (sym c.is_reached.ensures ∙ c.if-is_reached.true) c.requires.small))
    c.learn_freed.ensures.waiting

pub returns-else-is_reached-clause-outcome : goal.returns-else-is_reached-clause-outcome
returns-else-is_reached-clause-outcome g c =
    subst (λ (answer : Arrived). IfOk c.put_off.result (λ arrival. arrival.outcome ≡ answer))
    (put-off-answer c.args.runs.now c.args.waiting.now c.requires.apart c.args.message c.requires.message c.requires.new (sym c.is_reached.ensures ∙ c.if-is_reached.false)) c.put_off.ensures.outcome

pub returns-else-is_reached-clause-learned : goal.returns-else-is_reached-clause-learned
returns-else-is_reached-clause-learned g c =
    subst (λ (batches : List Batch). IfOk c.put_off.result (λ arrival. arrival.learned ≡ batches))
    (put-off-learned c.args.runs.now c.args.waiting.now c.requires.apart c.args.message c.requires.message c.requires.new (sym c.is_reached.ensures ∙ c.if-is_reached.false)) c.put_off.ensures.learned

pub returns-else-is_reached-clause-workflow : goal.returns-else-is_reached-clause-workflow
returns-else-is_reached-clause-workflow g c =
    on-ok c.put_off.result
    (λ f. ap (beside c.args.runs.now) f
    ∙ put-off-with c.args.runs.now c.args.waiting.now c.requires.apart c.args.message c.requires.message c.requires.new (sym c.is_reached.ensures ∙ c.if-is_reached.false)) c.put_off.ensures.waiting

pub returns-else-is_reached-clause-apart : goal.returns-else-is_reached-clause-apart
returns-else-is_reached-clause-apart g c =
    on-ok c.put_off.result
    (λ f. subst (ArePutOff c.args.runs.now) (sym f)
    (put-off-beside c.args.runs.now c.args.waiting.now c.requires.apart c.args.message c.requires.message c.requires.new (sym c.is_reached.ensures ∙ c.if-is_reached.false))) c.put_off.ensures.waiting

pub returns-else-is_reached-clause-small : goal.returns-else-is_reached-clause-small
returns-else-is_reached-clause-small g c =
    on-ok c.put_off.result
    (λ f. subst (λ (waiting : List Message). AllByRecursion HasSmallIds (batches_of waiting)) (sym f)
    (put-off-small c.args.runs.now c.args.waiting.now c.requires.apart c.args.message c.requires.message c.requires.new (sym c.is_reached.ensures ∙ c.if-is_reached.false) c.requires.ids c.requires.small))
    c.put_off.ensures.waiting
