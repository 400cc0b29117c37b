use Rattle.std.proofs.Common.{List, sym, ◌∙◌, subst, ap}
use Rattle.std.specs.Option.{option_copied}
use Rattle.ndc_event.specs.declared.batch.Batch.{Batch}
use Rattle.ndc_model_sets.specs.Learned.{learned}
use Rattle.ndc_model_sets.specs.Reading.{current_key}
use Rattle.ndc_shard_waiting.specs.Learning.{with_message, with_messages}
use Rattle.ndc_shard_waiting.proofs.LearnLemmas.{learned_is}
use Rattle.ndc_model_cells.specs.Messages.{carrying}
use Rattle.ndc_model_cells.specs.Workflow.{WorkflowValue}
use Rattle.ndc_shard_workflows.specs.Workflow.{beside, with_written}
use Rattle.ndc_shard_workflows.proofs.OkLemmas.{on-ok}
use Rattle.ndc_shard_workflows.proofs.OneWriteLemmas.{CanBeWritten, written-can, written-is, written-learned, put-off-still}
use Rattle.ndc_shard_workflows.proofs.workflow.Workflow.write.Goals as goal

pub learn-requires : goal.learn-requires
learn-requires g c =
    let can = subst (CanBeWritten (carrying c.args.batch.now (option_copied c.args.second))) (sym c.self.view_is)
    (record { together = c.requires.together; fresh = c.requires.new; reached = c.requires.reached; awaited = c.requires.awaited; sound = c.requires.sound; small = c.requires.ids }) in
    written-can c.self.inside.runs c.self.inside.waiting c.self.invariant.apart (carrying c.args.batch.now (option_copied c.args.second)) can

pub invariant_of-self : goal.invariant_of-self
invariant_of-self g c =
    let can = subst (CanBeWritten (carrying c.args.batch.now (option_copied c.args.second))) (sym c.self.view_is)
    (record { together = c.requires.together; fresh = c.requires.new; reached = c.requires.reached; awaited = c.requires.awaited; sound = c.requires.sound; small = c.requires.ids }) in
    record { apart = put-off-still c.self.inside.runs c.self.inside.waiting c.self.invariant.apart (carrying c.args.batch.now (option_copied c.args.second)) can c.learn.result c.learn.new.runs c.learn.ensures.ok c.learn.ensures.err; small = c.self.invariant.small }

pub returns-clause-ok : goal.returns-clause-ok
returns-clause-ok g c =
    let can = subst (CanBeWritten (carrying c.args.batch.now (option_copied c.args.second))) (sym c.self.view_is)
    (record { together = c.requires.together; fresh = c.requires.new; reached = c.requires.reached; awaited = c.requires.awaited; sound = c.requires.sound; small = c.requires.ids }) in
    on-ok c.learn.result
    (λ e. ap (λ (l : List Batch). beside l c.self.inside.waiting) e ∙ written-is c.self.inside.runs c.self.inside.waiting c.self.invariant.apart (carrying c.args.batch.now (option_copied c.args.second)) can
    ∙ ap (with_written (carrying c.args.batch.now (option_copied c.args.second))) c.self.view_is) c.learn.ensures.ok

pub returns-clause-learned : goal.returns-clause-learned
returns-clause-learned g c =
    let can = subst (CanBeWritten (carrying c.args.batch.now (option_copied c.args.second))) (sym c.self.view_is)
    (record { together = c.requires.together; fresh = c.requires.new; reached = c.requires.reached; awaited = c.requires.awaited; sound = c.requires.sound; small = c.requires.ids }) in
    on-ok c.learn.result
    (λ e. ap (λ (l : List Batch). learned (with_messages c.self.inside.waiting l)) e ∙ written-learned c.self.inside.runs c.self.inside.waiting c.self.invariant.apart (carrying c.args.batch.now (option_copied c.args.second)) can
    ∙ ap (λ (w : WorkflowValue). with_message (carrying c.args.batch.now (option_copied c.args.second)) (learned w.arrived)) c.self.view_is) c.learn.ensures.ok

pub returns-clause-steps : goal.returns-clause-steps
returns-clause-steps g c =
    on-ok c.learn.result
    (λ f parent. f (parent ∙ ap (current_key c.args.batch.now.run)
    (sym (ap (λ (w : WorkflowValue). learned w.arrived) c.self.view_is) ∙ learned_is c.self.inside.runs c.self.inside.waiting c.self.invariant.apart))) c.learn.ensures.steps
