use Rattle.std.proofs.Common.{◌∙◌, ap}
use Rattle.ndc_model_cells.specs.Cells.{Cell, learned_of}
use Rattle.ndc_shard.proofs.AdmittedLemmas.{forgotten-messages, forgotten-sent}
use Rattle.ndc_shard_workflows.proofs.ForgetLemmas.{forgotten-learned}
use Rattle.ndc_shard.proofs.shard.Shard.forget.Goals as goal

pub invariant_of-self-2 : goal.invariant_of-self-2
invariant_of-self-2 c =
    forgotten-sent c.args.domain.now c.args.workflow.now c.args.key c.self.inside.workflows c.forget.new.self c.in_ok-dropped.ensures.ok c.is_in_order.ensures.cell c.is_in_order-2.ensures.cell
    c.is_in_order.ensures.workflows c.is_in_order-2.ensures.workflows (c.is_in_order.ensures.sound c.args.domain.now c.args.workflow.now) c.self.inside.places.items c.self.invariant

pub returns-clause-learned : goal.returns-clause-learned
returns-clause-learned c = λ d w.
    forgotten-learned c.args.domain.now c.args.workflow.now c.args.key c.self.inside.workflows c.forget.new.self c.in_ok-dropped.ensures.ok
    (c.is_in_order.ensures.workflows c.args.domain.now c.args.workflow.now) d w
    ∙ ap (λ (cell : Cell). learned_of d w cell) c.self.view_is

pub returns-clause-written : goal.returns-clause-written
returns-clause-written c =
    forgotten-messages c.args.domain.now c.args.workflow.now c.args.key c.self.inside.workflows c.forget.new.self c.in_ok-dropped.ensures.ok c.is_in_order.ensures.cell c.is_in_order-2.ensures.cell
    c.is_in_order.ensures.workflows c.is_in_order-2.ensures.workflows (c.is_in_order.ensures.sound c.args.domain.now c.args.workflow.now) c.self.inside.places.items c.self.invariant
    ∙ ap (λ (cell : Cell). cell.written) c.self.view_is
