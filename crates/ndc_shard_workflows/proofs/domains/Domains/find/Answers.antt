use Rattle.std.proofs.Common.{None, Some, sym, ◌∙◌, ap, subst}
use Rattle.ndc_model_cells.specs.Cells.{Cell, IsCell, learned_of}
use Rattle.ndc_model_sets.specs.Sound.{IsSound}
use Rattle.ndc_model_cells.specs.Workflow.{workflow_of}
use Rattle.ndc_shard_workflows.specs.Workflow.{IsWorkflow}
use Rattle.ndc_shard_workflows.specs.Workflows.{workflow_or_empty}
use Rattle.ndc_shard_workflows.proofs.BehindLemmas.{workflow-own}
use Rattle.ndc_shard_workflows.proofs.DomainLemmas.{is-cell}
use Rattle.ndc_shard_workflows.proofs.FindLemmas.{found-some, found-none, always-none, found-under}
use Rattle.ndc_shard_workflows.proofs.domains.Domains.find.Goals as goal

pub returns-in_err-get-clause-none : goal.returns-in_err-get-clause-none
returns-in_err-get-clause-none c =
    always-none c.from_residual.result
    (sym (ap (λ (cell : Cell). workflow_of c.args.domain.now c.args.workflow.now cell) c.self.view_is)
    ∙ found-under c.self.inside.domains.entries c.self.invariant c.args.domain.now c.args.workflow.now None c.in_err-get.ensures.value)

pub returns-clause-found : goal.returns-clause-found
returns-clause-found c =
    found-some c.get-2.result (workflow_of c.args.domain.now c.args.workflow.now c.args.self.now)
    (sym (ap (λ (cell : Cell). workflow_of c.args.domain.now c.args.workflow.now cell) c.self.view_is)
    ∙ found-under c.self.inside.domains.entries c.self.invariant c.args.domain.now c.args.workflow.now (Some c.in_ok-get.field-0.now) c.in_ok-get.ensures.value
    ∙ ap workflow_or_empty (sym c.get-2.ensures))

pub returns-clause-none : goal.returns-clause-none
returns-clause-none c =
    found-none c.get-2.result (workflow_of c.args.domain.now c.args.workflow.now c.args.self.now)
    (sym (ap (λ (cell : Cell). workflow_of c.args.domain.now c.args.workflow.now cell) c.self.view_is)
    ∙ found-under c.self.inside.domains.entries c.self.invariant c.args.domain.now c.args.workflow.now (Some c.in_ok-get.field-0.now) c.in_ok-get.ensures.value
    ∙ ap workflow_or_empty (sym c.get-2.ensures))

pub returns-in_err-get-clause-workflow : goal.returns-in_err-get-clause-workflow
returns-in_err-get-clause-workflow c =
    subst (λ (cell : Cell). IsWorkflow (workflow_of c.args.domain.now c.args.workflow.now cell)) c.self.view_is
    (workflow-own c.self.inside.domains.entries c.self.invariant c.args.domain.now c.args.workflow.now).is

pub returns-in_err-get-clause-sound : goal.returns-in_err-get-clause-sound
returns-in_err-get-clause-sound c =
    subst (λ (cell : Cell). IsSound (learned_of c.args.domain.now c.args.workflow.now cell)) c.self.view_is
    (workflow-own c.self.inside.domains.entries c.self.invariant c.args.domain.now c.args.workflow.now).sound

pub returns-in_err-get-clause-cell : goal.returns-in_err-get-clause-cell
returns-in_err-get-clause-cell c = subst IsCell c.self.view_is (is-cell c.self.inside.domains.entries c.self.invariant)

pub returns-clause-workflow : goal.returns-clause-workflow
returns-clause-workflow c =
    subst (λ (cell : Cell). IsWorkflow (workflow_of c.args.domain.now c.args.workflow.now cell)) c.self.view_is
    (workflow-own c.self.inside.domains.entries c.self.invariant c.args.domain.now c.args.workflow.now).is

pub returns-clause-sound : goal.returns-clause-sound
returns-clause-sound c =
    subst (λ (cell : Cell). IsSound (learned_of c.args.domain.now c.args.workflow.now cell)) c.self.view_is
    (workflow-own c.self.inside.domains.entries c.self.invariant c.args.domain.now c.args.workflow.now).sound

pub returns-clause-cell : goal.returns-clause-cell
returns-clause-cell c = subst IsCell c.self.view_is (is-cell c.self.inside.domains.entries c.self.invariant)
