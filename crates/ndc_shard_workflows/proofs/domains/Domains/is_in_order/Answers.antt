use Rattle.std.proofs.Common.{subst}
use Rattle.ndc_model_cells.specs.Cells.{Cell, IsCell, learned_of}
use Rattle.ndc_model_sets.specs.Sound.{IsSound}
use Rattle.ndc_shard_workflows.specs.Workflow.{IsWorkflow}
use Rattle.ndc_model_cells.specs.Workflow.{workflow_of}
use Rattle.ndc_shard_workflows.proofs.BehindLemmas.{workflow-own}
use Rattle.ndc_shard_workflows.proofs.DomainLemmas.{is-cell}
use Rattle.ndc_shard_workflows.proofs.domains.Domains.is_in_order.Goals as goal

pub returns-clause-cell : goal.returns-clause-cell
returns-clause-cell c = subst IsCell c.self.view_is (is-cell c.self.inside.domains.entries c.self.invariant)

pub returns-clause-workflows : goal.returns-clause-workflows
returns-clause-workflows c d n =
    subst (λ (cell : Cell). IsWorkflow (workflow_of d n cell)) c.self.view_is (workflow-own c.self.inside.domains.entries c.self.invariant d n).is

pub returns-clause-sound : goal.returns-clause-sound
returns-clause-sound c d n =
    subst (λ (cell : Cell). IsSound (learned_of d n cell)) c.self.view_is (workflow-own c.self.inside.domains.entries c.self.invariant d n).sound
