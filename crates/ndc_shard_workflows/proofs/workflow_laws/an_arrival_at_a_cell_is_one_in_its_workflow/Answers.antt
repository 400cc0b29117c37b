use Rattle.ndc_shard_workflows.proofs.CellLemmas.{answer-same, learned-same, workflow-same}
use Rattle.ndc_shard_workflows.proofs.workflow_laws.an_arrival_at_a_cell_is_one_in_its_workflow.Goals as goal

pub returns-clause-answer : goal.returns-clause-answer
returns-clause-answer c = answer-same

pub returns-clause-learned : goal.returns-clause-learned
returns-clause-learned c = learned-same

pub returns-clause-own : goal.returns-clause-own
returns-clause-own c = workflow-same
