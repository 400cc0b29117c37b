use Rattle.ndc_shard_workflows.proofs.AmongLemmas.{idle, others-stay}
use Rattle.ndc_shard_workflows.proofs.laws.reapplication_concerns_one_workflow.Goals as goal

pub returns-clause-nothing : goal.returns-clause-nothing
returns-clause-nothing c home names cell e = idle home names cell e

pub returns-clause-others : goal.returns-clause-others
returns-clause-others c home names cell domain workflow e = others-stay home names cell domain workflow e
