use Rattle.ndc_shard_workflows.proofs.AdmittedLemmas.{comes-part}
use Rattle.ndc_shard_workflows.proofs.workflow_laws.what_is_learned_only_grows.Goals as goal

pub returns : goal.returns
returns c = comes-part
