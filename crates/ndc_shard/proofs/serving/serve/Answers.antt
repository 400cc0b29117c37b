use Rattle.std.proofs.Common.{sym, subst}
use Rattle.ndc_model_sets.specs.Sets.{IsSet}
use Rattle.ndc_shard.proofs.serving.serve.Goals as goal

pub answered-requires : goal.answered-requires
answered-requires c = subst IsSet (sym c.runs.ensures.learned) c.runs.ensures.workflow.apart.set
