use Rattle.std.proofs.Common.{◌≡◌, List, map, Option, Some, IfOk, sym, ◌∙◌, subst, ap}
use Rattle.ndc_event.specs.declared.key.BatchKey.{BatchKey}
use Rattle.ndc_shard_waiting.specs.declared.waiting.PutOff.{PutOff}
use Rattle.ndc_shard_workflows.specs.Workflow.{all_missing}
use Rattle.ndc_shard_workflows.proofs.PutOffLemmas.{all-missed}
use Rattle.ndc_shard_workflows.proofs.workflow.Workflow.all_missing.Goals as goal

pub returns : goal.returns
returns c =
    subst (λ (missing : List (BatchKey × Option BatchKey)). IfOk c.all_missing.result (λ list. map {A = PutOff} {B = BatchKey × Option BatchKey} (λ one. (one.key, Some one.missing)) list.items ≡ missing))
    (sym (all-missed c.self.inside.runs c.self.inside.waiting c.self.invariant.apart) ∙ ap all_missing c.self.view_is) c.all_missing.ensures
