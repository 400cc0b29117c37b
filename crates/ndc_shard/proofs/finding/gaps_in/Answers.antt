use Rattle.std.proofs.Common.{◌≡◌, List, Option, Some, map, sym, ◌∙◌, subst, ap}
use Rattle.ndc_event.specs.declared.key.BatchKey.{BatchKey}
use Rattle.ndc_model_sets.specs.Branches.{histories}
use Rattle.ndc_shard_waiting.specs.declared.waiting.PutOff.{PutOff}
use Rattle.ndc_shard_workflows.specs.Workflow.{all_missing}
use Rattle.ndc_shard.proofs.GapLemmas.{told-all}
use Rattle.ndc_shard.proofs.finding.gaps_in.Goals as goal

pub loop-one-init : goal.loop-one-init
loop-one-init c =
    told-all c.args.workflow.now c.in_ok-histories.histories (λ run. c.in_ok-histories.ensures run ∙ ap (histories run) c.runs.ensures.learned) c.requires c.in_ok-list.list.items
    c.as_slice-one-items.result.now c.in_ok-list.ensures.items
    (subst (λ (l : List PutOff). map {B = BatchKey × Option BatchKey} (λ one. (one.key, Some one.missing)) l ≡ all_missing c.args.workflow.now) (sym c.as_slice-one-items.ensures.value)
    c.in_ok-missing.ensures)
