use Rattle.std.proofs.Common.{Bor, List, map, sym, subst}
use Rattle.ndc_model_cells.specs.Workflow.{WorkflowValue}
use Rattle.ndc_shard_workflows.specs.Reading.{HoldLearned}
use Rattle.ndc_shard_workflows.proofs.MessageDomainLemmas.{none-told}
use Rattle.ndc_shard_workflows.proofs.cell.messages_of.Goals as goal

pub loop-workflow-init : goal.loop-workflow-init
loop-workflow-init c =
    none-told c.args.workflows.now c.args.domains.now c.new-list.result.items (map (λ w. w.now) c.as_slice-workflow-items.result.now) c.new-list.ensures.items
    (subst (λ (l : List (Bor WorkflowValue)). HoldLearned c.args.domains.now (map (λ w. w.now) l) c.args.workflows.now) (sym c.as_slice-workflow-items.ensures.value) c.in_ok-found.ensures)
