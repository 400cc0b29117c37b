use Rattle.std.proofs.Common.{◌≡◌, [], sym, ◌∙◌, subst, ap}
use Rattle.ndc_model_cells.specs.Cells.{Cell}
use Rattle.ndc_model_cells.specs.Workflow.{workflow_of}
use Rattle.ndc_event.specs.declared.name.Name.{Name}
use Rattle.ndc_shard_workflows.specs.Behind.{HoldBehind}
use Rattle.ndc_shard_workflows.specs.Due.{HoldDue}
use Rattle.ndc_shard_workflows.specs.Listed.{IsListedWhereBehind, IsListedWhereDue}
use Rattle.ndc_shard_workflows.proofs.HoldLemmas.{hold-arrived}
use Rattle.ndc_shard_workflows.proofs.RecountLemmas.{arrived-others, none-at, recounted-at}
use Rattle.ndc_shard_workflows.proofs.WaitLemmas.{behind-arrived}
use Rattle.ndc_shard_workflows.proofs.workflows.arrive_in.Goals as goal

pub returns-clause-hold : goal.returns-clause-hold
returns-clause-hold g c =
    let m = c.args.message in
    let may_be_due = c.in_ok-received.received.may_be_due in
    let after = c.list_in.new.due in
    subst (HoldDue after) (sym c.in_ok-received.ensures.cell)
    (hold-arrived m c.args.domains.now may_be_due c.args.due.now after c.requires.may c.requires.hold c.in_ok-received.ensures.due
    (subst (λ (d : Name). IsListedWhereDue d m.batch.workflow may_be_due c.args.due.now after) c.in_ok-domain.ensures
    (subst (λ (w : Name). IsListedWhereDue c.in_ok-domain.domain w may_be_due c.args.due.now after) c.in_ok-workflow.ensures c.in_ok-list_in.ensures.due)))

pub returns-clause-behind : goal.returns-clause-behind
returns-clause-behind g c =
    let m = c.args.message in
    let is_behind = c.in_ok-received.received.is_behind in
    let after = c.list_in.new.behind in
    subst (HoldBehind after) (sym c.in_ok-received.ensures.cell)
    (behind-arrived m c.args.domains.now is_behind c.args.behind.now after c.requires.behind c.in_ok-received.ensures.behind
    (subst (λ (d : Name). IsListedWhereBehind d m.batch.workflow is_behind c.args.behind.now after) c.in_ok-domain.ensures
    (subst (λ (w : Name). IsListedWhereBehind c.in_ok-domain.domain w is_behind c.args.behind.now after) c.in_ok-workflow.ensures c.in_ok-list_in.ensures.behind)))

pub count_again-requires-clause-behind : goal.count_again-requires-clause-behind
count_again-requires-clause-behind g c e =
    let m = c.args.message in
    none-at m.batch c.arrive.new.self c.in_ok-domain.domain c.in_ok-workflow.workflow c.in_ok-domain.ensures c.in_ok-workflow.ensures
    (subst (λ (cell : Cell). (workflow_of m.batch.domain m.batch.workflow cell).waiting ≡ []) (sym c.in_ok-received.ensures.cell) (c.in_ok-received.ensures.behind e))

pub returns-clause-counted : goal.returns-clause-counted
returns-clause-counted g c =
    let m = c.args.message in
    let old = c.args.domains.now in
    recounted-at m.batch old c.arrive.new.self c.in_ok-domain.domain c.in_ok-workflow.workflow c.in_ok-domain.ensures c.in_ok-workflow.ensures
    (λ d w other. ap (λ (cell : Cell). (workflow_of d w cell).waiting) c.in_ok-received.ensures.cell ∙ arrived-others m old c.requires.may c.is_in_order.ensures.workflows d w other)
    c.args.waiting.now c.waited_in-waited.result c.count_again.new.waiting c.requires.counted c.waited_in-waited.ensures.own c.in_ok-count_again.ensures
