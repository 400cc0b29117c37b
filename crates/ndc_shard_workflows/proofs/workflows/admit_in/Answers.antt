use Rattle.std.proofs.Common.{subst}
use Rattle.ndc_event.specs.declared.name.Name.{Name}
use Rattle.ndc_shard_workflows.specs.Listed.{IsListedWhereBehind, IsListedWhereDue}
use Rattle.ndc_shard_workflows.proofs.HandedLemmas.{behind-handed, due-handed}
use Rattle.ndc_shard_workflows.proofs.RecountLemmas.{handed-others, none-at, recounted-at}
use Rattle.ndc_shard_workflows.proofs.workflows.admit_in.Goals as goal

pub returns-in-Ok-list_in-clause-handed : goal.returns-in-Ok-list_in-clause-handed
returns-in-Ok-list_in-clause-handed g c = record { own = c.in-Ok.ensures.admitted; grows = c.in-Ok.ensures.comes; others = c.in-Ok.ensures.others }

pub returns-in-Ok-list_in-clause-hold : goal.returns-in-Ok-list_in-clause-hold
returns-in-Ok-list_in-clause-hold g c =
    let b = c.args.message.batch in
    let it = c.in-Ok.admitted in
    due-handed b c.args.domains.now c.admit.new.self c.in-Ok.ensures.others c.args.due.now c.list_in.new.due it.may_be_due c.in-Ok.ensures.due
    (subst (λ (d : Name). IsListedWhereDue d b.workflow it.may_be_due c.args.due.now c.list_in.new.due) c.in_ok-domain.ensures
    (subst (λ (w : Name). IsListedWhereDue c.in_ok-domain.domain w it.may_be_due c.args.due.now c.list_in.new.due) c.in_ok-workflow.ensures c.in-Ok-list_in.ensures.due)) c.requires.hold

pub returns-in-Ok-list_in-clause-waiting : goal.returns-in-Ok-list_in-clause-waiting
returns-in-Ok-list_in-clause-waiting g c =
    let b = c.args.message.batch in
    let it = c.in-Ok.admitted in
    behind-handed b c.args.domains.now c.admit.new.self c.in-Ok.ensures.others c.args.behind.now c.list_in.new.behind it.is_behind c.in-Ok.ensures.behind
    (subst (λ (d : Name). IsListedWhereBehind d b.workflow it.is_behind c.args.behind.now c.list_in.new.behind) c.in_ok-domain.ensures
    (subst (λ (w : Name). IsListedWhereBehind c.in_ok-domain.domain w it.is_behind c.args.behind.now c.list_in.new.behind) c.in_ok-workflow.ensures c.in-Ok-list_in.ensures.behind)) c.requires.waiting

pub count_again-requires-clause-behind : goal.count_again-requires-clause-behind
count_again-requires-clause-behind g c e =
    none-at c.args.message.batch c.admit.new.self c.in_ok-domain.domain c.in_ok-workflow.workflow c.in_ok-domain.ensures c.in_ok-workflow.ensures (c.in-Ok.ensures.behind e)

pub returns-in-Ok-list_in-clause-counted : goal.returns-in-Ok-list_in-clause-counted
returns-in-Ok-list_in-clause-counted g c =
    let b = c.args.message.batch in
    recounted-at b c.args.domains.now c.admit.new.self c.in_ok-domain.domain c.in_ok-workflow.workflow c.in_ok-domain.ensures c.in_ok-workflow.ensures
    (handed-others b c.args.domains.now c.admit.new.self c.in-Ok.ensures.others) c.args.waiting.now c.waited_in-waited.result c.count_again.new.waiting c.requires.counted c.waited_in-waited.ensures.own
    c.in-Ok-count_again.ensures
