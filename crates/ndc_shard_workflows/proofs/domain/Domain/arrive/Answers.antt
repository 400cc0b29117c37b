use Rattle.std.proofs.Common.{◌≡◌, Some, None, false, refl, sym, ◌∙◌, subst, ap}
use Rattle.std.specs.Prelude.{is_some}
use Rattle.ndc_model_sets.specs.Learned.{learned}
use Rattle.ndc_model_sets.specs.Sound.{IsSound}
use Rattle.ndc_shard_workflows.proofs.CellLemmas.{own-names}
use Rattle.ndc_model_cells.specs.Workflow.{WorkflowValue}
use Rattle.ndc_shard_workflows.specs.Workflow.{after_arrival, empty_workflow, has_arrived}
use Rattle.ndc_model_cells.specs.Messages.{IsNewTo}
use Rattle.ndc_shard_runs.specs.Kept.{is_due}
use Rattle.ndc_shard_workflows.proofs.OkLemmas.{on-ok}
use Rattle.ndc_shard_workflows.specs.Named.{under}
use Rattle.ndc_shard_workflows.specs.Workflows.{workflow_or_empty, IsOwn}
use Rattle.ndc_shard_workflows.proofs.NameLemmas.{put-holds}
use Rattle.ndc_shard_workflows.proofs.OwnLemmas.{empty-own, own-after}
use Rattle.ndc_shard_workflows.proofs.PutLemmas.{map-put, same-put, own-either}
use Rattle.ndc_shard_workflows.proofs.domain.Domain.arrive.Goals as goal

pub receive-requires-clause-sound : goal.receive-requires-clause-sound
receive-requires-clause-sound g c =
    let m = c.args.message in
    let at : Some c.in-Some.workflow.now ≡ under m.batch.workflow c.args.self.now = c.in-Some.ensures.value ∙ ap (under m.batch.workflow) c.self.view_is in
    subst (λ (w : WorkflowValue). IsSound (learned (after_arrival m w).arrived)) (sym (ap workflow_or_empty at)) c.requires.sound

pub returns-in-Some-clause-ok : goal.returns-in-Some-clause-ok
returns-in-Some-clause-ok g c =
    let m = c.args.message in
    let at : Some c.in-Some.workflow.now ≡ under m.batch.workflow c.args.self.now = c.in-Some.ensures.value ∙ ap (under m.batch.workflow) c.self.view_is in
    let w = c.get_mut.follows.holds c.receive.new.workflow in
    on-ok c.receive.result
    (λ e. same-put m.batch.workflow m.batch.workflow c.receive.new.workflow (after_arrival m (workflow_or_empty (under m.batch.workflow c.args.self.now))) c.args.self.now c.self.inside.workflows.entries
    (c.get_mut.follows.lender c.receive.new.workflow).entries refl (e ∙ ap (λ v. after_arrival m (workflow_or_empty v)) at) c.self.view_is
    (map-put m.batch.workflow c.receive.new.workflow c.self.inside.workflows.entries (c.get_mut.follows.lender c.receive.new.workflow).entries (w.3 (ap is_some (sym c.in-Some.ensures.value))).0 w.4)) c.receive.ensures.ok

pub returns-in-Some-clause-own : goal.returns-in-Some-clause-own
returns-in-Some-clause-own g c =
    let m = c.args.message in
    let at : Some c.in-Some.workflow.now ≡ under m.batch.workflow c.args.self.now = c.in-Some.ensures.value ∙ ap (under m.batch.workflow) c.self.view_is in
    let w = c.get_mut.follows.holds c.receive.new.workflow in
    put-holds (IsOwn m.batch.domain) m.batch.workflow c.receive.new.workflow c.args.self.now (c.get_mut.follows.lender c.receive.new.workflow).entries
    (same-put m.batch.workflow m.batch.workflow c.receive.new.workflow c.receive.new.workflow c.args.self.now c.self.inside.workflows.entries
    (c.get_mut.follows.lender c.receive.new.workflow).entries refl refl c.self.view_is
    (map-put m.batch.workflow c.receive.new.workflow c.self.inside.workflows.entries (c.get_mut.follows.lender c.receive.new.workflow).entries (w.3 (ap is_some (sym c.in-Some.ensures.value))).0 w.4))
    (own-either m.batch.domain m.batch.workflow m c.in-Some.workflow.now c.receive.new.workflow c.receive.result c.receive.ensures.ok c.receive.ensures.err
    (c.requires.own.each m.batch.workflow c.in-Some.workflow.now (sym at)) (own-names m.batch) c.requires.second c.requires.message
    (subst (λ (w : WorkflowValue). has_arrived m.batch.key w ≡ false → IsNewTo w.arrived m) (sym (ap workflow_or_empty at)) c.requires.new)
    (subst (λ (w : WorkflowValue). IsSound (learned (after_arrival m w).arrived)) (sym (ap workflow_or_empty at)) c.requires.sound))
    c.requires.own

pub receive-requires-2-clause-sound : goal.receive-requires-2-clause-sound
receive-requires-2-clause-sound g c =
    let m = c.args.message in
    let at : None ≡ under m.batch.workflow c.args.self.now = c.in_default.ensures.value ∙ ap (under m.batch.workflow) c.self.view_is in
    subst (λ (w : WorkflowValue). IsSound (learned (after_arrival m w).arrived)) (sym (c.new-workflow.ensures ∙ ap workflow_or_empty at)) c.requires.sound

pub returns-clause-ok : goal.returns-clause-ok
returns-clause-ok g c =
    let m = c.args.message in
    let at : None ≡ under m.batch.workflow c.args.self.now = c.in_default.ensures.value ∙ ap (under m.batch.workflow) c.self.view_is in
    same-put m.batch.workflow c.in_ok-name.name c.receive-2.new.workflow (after_arrival m (workflow_or_empty (under m.batch.workflow c.args.self.now))) c.args.self.now
    c.get_mut.follows.lender-at-none.entries c.insert.new.self.entries c.in_ok-name.ensures
    (c.in_ok-received.ensures.ok ∙ ap (after_arrival m) (c.new-workflow.ensures ∙ ap workflow_or_empty at)) (ap (λ n. n.entries) c.get_mut.follows.holds-at-none ∙ c.self.view_is)
    (map-put c.in_ok-name.name c.receive-2.new.workflow c.get_mut.follows.lender-at-none.entries c.insert.new.self.entries c.in_ok-insert.ensures.updates.0 c.in_ok-insert.ensures.ordered)

pub returns-clause-own : goal.returns-clause-own
returns-clause-own g c =
    let m = c.args.message in
    let at : None ≡ under m.batch.workflow c.args.self.now = c.in_default.ensures.value ∙ ap (under m.batch.workflow) c.self.view_is in
    put-holds (IsOwn m.batch.domain) m.batch.workflow c.receive-2.new.workflow c.args.self.now c.insert.new.self.entries
    (same-put m.batch.workflow c.in_ok-name.name c.receive-2.new.workflow c.receive-2.new.workflow c.args.self.now
    c.get_mut.follows.lender-at-none.entries c.insert.new.self.entries c.in_ok-name.ensures refl (ap (λ n. n.entries) c.get_mut.follows.holds-at-none ∙ c.self.view_is)
    (map-put c.in_ok-name.name c.receive-2.new.workflow c.get_mut.follows.lender-at-none.entries c.insert.new.self.entries c.in_ok-insert.ensures.updates.0 c.in_ok-insert.ensures.ordered))
    (subst (IsOwn m.batch.domain m.batch.workflow) (sym (c.in_ok-received.ensures.ok ∙ ap (after_arrival m) c.new-workflow.ensures))
    (own-after m.batch.domain m.batch.workflow m empty_workflow (empty-own m.batch.domain m.batch.workflow) (own-names m.batch) c.requires.second c.requires.message
    (subst (λ (w : WorkflowValue). has_arrived m.batch.key w ≡ false → IsNewTo w.arrived m) (sym (ap workflow_or_empty at)) c.requires.new)
    (subst (λ (w : WorkflowValue). IsSound (learned (after_arrival m w).arrived)) (sym (ap workflow_or_empty at)) c.requires.sound)))
    c.requires.own

pub returns-clause-due : goal.returns-clause-due
returns-clause-due g c =
    let m = c.args.message in
    let at : None ≡ under m.batch.workflow c.args.self.now = c.in_default.ensures.value ∙ ap (under m.batch.workflow) c.self.view_is in
    subst (λ (w : WorkflowValue). c.in_ok-received.received.may_be_due ≡ false → is_due (learned (after_arrival m w).arrived) ≡ false)
    (c.new-workflow.ensures ∙ ap workflow_or_empty at) c.in_ok-received.ensures.due
