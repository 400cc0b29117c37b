use Rattle.std.proofs.Common.{◌≡◌, Option, Some, None, refl, sym, ◌∙◌, subst, ap}
use Rattle.std.specs.Prelude.{is_some, IfErr}
use Rattle.std.specs.Option.{option_copied}
use Rattle.std.proofs.lemmas.Map.Steps.{set_value_same}
use Rattle.ndc_shard_workflows.proofs.CellLemmas.{own-names}
use Rattle.ndc_model_cells.specs.Messages.{carrying}
use Rattle.ndc_model_cells.specs.Workflow.{WorkflowValue}
use Rattle.ndc_model_sets.specs.Learned.{learned}
use Rattle.ndc_shard_workflows.specs.Listed.{IsListedBefore}
use Rattle.ndc_shard_workflows.specs.Refused.{IsNotWritten}
use Rattle.ndc_shard_workflows.specs.Workflow.{with_written}
use Rattle.ndc_shard_workflows.proofs.OkLemmas.{on-ok}
use Rattle.ndc_shard_workflows.specs.Named.{under}
use Rattle.ndc_shard_workflows.specs.Workflows.{workflow_or_empty, IsOwn}
use Rattle.ndc_shard_workflows.specs.Writing.{MayBeWrittenTogether}
use Rattle.ndc_shard_workflows.proofs.NameLemmas.{put-holds}
use Rattle.ndc_shard_workflows.proofs.OwnLemmas.{empty-own}
use Rattle.ndc_shard_workflows.proofs.PutLemmas.{map-put, same-put, own-written-either, on-err}
use Rattle.ndc_shard_workflows.proofs.domain.Domain.write.Goals as goal

pub write_to-requires-clause-may : goal.write_to-requires-clause-may
write_to-requires-clause-may g c = λ vouched.
    let b = c.args.batch.now in
    let sent = carrying b (option_copied c.args.second) in
    let at : Some c.in-Some.workflow.now ≡ under b.workflow c.args.self.now = c.in-Some.ensures.value ∙ ap (under b.workflow) c.self.view_is in
    subst (MayBeWrittenTogether sent) (sym (ap workflow_or_empty at)) (c.requires.may vouched)

pub write_to-requires-2-clause-may : goal.write_to-requires-2-clause-may
write_to-requires-2-clause-may g c = λ vouched.
    let b = c.args.batch.now in
    let sent = carrying b (option_copied c.args.second) in
    let at : None ≡ under b.workflow c.args.self.now = c.in_default.ensures.value ∙ ap (under b.workflow) c.self.view_is in
    subst (MayBeWrittenTogether sent) (sym (c.new-workflow.ensures ∙ ap workflow_or_empty at)) (c.requires.may vouched)

pub returns-in-Some-clause-may : goal.returns-in-Some-clause-may
returns-in-Some-clause-may g c =
    let b = c.args.batch.now in
    let at : Some c.in-Some.workflow.now ≡ under b.workflow c.args.self.now = c.in-Some.ensures.value ∙ ap (under b.workflow) c.self.view_is in
    on-ok c.write_to.result (subst (λ (v : Option WorkflowValue). MayBeWrittenTogether (carrying b (option_copied c.args.second)) (workflow_or_empty v)) at) c.write_to.ensures.may

pub returns-in-Some-clause-refused : goal.returns-in-Some-clause-refused
returns-in-Some-clause-refused g c =
    let b = c.args.batch.now in
    let at : Some c.in-Some.workflow.now ≡ under b.workflow c.args.self.now = c.in-Some.ensures.value ∙ ap (under b.workflow) c.self.view_is in
    subst (λ (v : Option WorkflowValue). IfErr c.write_to.result (λ cause. IsNotWritten cause (carrying b (option_copied c.args.second)) (workflow_or_empty v))) at c.write_to.ensures.refused

pub returns-clause-may : goal.returns-clause-may
returns-clause-may g c =
    let b = c.args.batch.now in
    let at : None ≡ under b.workflow c.args.self.now = c.in_default.ensures.value ∙ ap (under b.workflow) c.self.view_is in
    subst (MayBeWrittenTogether (carrying b (option_copied c.args.second))) (c.new-workflow.ensures ∙ ap workflow_or_empty at) c.in_ok-write_to.ensures.may

pub returns-in-Some-clause-listed : goal.returns-in-Some-clause-listed
returns-in-Some-clause-listed g c =
    let b = c.args.batch.now in
    let at : Some c.in-Some.workflow.now ≡ under b.workflow c.args.self.now = c.in-Some.ensures.value ∙ ap (under b.workflow) c.self.view_is in
    on-ok c.write_to.result (λ e. subst (λ (v : Option WorkflowValue). IsListedBefore b (option_copied c.args.second) (learned (workflow_or_empty v).arrived) c.args.due.now c.write_to.new.due) at e) c.write_to.ensures.listed

pub returns-clause-listed : goal.returns-clause-listed
returns-clause-listed g c =
    let b = c.args.batch.now in
    let at : None ≡ under b.workflow c.args.self.now = c.in_default.ensures.value ∙ ap (under b.workflow) c.self.view_is in
    subst (λ (v : WorkflowValue). IsListedBefore b (option_copied c.args.second) (learned v.arrived) c.args.due.now c.write_to-2.new.due) (c.new-workflow.ensures ∙ ap workflow_or_empty at) c.in_ok-write_to.ensures.listed

pub returns-in-Some-clause-ok : goal.returns-in-Some-clause-ok
returns-in-Some-clause-ok g c =
    let b = c.args.batch.now in
    let sent = carrying b (option_copied c.args.second) in
    let at : Some c.in-Some.workflow.now ≡ under b.workflow c.args.self.now = c.in-Some.ensures.value ∙ ap (under b.workflow) c.self.view_is in
    let w = c.get_mut.follows.holds c.write_to.new.workflow in
    on-ok c.write_to.result
    (λ e. same-put b.workflow b.workflow c.write_to.new.workflow (with_written sent (workflow_or_empty (under b.workflow c.args.self.now))) c.args.self.now c.self.inside.workflows.entries
    (c.get_mut.follows.lender c.write_to.new.workflow).entries refl (e ∙ ap (λ v. with_written sent (workflow_or_empty v)) at) c.self.view_is
    (map-put b.workflow c.write_to.new.workflow c.self.inside.workflows.entries (c.get_mut.follows.lender c.write_to.new.workflow).entries (w.3 (ap is_some (sym c.in-Some.ensures.value))).0 w.4)) c.write_to.ensures.ok

pub returns-in-Some-clause-own : goal.returns-in-Some-clause-own
returns-in-Some-clause-own g c =
    let b = c.args.batch.now in
    let sent = carrying b (option_copied c.args.second) in
    let at : Some c.in-Some.workflow.now ≡ under b.workflow c.args.self.now = c.in-Some.ensures.value ∙ ap (under b.workflow) c.self.view_is in
    let w = c.get_mut.follows.holds c.write_to.new.workflow in
    put-holds (IsOwn b.domain) b.workflow c.write_to.new.workflow c.args.self.now (c.get_mut.follows.lender c.write_to.new.workflow).entries
    (same-put b.workflow b.workflow c.write_to.new.workflow c.write_to.new.workflow c.args.self.now c.self.inside.workflows.entries
    (c.get_mut.follows.lender c.write_to.new.workflow).entries refl refl c.self.view_is
    (map-put b.workflow c.write_to.new.workflow c.self.inside.workflows.entries (c.get_mut.follows.lender c.write_to.new.workflow).entries (w.3 (ap is_some (sym c.in-Some.ensures.value))).0 w.4))
    (own-written-either b.domain b.workflow sent c.in-Some.workflow.now c.write_to.new.workflow c.write_to.result c.write_to.ensures.ok c.write_to.ensures.err
    (c.requires.own.each b.workflow c.in-Some.workflow.now (sym at)) (own-names b) refl refl c.write_to.ensures.may)
    c.requires.own

pub returns-in-Some-clause-err : goal.returns-in-Some-clause-err
returns-in-Some-clause-err g c =
    let w = c.get_mut.follows.holds c.write_to.new.workflow in
    on-err c.write_to.result
    (λ e. w.0 ∙ set_value_same _ c.self.inside.workflows.entries c.write_to.new.workflow (sym (ap Some e ∙ c.in-Some.ensures.value)) ∙ c.self.view_is) c.write_to.ensures.err

pub returns-clause-ok : goal.returns-clause-ok
returns-clause-ok g c =
    let b = c.args.batch.now in
    let sent = carrying b (option_copied c.args.second) in
    let at : None ≡ under b.workflow c.args.self.now = c.in_default.ensures.value ∙ ap (under b.workflow) c.self.view_is in
    same-put b.workflow c.in_ok-name.name c.write_to-2.new.workflow (with_written sent (workflow_or_empty (under b.workflow c.args.self.now))) c.args.self.now
    c.get_mut.follows.lender-at-none.entries c.insert.new.self.entries c.in_ok-name.ensures
    (c.in_ok-write_to.ensures.ok ∙ ap (with_written sent) (c.new-workflow.ensures ∙ ap workflow_or_empty at)) (ap (λ n. n.entries) c.get_mut.follows.holds-at-none ∙ c.self.view_is)
    (map-put c.in_ok-name.name c.write_to-2.new.workflow c.get_mut.follows.lender-at-none.entries c.insert.new.self.entries c.in_ok-insert.ensures.updates.0 c.in_ok-insert.ensures.ordered)

pub returns-clause-own : goal.returns-clause-own
returns-clause-own g c =
    let b = c.args.batch.now in
    let sent = carrying b (option_copied c.args.second) in
    let at : None ≡ under b.workflow c.args.self.now = c.in_default.ensures.value ∙ ap (under b.workflow) c.self.view_is in
    put-holds (IsOwn b.domain) b.workflow c.write_to-2.new.workflow c.args.self.now c.insert.new.self.entries
    (same-put b.workflow c.in_ok-name.name c.write_to-2.new.workflow c.write_to-2.new.workflow c.args.self.now
    c.get_mut.follows.lender-at-none.entries c.insert.new.self.entries c.in_ok-name.ensures refl (ap (λ n. n.entries) c.get_mut.follows.holds-at-none ∙ c.self.view_is)
    (map-put c.in_ok-name.name c.write_to-2.new.workflow c.get_mut.follows.lender-at-none.entries c.insert.new.self.entries c.in_ok-insert.ensures.updates.0 c.in_ok-insert.ensures.ordered))
    (own-written-either b.domain b.workflow sent c.new-workflow.result c.write_to-2.new.workflow c.write_to-2.result c.write_to-2.ensures.ok c.write_to-2.ensures.err
    (subst (IsOwn b.domain b.workflow) (sym c.new-workflow.ensures) (empty-own b.domain b.workflow)) (own-names b) refl refl c.write_to-2.ensures.may)
    c.requires.own
