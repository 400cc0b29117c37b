use Rattle.std.proofs.Common.{◌≡◌, Option, Some, None, IfOk, OnOk, false, refl, sym, ◌∙◌, subst, ap}
use Rattle.std.specs.Prelude.{is_some}
use Rattle.std.proofs.lemmas.Map.Steps.{set_value_same}
use Rattle.ndc_model_cells.specs.Workflow.{WorkflowValue}
use Rattle.ndc_shard_workflows.specs.Forgetting.{is_put_off, without}
use Rattle.ndc_shard_workflows.specs.Named.{IsPut, under}
use Rattle.ndc_shard_workflows.specs.Workflows.{IsOwn, workflow_or_empty}
use Rattle.ndc_shard_workflows.proofs.ForgetLemmas.{err-then, own-forgotten}
use Rattle.ndc_shard_workflows.proofs.HandedLemmas.{put-at, put-others}
use Rattle.ndc_shard_workflows.proofs.NameLemmas.{put-holds}
use Rattle.ndc_shard_workflows.proofs.PutLemmas.{map-put, same-put}
use Rattle.ndc_shard_workflows.proofs.domain.Domain.forget.Goals as goal

pub returns-in-Some-clause-dropped : goal.returns-in-Some-clause-dropped
returns-in-Some-clause-dropped c =
    let at : Some c.in-Some.found.now ≡ under c.args.workflow.now c.args.self.now = c.in-Some.ensures.value ∙ ap (under c.args.workflow.now) c.self.view_is in
    subst (λ (o : Option WorkflowValue). IfOk c.forget.result (λ dropped. dropped ≡ is_put_off c.args.key (workflow_or_empty o))) at c.forget.ensures.dropped

pub returns-in-Some-clause-forgotten : goal.returns-in-Some-clause-forgotten
returns-in-Some-clause-forgotten c =
    let n = c.args.workflow.now in
    let new = c.forget.new.self in
    let es = c.self.inside.workflows.entries in
    let after = (c.get_mut.follows.lender new).entries in
    let w = c.get_mut.follows.holds new in
    let put : IsPut n new es after = map-put n new es after (w.3 (ap is_some (sym c.in-Some.ensures.value))).0 w.4 in
    let at : Some c.in-Some.found.now ≡ under n c.args.self.now = c.in-Some.ensures.value ∙ ap (under n) c.self.view_is in
    subst (λ (x : WorkflowValue). OnOk c.forget.result (workflow_or_empty (under n after) ≡ without c.args.key x)) (ap workflow_or_empty at)
    (subst (λ (x : WorkflowValue). OnOk c.forget.result (x ≡ without c.args.key c.in-Some.found.now)) (sym (ap workflow_or_empty (put-at n new es after put))) c.forget.ensures.ok)

pub returns-in-Some-clause-others : goal.returns-in-Some-clause-others
returns-in-Some-clause-others c =
    let n = c.args.workflow.now in
    let new = c.forget.new.self in
    let es = c.self.inside.workflows.entries in
    let after = (c.get_mut.follows.lender new).entries in
    let w = c.get_mut.follows.holds new in
    put-others n new c.args.self.now after
    (same-put n n new new c.args.self.now es after refl refl c.self.view_is (map-put n new es after (w.3 (ap is_some (sym c.in-Some.ensures.value))).0 w.4))

pub returns-in-Some-clause-own : goal.returns-in-Some-clause-own
returns-in-Some-clause-own c = λ domain own.
    let n = c.args.workflow.now in
    let new = c.forget.new.self in
    let es = c.self.inside.workflows.entries in
    let after = (c.get_mut.follows.lender new).entries in
    let w = c.get_mut.follows.holds new in
    let at : Some c.in-Some.found.now ≡ under n c.args.self.now = c.in-Some.ensures.value ∙ ap (under n) c.self.view_is in
    put-holds (IsOwn domain) n new c.args.self.now after
    (same-put n n new new c.args.self.now es after refl refl c.self.view_is (map-put n new es after (w.3 (ap is_some (sym c.in-Some.ensures.value))).0 w.4))
    (own-forgotten c.forget.result domain n c.args.key c.in-Some.found.now new c.forget.ensures.ok c.forget.ensures.err (own.each n c.in-Some.found.now (sym at))) own

pub returns-in-Some-clause-err : goal.returns-in-Some-clause-err
returns-in-Some-clause-err c =
    let new = c.forget.new.self in
    let w = c.get_mut.follows.holds new in
    err-then c.forget.result _ _ (λ same. w.0 ∙ set_value_same _ c.self.inside.workflows.entries new (sym (ap Some same ∙ c.in-Some.ensures.value)) ∙ c.self.view_is) c.forget.ensures.err
