use Rattle.std.proofs.Common.{◌≡◌, Some, None, IfOk, refl, sym, ◌∙◌, subst, ap}
use Rattle.std.specs.Prelude.{is_some}
use Rattle.std.proofs.lemmas.Map.Steps.{set_value_same}
use Rattle.ndc_model_cells.specs.Workflow.{WorkflowValue}
use Rattle.ndc_shard_workflows.specs.Admitting.{IsAdmitted}
use Rattle.ndc_shard_workflows.specs.Named.{IsPut, under}
use Rattle.ndc_shard_workflows.specs.Workflows.{IsOwn, workflow_or_empty}
use Rattle.ndc_shard_workflows.proofs.CellLemmas.{own-names}
use Rattle.ndc_shard_workflows.proofs.HandedLemmas.{left-memory, own-taken, put-at, put-others}
use Rattle.ndc_shard_workflows.proofs.NameLemmas.{put-holds}
use Rattle.ndc_shard_workflows.proofs.OwnLemmas.{empty-own}
use Rattle.ndc_shard_workflows.proofs.PutLemmas.{map-put, same-put}
use Rattle.ndc_shard_workflows.proofs.domain.Domain.admit.Goals as goal

pub returns-in-Some-clause-admitted : goal.returns-in-Some-clause-admitted
returns-in-Some-clause-admitted g c =
    let m = c.args.message in
    let n = m.batch.workflow in
    let new = c.take.new.workflow in
    let es = c.self.inside.workflows.entries in
    let after = (c.get_mut.follows.lender new).entries in
    let w = c.get_mut.follows.holds new in
    let put : IsPut n new es after = map-put n new es after (w.3 (ap is_some (sym c.in-Some.ensures.value))).0 w.4 in
    let at : Some c.in-Some.workflow.now ≡ under n c.args.self.now = c.in-Some.ensures.value ∙ ap (under n) c.self.view_is in
    subst (λ (x : WorkflowValue). IfOk c.take.result (λ it. IsAdmitted c.args.terms.now m it.admission x (workflow_or_empty (under n after)))) (ap workflow_or_empty at)
    (subst (λ (x : WorkflowValue). IfOk c.take.result (λ it. IsAdmitted c.args.terms.now m it.admission c.in-Some.workflow.now x)) (sym (ap workflow_or_empty (put-at n new es after put))) c.take.ensures.admitted)

pub returns-in-Some-clause-others : goal.returns-in-Some-clause-others
returns-in-Some-clause-others g c =
    let n = c.args.message.batch.workflow in
    let new = c.take.new.workflow in
    let es = c.self.inside.workflows.entries in
    let after = (c.get_mut.follows.lender new).entries in
    let w = c.get_mut.follows.holds new in
    put-others n new c.args.self.now after
    (same-put n n new new c.args.self.now es after refl refl c.self.view_is (map-put n new es after (w.3 (ap is_some (sym c.in-Some.ensures.value))).0 w.4))

pub returns-in-Some-clause-own : goal.returns-in-Some-clause-own
returns-in-Some-clause-own g c =
    let m = c.args.message in
    let n = m.batch.workflow in
    let new = c.take.new.workflow in
    let es = c.self.inside.workflows.entries in
    let after = (c.get_mut.follows.lender new).entries in
    let w = c.get_mut.follows.holds new in
    let at : Some c.in-Some.workflow.now ≡ under n c.args.self.now = c.in-Some.ensures.value ∙ ap (under n) c.self.view_is in
    put-holds (IsOwn m.batch.domain) n new c.args.self.now after
    (same-put n n new new c.args.self.now es after refl refl c.self.view_is (map-put n new es after (w.3 (ap is_some (sym c.in-Some.ensures.value))).0 w.4))
    (own-taken m.batch.domain n c.args.terms.now m c.in-Some.workflow.now new c.take.result c.take.ensures.admitted c.take.ensures.workflow c.take.ensures.sound c.take.ensures.err
    (c.requires.own.each n c.in-Some.workflow.now (sym at)) (own-names m.batch) c.requires.second)
    c.requires.own

pub returns-in-Some-clause-memory : goal.returns-in-Some-clause-memory
returns-in-Some-clause-memory g c = λ e.
    let new = c.take.new.workflow in
    let w = c.get_mut.follows.holds new in
    w.0 ∙ set_value_same _ c.self.inside.workflows.entries new (sym (ap Some (left-memory c.take.result c.in-Some.workflow.now new c.take.ensures.err e) ∙ c.in-Some.ensures.value)) ∙ c.self.view_is

pub returns-then-is_empty-clause-admitted : goal.returns-then-is_empty-clause-admitted
returns-then-is_empty-clause-admitted g c =
    let m = c.args.message in
    let n = m.batch.workflow in
    let at : None ≡ under n c.args.self.now = c.in_default.ensures.value ∙ ap (under n) c.self.view_is in
    let there = ap (λ x. x.entries) c.get_mut.follows.holds-at-none ∙ c.self.view_is in
    subst (λ (x : WorkflowValue). IsAdmitted c.args.terms.now m c.in_ok-admitted.admitted.admission x (workflow_or_empty (under n c.get_mut.follows.lender-at-none.entries))) (c.new-workflow.ensures ∙ ap workflow_or_empty at)
    (subst (IsAdmitted c.args.terms.now m c.in_ok-admitted.admitted.admission c.new-workflow.result) (c.is_empty.ensures c.if-is_empty.true ∙ ap workflow_or_empty (at ∙ ap (under n) (sym there))) c.in_ok-admitted.ensures.admitted)

pub returns-clause-admitted : goal.returns-clause-admitted
returns-clause-admitted g c =
    let m = c.args.message in
    let n = m.batch.workflow in
    let new = c.take-2.new.workflow in
    let at : None ≡ under n c.args.self.now = c.in_default.ensures.value ∙ ap (under n) c.self.view_is in
    let put = same-put n c.in_ok-name.name new new c.args.self.now c.get_mut.follows.lender-at-none.entries c.insert.new.self.entries c.in_ok-name.ensures refl
    (ap (λ x. x.entries) c.get_mut.follows.holds-at-none ∙ c.self.view_is)
    (map-put c.in_ok-name.name new c.get_mut.follows.lender-at-none.entries c.insert.new.self.entries c.in_ok-insert.ensures.updates.0 c.in_ok-insert.ensures.ordered) in
    subst (λ (x : WorkflowValue). IsAdmitted c.args.terms.now m c.in_ok-admitted.admitted.admission x (workflow_or_empty (under n c.insert.new.self.entries))) (c.new-workflow.ensures ∙ ap workflow_or_empty at)
    (subst (IsAdmitted c.args.terms.now m c.in_ok-admitted.admitted.admission c.new-workflow.result) (sym (ap workflow_or_empty (put-at n new c.args.self.now c.insert.new.self.entries put))) c.in_ok-admitted.ensures.admitted)

pub returns-clause-others : goal.returns-clause-others
returns-clause-others g c =
    let n = c.args.message.batch.workflow in
    let new = c.take-2.new.workflow in
    put-others n new c.args.self.now c.insert.new.self.entries
    (same-put n c.in_ok-name.name new new c.args.self.now c.get_mut.follows.lender-at-none.entries c.insert.new.self.entries c.in_ok-name.ensures refl
    (ap (λ x. x.entries) c.get_mut.follows.holds-at-none ∙ c.self.view_is)
    (map-put c.in_ok-name.name new c.get_mut.follows.lender-at-none.entries c.insert.new.self.entries c.in_ok-insert.ensures.updates.0 c.in_ok-insert.ensures.ordered))

pub returns-clause-own : goal.returns-clause-own
returns-clause-own g c =
    let m = c.args.message in
    let n = m.batch.workflow in
    let new = c.take-2.new.workflow in
    put-holds (IsOwn m.batch.domain) n new c.args.self.now c.insert.new.self.entries
    (same-put n c.in_ok-name.name new new c.args.self.now c.get_mut.follows.lender-at-none.entries c.insert.new.self.entries c.in_ok-name.ensures refl
    (ap (λ x. x.entries) c.get_mut.follows.holds-at-none ∙ c.self.view_is)
    (map-put c.in_ok-name.name new c.get_mut.follows.lender-at-none.entries c.insert.new.self.entries c.in_ok-insert.ensures.updates.0 c.in_ok-insert.ensures.ordered))
    (own-taken m.batch.domain n c.args.terms.now m c.new-workflow.result new c.take-2.result c.take-2.ensures.admitted c.take-2.ensures.workflow c.take-2.ensures.sound c.take-2.ensures.err
    (subst (IsOwn m.batch.domain n) (sym c.new-workflow.ensures) (empty-own m.batch.domain n)) (own-names m.batch) c.requires.second)
    c.requires.own
