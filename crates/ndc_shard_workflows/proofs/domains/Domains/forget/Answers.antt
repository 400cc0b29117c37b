use Rattle.std.proofs.Common.{◌≡◌, Some, None, IfOk, false, refl, sym, ◌∙◌, subst, ap}
use Rattle.std.specs.Prelude.{is_some}
use Rattle.std.proofs.lemmas.Map.Steps.{set_value_same}
use Rattle.ndc_model_cells.specs.Cells.{Cell}
use Rattle.ndc_model_cells.specs.Workflow.{WorkflowValue, workflow_of}
use Rattle.ndc_shard_workflows.specs.Forgetting.{is_put_off, without}
use Rattle.ndc_shard_workflows.specs.Named.{IsPut, under}
use Rattle.ndc_shard_workflows.specs.Workflows.{AreOwn, OthersStay, cell_of, workflow_or_empty}
use Rattle.ndc_shard_workflows.proofs.FindLemmas.{found-under}
use Rattle.ndc_shard_workflows.proofs.ForgetLemmas.{err-then, named_batch, ok-then}
use Rattle.ndc_shard_workflows.proofs.HandedLemmas.{others-stay, put-at}
use Rattle.ndc_shard_workflows.proofs.NameLemmas.{put-holds}
use Rattle.ndc_shard_workflows.proofs.PutLemmas.{map-put}
use Rattle.ndc_shard_workflows.proofs.WriteLemmas.{found-in}
use Rattle.ndc_shard_workflows.proofs.domains.Domains.forget.Goals as goal

pub invariant_of-self : goal.invariant_of-self
invariant_of-self c =
    let d = c.args.domain.now in
    let es = c.self.inside.domains.entries in
    let new = c.forget.new.self in
    let after = (c.get_mut.follows.lender new).entries in
    let w = c.get_mut.follows.holds new in
    put-holds AreOwn d new es after (map-put d new es after (w.3 (ap is_some (sym c.in-Some.ensures.value))).0 w.4)
    (c.forget.ensures.own d (c.self.invariant.each d c.in-Some.found.now (sym c.in-Some.ensures.value))) c.self.invariant

pub returns-in-Some-clause-dropped : goal.returns-in-Some-clause-dropped
returns-in-Some-clause-dropped c =
    let d = c.args.domain.now in
    let n = c.args.workflow.now in
    subst (λ (w : WorkflowValue). IfOk c.forget.result (λ dropped. dropped ≡ is_put_off c.args.key w))
    (sym (found-under c.self.inside.domains.entries c.self.invariant d n (Some c.in-Some.found.now) c.in-Some.ensures.value) ∙ ap (workflow_of d n) c.self.view_is) c.forget.ensures.dropped

pub returns-in-Some-clause-ok : goal.returns-in-Some-clause-ok
returns-in-Some-clause-ok c =
    let d = c.args.domain.now in
    let n = c.args.workflow.now in
    let b = named_batch d n c.args.key in
    let es = c.self.inside.domains.entries in
    let new = c.forget.new.self in
    let after = (c.get_mut.follows.lender new).entries in
    let w = c.get_mut.follows.holds new in
    let put : IsPut d new es after = map-put d new es after (w.3 (ap is_some (sym c.in-Some.ensures.value))).0 w.4 in
    let then = put-holds AreOwn d new es after put (c.forget.ensures.own d (c.self.invariant.each d c.in-Some.found.now (sym c.in-Some.ensures.value))) c.self.invariant in
    let was = sym (found-in d n es c.self.invariant (Some c.in-Some.found.now) (sym c.in-Some.ensures.value)) ∙ ap (workflow_of d n) c.self.view_is in
    let is = found-in d n after then (Some new) (put-at d new es after put) in
    let others : OthersStay b c.args.self.now (cell_of after) = subst (λ (cell : Cell). OthersStay b cell (cell_of after)) c.self.view_is
    (others-stay es after c.self.invariant then b (Some c.in-Some.found.now) (sym c.in-Some.ensures.value) new put c.forget.ensures.others) in
    ok-then c.forget.result (workflow_or_empty (under n new) ≡ without c.args.key (workflow_or_empty (under n c.in-Some.found.now))) _
    (λ e. record { own = is ∙ e ∙ ap (without c.args.key) was; others = others }) c.forget.ensures.forgotten

pub returns-in-Some-clause-err : goal.returns-in-Some-clause-err
returns-in-Some-clause-err c =
    let es = c.self.inside.domains.entries in
    let new = c.forget.new.self in
    let w = c.get_mut.follows.holds new in
    err-then c.forget.result _ _ (λ same. ap cell_of (w.0 ∙ set_value_same _ es new (sym (ap Some same ∙ c.in-Some.ensures.value))) ∙ c.self.view_is) c.forget.ensures.err

pub returns-clause-dropped : goal.returns-clause-dropped
returns-clause-dropped c =
    let d = c.args.domain.now in
    let n = c.args.workflow.now in
    subst (λ (w : WorkflowValue). false ≡ is_put_off c.args.key w)
    (sym (found-under c.self.inside.domains.entries c.self.invariant d n None c.in_default.ensures.value) ∙ ap (workflow_of d n) c.self.view_is) refl

pub returns-clause-ok : goal.returns-clause-ok
returns-clause-ok c =
    let d = c.args.domain.now in
    let n = c.args.workflow.now in
    let same = ap (λ x. cell_of x.entries) c.get_mut.follows.holds-at-none ∙ c.self.view_is in
    record {
      own = ap (workflow_of d n) same ∙ subst (λ (w : WorkflowValue). w ≡ without c.args.key w)
          (sym (found-under c.self.inside.domains.entries c.self.invariant d n None c.in_default.ensures.value) ∙ ap (workflow_of d n) c.self.view_is) refl;
      others = λ x y e. ap (workflow_of x y) same;
    }
