use Rattle.std.proofs.Common.{◌≡◌, false, List, [], Some, None, IfOk, OnOk, refl, sym, ◌∙◌, subst, ap}
use Rattle.std.specs.Prelude.{is_some}
use Rattle.std.proofs.lemmas.Map.Steps.{set_value_same}
use Rattle.ndc_event.specs.declared.name.Name.{Name}
use Rattle.ndc_model_cells.specs.Cells.{Cell}
use Rattle.ndc_model_cells.specs.Workflow.{WorkflowValue, workflow_of}
use Rattle.ndc_model_sets.specs.Learned.{learned}
use Rattle.ndc_shard_runs.specs.Kept.{is_due}
use Rattle.ndc_shard_workflows.specs.Admitting.{IsAdmitted}
use Rattle.ndc_shard_workflows.specs.Arriving.{ComesFrom}
use Rattle.ndc_shard_workflows.specs.Named.{IsPut, StayUnder, under}
use Rattle.ndc_shard_workflows.specs.Workflows.{AreOwn, DomainValue, OthersStay, cell_of, workflow_or_empty}
use Rattle.ndc_shard_workflows.proofs.HandedLemmas.{others-stay, put-at}
use Rattle.ndc_shard_workflows.proofs.NameLemmas.{put-holds}
use Rattle.ndc_shard_workflows.proofs.PutLemmas.{map-put, same-put}
use Rattle.ndc_shard_workflows.proofs.WriteLemmas.{found-in}
use Rattle.ndc_shard_workflows.proofs.domains.Domains.admit.Goals as goal

pub admit-requires-clause-own : goal.admit-requires-clause-own
admit-requires-clause-own g c = c.self.invariant.each c.args.message.batch.domain c.in-Some.domain.now (sym c.in-Some.ensures.value)

pub invariant_of-self : goal.invariant_of-self
invariant_of-self g c =
    let d = c.args.message.batch.domain in
    let es = c.self.inside.domains.entries in
    let new = c.admit.new.self in
    let after = (c.get_mut.follows.lender new).entries in
    let w = c.get_mut.follows.holds new in
    put-holds AreOwn d new es after (map-put d new es after (w.3 (ap is_some (sym c.in-Some.ensures.value))).0 w.4) c.admit.ensures.own c.self.invariant

pub returns-in-Some-clause-admitted : goal.returns-in-Some-clause-admitted
returns-in-Some-clause-admitted g c =
    let m = c.args.message in
    let d = m.batch.domain in
    let n = m.batch.workflow in
    let es = c.self.inside.domains.entries in
    let new = c.admit.new.self in
    let after = (c.get_mut.follows.lender new).entries in
    let w = c.get_mut.follows.holds new in
    let put : IsPut d new es after = map-put d new es after (w.3 (ap is_some (sym c.in-Some.ensures.value))).0 w.4 in
    let then = put-holds AreOwn d new es after put c.admit.ensures.own c.self.invariant in
    let was = sym (found-in d n es c.self.invariant (Some c.in-Some.domain.now) (sym c.in-Some.ensures.value)) ∙ ap (workflow_of d n) c.self.view_is in
    let is = sym (found-in d n after then (Some new) (put-at d new es after put)) in
    subst (λ (x : WorkflowValue). IfOk c.admit.result (λ it. IsAdmitted c.args.terms.now m it.admission x (workflow_of d n (cell_of after)))) was
    (subst (λ (x : WorkflowValue). IfOk c.admit.result (λ it. IsAdmitted c.args.terms.now m it.admission (workflow_or_empty (under n c.in-Some.domain.now)) x)) is c.admit.ensures.admitted)

pub returns-in-Some-clause-due : goal.returns-in-Some-clause-due
returns-in-Some-clause-due g c =
    let m = c.args.message in
    let d = m.batch.domain in
    let n = m.batch.workflow in
    let es = c.self.inside.domains.entries in
    let new = c.admit.new.self in
    let after = (c.get_mut.follows.lender new).entries in
    let w = c.get_mut.follows.holds new in
    let put : IsPut d new es after = map-put d new es after (w.3 (ap is_some (sym c.in-Some.ensures.value))).0 w.4 in
    let then = put-holds AreOwn d new es after put c.admit.ensures.own c.self.invariant in
    subst (λ (x : WorkflowValue). IfOk c.admit.result (λ it. it.may_be_due ≡ false → is_due (learned x.arrived) ≡ false)) (sym (found-in d n after then (Some new) (put-at d new es after put))) c.admit.ensures.due

pub returns-in-Some-clause-behind : goal.returns-in-Some-clause-behind
returns-in-Some-clause-behind g c =
    let m = c.args.message in
    let d = m.batch.domain in
    let n = m.batch.workflow in
    let es = c.self.inside.domains.entries in
    let new = c.admit.new.self in
    let after = (c.get_mut.follows.lender new).entries in
    let w = c.get_mut.follows.holds new in
    let put : IsPut d new es after = map-put d new es after (w.3 (ap is_some (sym c.in-Some.ensures.value))).0 w.4 in
    let then = put-holds AreOwn d new es after put c.admit.ensures.own c.self.invariant in
    subst (λ (x : WorkflowValue). IfOk c.admit.result (λ it. it.is_behind ≡ false → x.waiting ≡ [])) (sym (found-in d n after then (Some new) (put-at d new es after put))) c.admit.ensures.behind

pub returns-in-Some-clause-comes : goal.returns-in-Some-clause-comes
returns-in-Some-clause-comes g c =
    let m = c.args.message in
    let d = m.batch.domain in
    let n = m.batch.workflow in
    let es = c.self.inside.domains.entries in
    let new = c.admit.new.self in
    let after = (c.get_mut.follows.lender new).entries in
    let w = c.get_mut.follows.holds new in
    let put : IsPut d new es after = map-put d new es after (w.3 (ap is_some (sym c.in-Some.ensures.value))).0 w.4 in
    let then = put-holds AreOwn d new es after put c.admit.ensures.own c.self.invariant in
    let was = sym (found-in d n es c.self.invariant (Some c.in-Some.domain.now) (sym c.in-Some.ensures.value)) ∙ ap (workflow_of d n) c.self.view_is in
    let is = sym (found-in d n after then (Some new) (put-at d new es after put)) in
    subst (λ (x : WorkflowValue). OnOk c.admit.result (ComesFrom (learned x.arrived) (learned (workflow_of d n (cell_of after)).arrived))) was
    (subst (λ (x : WorkflowValue). OnOk c.admit.result (ComesFrom (learned (workflow_or_empty (under n c.in-Some.domain.now)).arrived) (learned x.arrived))) is c.admit.ensures.comes)

pub returns-in-Some-clause-others : goal.returns-in-Some-clause-others
returns-in-Some-clause-others g c =
    let b = c.args.message.batch in
    let d = b.domain in
    let es = c.self.inside.domains.entries in
    let new = c.admit.new.self in
    let after = (c.get_mut.follows.lender new).entries in
    let w = c.get_mut.follows.holds new in
    let put : IsPut d new es after = map-put d new es after (w.3 (ap is_some (sym c.in-Some.ensures.value))).0 w.4 in
    let then = put-holds AreOwn d new es after put c.admit.ensures.own c.self.invariant in
    subst (λ (cell : Cell). OthersStay b cell (cell_of after)) c.self.view_is
    (others-stay es after c.self.invariant then b (Some c.in-Some.domain.now) (sym c.in-Some.ensures.value) new put c.admit.ensures.others)

pub returns-in-Some-clause-memory : goal.returns-in-Some-clause-memory
returns-in-Some-clause-memory g c = λ e.
    let es = c.self.inside.domains.entries in
    let new = c.admit.new.self in
    let w = c.get_mut.follows.holds new in
    ap cell_of (w.0 ∙ set_value_same _ es new (sym (ap Some (c.admit.ensures.memory e) ∙ c.in-Some.ensures.value))) ∙ c.self.view_is

pub returns-then-is_empty-clause-admitted : goal.returns-then-is_empty-clause-admitted
returns-then-is_empty-clause-admitted g c =
    let m = c.args.message in
    let d = m.batch.domain in
    let n = m.batch.workflow in
    let es = c.self.inside.domains.entries in
    let none = found-in d n es c.self.invariant None (sym c.in_default.ensures.value) in
    let was = ap (λ (ws : DomainValue). workflow_or_empty (under n ws)) c.new-domain.ensures ∙ sym none ∙ ap (workflow_of d n) c.self.view_is in
    let is = ap (λ (ws : DomainValue). workflow_or_empty (under n ws)) (c.is_empty.ensures c.if-is_empty.true) ∙ sym none
    ∙ ap (λ (l : List (Name × DomainValue)). workflow_of d n (cell_of l)) (sym (ap (λ x. x.entries) c.get_mut.follows.holds-at-none)) in
    subst (λ (x : WorkflowValue). IsAdmitted c.args.terms.now m c.in_ok-admitted.admitted.admission x (workflow_of d n (cell_of c.get_mut.follows.lender-at-none.entries))) was
    (subst (IsAdmitted c.args.terms.now m c.in_ok-admitted.admitted.admission (workflow_or_empty (under n c.new-domain.result))) is c.in_ok-admitted.ensures.admitted)

pub returns-then-is_empty-clause-due : goal.returns-then-is_empty-clause-due
returns-then-is_empty-clause-due g c =
    let d = c.args.message.batch.domain in
    let n = c.args.message.batch.workflow in
    let es = c.self.inside.domains.entries in
    let is = ap (λ (ws : DomainValue). workflow_or_empty (under n ws)) (c.is_empty.ensures c.if-is_empty.true) ∙ sym (found-in d n es c.self.invariant None (sym c.in_default.ensures.value))
    ∙ ap (λ (l : List (Name × DomainValue)). workflow_of d n (cell_of l)) (sym (ap (λ x. x.entries) c.get_mut.follows.holds-at-none)) in
    subst (λ (x : WorkflowValue). c.in_ok-admitted.admitted.may_be_due ≡ false → is_due (learned x.arrived) ≡ false) is c.in_ok-admitted.ensures.due

pub returns-then-is_empty-clause-behind : goal.returns-then-is_empty-clause-behind
returns-then-is_empty-clause-behind g c =
    let d = c.args.message.batch.domain in
    let n = c.args.message.batch.workflow in
    let es = c.self.inside.domains.entries in
    let is = ap (λ (ws : DomainValue). workflow_or_empty (under n ws)) (c.is_empty.ensures c.if-is_empty.true) ∙ sym (found-in d n es c.self.invariant None (sym c.in_default.ensures.value))
    ∙ ap (λ (l : List (Name × DomainValue)). workflow_of d n (cell_of l)) (sym (ap (λ x. x.entries) c.get_mut.follows.holds-at-none)) in
    subst (λ (x : WorkflowValue). c.in_ok-admitted.admitted.is_behind ≡ false → x.waiting ≡ []) is c.in_ok-admitted.ensures.behind

pub returns-then-is_empty-clause-comes : goal.returns-then-is_empty-clause-comes
returns-then-is_empty-clause-comes g c =
    let d = c.args.message.batch.domain in
    let n = c.args.message.batch.workflow in
    let es = c.self.inside.domains.entries in
    let none = found-in d n es c.self.invariant None (sym c.in_default.ensures.value) in
    let was = ap (λ (ws : DomainValue). workflow_or_empty (under n ws)) c.new-domain.ensures ∙ sym none ∙ ap (workflow_of d n) c.self.view_is in
    let is = ap (λ (ws : DomainValue). workflow_or_empty (under n ws)) (c.is_empty.ensures c.if-is_empty.true) ∙ sym none
    ∙ ap (λ (l : List (Name × DomainValue)). workflow_of d n (cell_of l)) (sym (ap (λ x. x.entries) c.get_mut.follows.holds-at-none)) in
    subst (λ (x : WorkflowValue). ComesFrom (learned x.arrived) (learned (workflow_of d n (cell_of c.get_mut.follows.lender-at-none.entries)).arrived)) was
    (subst (λ (x : WorkflowValue). ComesFrom (learned (workflow_or_empty (under n c.new-domain.result)).arrived) (learned x.arrived)) is c.in_ok-admitted.ensures.comes)

pub invariant_of-self-2 : goal.invariant_of-self-2
invariant_of-self-2 g c =
    let d = c.args.message.batch.domain in
    let es = c.self.inside.domains.entries in
    let new = c.admit-2.new.self in
    let start = c.get_mut.follows.lender-at-none.entries in
    let after = c.insert.new.self.entries in
    let put : IsPut d new es after = same-put d c.in_ok-name.name new new es start after c.in_ok-name.ensures refl (ap (λ x. x.entries) c.get_mut.follows.holds-at-none)
    (map-put c.in_ok-name.name new start after c.in_ok-insert.ensures.updates.0 c.in_ok-insert.ensures.ordered) in
    put-holds AreOwn d new es after put c.in_ok-admitted.ensures.own c.self.invariant

pub returns-clause-admitted : goal.returns-clause-admitted
returns-clause-admitted g c =
    let m = c.args.message in
    let d = m.batch.domain in
    let n = m.batch.workflow in
    let es = c.self.inside.domains.entries in
    let new = c.admit-2.new.self in
    let start = c.get_mut.follows.lender-at-none.entries in
    let after = c.insert.new.self.entries in
    let put : IsPut d new es after = same-put d c.in_ok-name.name new new es start after c.in_ok-name.ensures refl (ap (λ x. x.entries) c.get_mut.follows.holds-at-none)
    (map-put c.in_ok-name.name new start after c.in_ok-insert.ensures.updates.0 c.in_ok-insert.ensures.ordered) in
    let then = put-holds AreOwn d new es after put c.in_ok-admitted.ensures.own c.self.invariant in
    let none = found-in d n es c.self.invariant None (sym c.in_default.ensures.value) in
    let was = ap (λ (ws : DomainValue). workflow_or_empty (under n ws)) c.new-domain.ensures ∙ sym none ∙ ap (workflow_of d n) c.self.view_is in
    let is = sym (found-in d n after then (Some new) (put-at d new es after put)) in
    subst (λ (x : WorkflowValue). IsAdmitted c.args.terms.now m c.in_ok-admitted.admitted.admission x (workflow_of d n (cell_of after))) was
    (subst (IsAdmitted c.args.terms.now m c.in_ok-admitted.admitted.admission (workflow_or_empty (under n c.new-domain.result))) is c.in_ok-admitted.ensures.admitted)

pub returns-clause-due : goal.returns-clause-due
returns-clause-due g c =
    let d = c.args.message.batch.domain in
    let n = c.args.message.batch.workflow in
    let es = c.self.inside.domains.entries in
    let new = c.admit-2.new.self in
    let start = c.get_mut.follows.lender-at-none.entries in
    let after = c.insert.new.self.entries in
    let put : IsPut d new es after = same-put d c.in_ok-name.name new new es start after c.in_ok-name.ensures refl (ap (λ x. x.entries) c.get_mut.follows.holds-at-none)
    (map-put c.in_ok-name.name new start after c.in_ok-insert.ensures.updates.0 c.in_ok-insert.ensures.ordered) in
    let then = put-holds AreOwn d new es after put c.in_ok-admitted.ensures.own c.self.invariant in
    subst (λ (x : WorkflowValue). c.in_ok-admitted.admitted.may_be_due ≡ false → is_due (learned x.arrived) ≡ false) (sym (found-in d n after then (Some new) (put-at d new es after put))) c.in_ok-admitted.ensures.due

pub returns-clause-behind : goal.returns-clause-behind
returns-clause-behind g c =
    let d = c.args.message.batch.domain in
    let n = c.args.message.batch.workflow in
    let es = c.self.inside.domains.entries in
    let new = c.admit-2.new.self in
    let start = c.get_mut.follows.lender-at-none.entries in
    let after = c.insert.new.self.entries in
    let put : IsPut d new es after = same-put d c.in_ok-name.name new new es start after c.in_ok-name.ensures refl (ap (λ x. x.entries) c.get_mut.follows.holds-at-none)
    (map-put c.in_ok-name.name new start after c.in_ok-insert.ensures.updates.0 c.in_ok-insert.ensures.ordered) in
    let then = put-holds AreOwn d new es after put c.in_ok-admitted.ensures.own c.self.invariant in
    subst (λ (x : WorkflowValue). c.in_ok-admitted.admitted.is_behind ≡ false → x.waiting ≡ []) (sym (found-in d n after then (Some new) (put-at d new es after put))) c.in_ok-admitted.ensures.behind

pub returns-clause-comes : goal.returns-clause-comes
returns-clause-comes g c =
    let d = c.args.message.batch.domain in
    let n = c.args.message.batch.workflow in
    let es = c.self.inside.domains.entries in
    let new = c.admit-2.new.self in
    let start = c.get_mut.follows.lender-at-none.entries in
    let after = c.insert.new.self.entries in
    let put : IsPut d new es after = same-put d c.in_ok-name.name new new es start after c.in_ok-name.ensures refl (ap (λ x. x.entries) c.get_mut.follows.holds-at-none)
    (map-put c.in_ok-name.name new start after c.in_ok-insert.ensures.updates.0 c.in_ok-insert.ensures.ordered) in
    let then = put-holds AreOwn d new es after put c.in_ok-admitted.ensures.own c.self.invariant in
    let was = ap (λ (ws : DomainValue). workflow_or_empty (under n ws)) c.new-domain.ensures ∙ sym (found-in d n es c.self.invariant None (sym c.in_default.ensures.value)) ∙ ap (workflow_of d n) c.self.view_is in
    subst (λ (x : WorkflowValue). ComesFrom (learned x.arrived) (learned (workflow_of d n (cell_of after)).arrived)) was
    (subst (λ (x : WorkflowValue). ComesFrom (learned (workflow_or_empty (under n c.new-domain.result)).arrived) (learned x.arrived)) (sym (found-in d n after then (Some new) (put-at d new es after put))) c.in_ok-admitted.ensures.comes)

pub returns-clause-others : goal.returns-clause-others
returns-clause-others g c =
    let b = c.args.message.batch in
    let d = b.domain in
    let es = c.self.inside.domains.entries in
    let new = c.admit-2.new.self in
    let start = c.get_mut.follows.lender-at-none.entries in
    let after = c.insert.new.self.entries in
    let put : IsPut d new es after = same-put d c.in_ok-name.name new new es start after c.in_ok-name.ensures refl (ap (λ x. x.entries) c.get_mut.follows.holds-at-none)
    (map-put c.in_ok-name.name new start after c.in_ok-insert.ensures.updates.0 c.in_ok-insert.ensures.ordered) in
    let then = put-holds AreOwn d new es after put c.in_ok-admitted.ensures.own c.self.invariant in
    subst (λ (cell : Cell). OthersStay b cell (cell_of after)) c.self.view_is
    (others-stay es after c.self.invariant then b None (sym c.in_default.ensures.value) new put (subst (λ (ws : DomainValue). StayUnder b.workflow ws new) c.new-domain.ensures c.in_ok-admitted.ensures.others))
