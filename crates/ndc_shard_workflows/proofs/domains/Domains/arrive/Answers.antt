use Rattle.std.proofs.Common.{◌≡◌, false, Some, None, IfOk, List, [], refl, sym, ◌∙◌, subst, ap}
use Rattle.std.specs.Prelude.{is_some}
use Rattle.ndc_model_cells.specs.Cells.{Cell}
use Rattle.ndc_model_cells.specs.Workflow.{WorkflowValue, workflow_of}
use Rattle.ndc_shard_runs.specs.Kept.{is_due}
use Rattle.ndc_model_cells.specs.Arrival.{arrived_at, arrival_of, learned_by}
use Rattle.ndc_model_cells.specs.declared.job.Arrived.{Arrived}
use Rattle.ndc_event.specs.declared.batch.Batch.{Batch}
use Rattle.ndc_model_sets.specs.Learned.{learned}
use Rattle.ndc_model_sets.specs.Sound.{IsSound}
use Rattle.ndc_model_cells.specs.Messages.{IsNewTo}
use Rattle.ndc_model_cells.specs.Allowed.{MayArrive}
use Rattle.ndc_shard_workflows.specs.Workflow.{after_arrival, answer_to, has_arrived, made_learned}
use Rattle.ndc_shard_workflows.proofs.OkLemmas.{on-ok}
use Rattle.ndc_shard_workflows.specs.Named.{under, IsPut}
use Rattle.ndc_shard_workflows.specs.Workflows.{AreOwn, DomainValue, workflow_or_empty}
use Rattle.ndc_shard_workflows.proofs.ArriveLemmas.{after-there, new-there, sound-there, answer-there, learned-there, cell-there}
use Rattle.ndc_shard_workflows.proofs.DomainLemmas.{none-own}
use Rattle.ndc_shard_workflows.proofs.NameLemmas.{put-holds}
use Rattle.ndc_shard_workflows.proofs.PutLemmas.{map-put, same-put}
use Rattle.ndc_shard_workflows.proofs.domains.Domains.arrive.Goals as goal

pub arrive-requires-clause-own : goal.arrive-requires-clause-own
arrive-requires-clause-own g c = c.self.invariant.each c.args.message.batch.domain c.in-Some.domain.now (sym c.in-Some.ensures.value)

pub arrive-requires-clause-message : goal.arrive-requires-clause-message
arrive-requires-clause-message g c = c.requires.message

pub arrive-requires-clause-second : goal.arrive-requires-clause-second
arrive-requires-clause-second g c = c.requires.own

pub arrive-requires-clause-new : goal.arrive-requires-clause-new
arrive-requires-clause-new g c =
    let m = c.args.message in
    let es = c.self.inside.domains.entries in
    let may = subst (MayArrive m) (sym c.self.view_is) c.requires in
    let at : under m.batch.domain es ≡ Some c.in-Some.domain.now = sym c.in-Some.ensures.value in
    new-there m es c.self.invariant may (Some c.in-Some.domain.now) at

pub arrive-requires-clause-sound : goal.arrive-requires-clause-sound
arrive-requires-clause-sound g c =
    let m = c.args.message in
    let es = c.self.inside.domains.entries in
    let may = subst (MayArrive m) (sym c.self.view_is) c.requires in
    let at : under m.batch.domain es ≡ Some c.in-Some.domain.now = sym c.in-Some.ensures.value in
    sound-there m es c.self.invariant may (Some c.in-Some.domain.now) at

pub arrive-requires-clause-ids : goal.arrive-requires-clause-ids
arrive-requires-clause-ids g c = c.requires.ids

pub returns-in-Some-clause-outcome : goal.returns-in-Some-clause-outcome
returns-in-Some-clause-outcome g c =
    let m = c.args.message in
    let es = c.self.inside.domains.entries in
    let may = subst (MayArrive m) (sym c.self.view_is) c.requires in
    let at : under m.batch.domain es ≡ Some c.in-Some.domain.now = sym c.in-Some.ensures.value in
    subst (λ (x : Arrived). IfOk c.arrive.result (λ received. received.arrival.outcome ≡ x)) (answer-there m es c.self.invariant may (Some c.in-Some.domain.now) at ∙ ap (arrival_of m) c.self.view_is) c.arrive.ensures.outcome

pub returns-in-Some-clause-learned : goal.returns-in-Some-clause-learned
returns-in-Some-clause-learned g c =
    let m = c.args.message in
    let es = c.self.inside.domains.entries in
    let may = subst (MayArrive m) (sym c.self.view_is) c.requires in
    let at : under m.batch.domain es ≡ Some c.in-Some.domain.now = sym c.in-Some.ensures.value in
    subst (λ (x : List Batch). IfOk c.arrive.result (λ received. received.arrival.learned ≡ x)) (learned-there m es c.self.invariant may (Some c.in-Some.domain.now) at ∙ ap (learned_by m) c.self.view_is) c.arrive.ensures.learned

pub invariant_of-self : goal.invariant_of-self
invariant_of-self g c =
    let m = c.args.message in
    let es = c.self.inside.domains.entries in
    let may = subst (MayArrive m) (sym c.self.view_is) c.requires in
    let at : under m.batch.domain es ≡ Some c.in-Some.domain.now = sym c.in-Some.ensures.value in
    let after = (c.get_mut.follows.lender c.arrive.new.self).entries in
    let w = c.get_mut.follows.holds c.arrive.new.self in
    let put : IsPut m.batch.domain c.arrive.new.self es after = map-put m.batch.domain c.arrive.new.self es after (w.3 (ap is_some (sym c.in-Some.ensures.value))).0 w.4 in
    put-holds AreOwn m.batch.domain c.arrive.new.self es after put c.arrive.ensures.own c.self.invariant

pub returns-in-Some-clause-cell : goal.returns-in-Some-clause-cell
returns-in-Some-clause-cell g c =
    let m = c.args.message in
    let es = c.self.inside.domains.entries in
    let may = subst (MayArrive m) (sym c.self.view_is) c.requires in
    let at : under m.batch.domain es ≡ Some c.in-Some.domain.now = sym c.in-Some.ensures.value in
    let after = (c.get_mut.follows.lender c.arrive.new.self).entries in
    let w = c.get_mut.follows.holds c.arrive.new.self in
    let put : IsPut m.batch.domain c.arrive.new.self es after = map-put m.batch.domain c.arrive.new.self es after (w.3 (ap is_some (sym c.in-Some.ensures.value))).0 w.4 in
    on-ok c.arrive.result
    (λ inner. cell-there m es c.self.invariant may (Some c.in-Some.domain.now) at c.arrive.new.self after put
    (put-holds AreOwn m.batch.domain c.arrive.new.self es after put c.arrive.ensures.own c.self.invariant) inner ∙ ap (arrived_at m) c.self.view_is) c.arrive.ensures.ok

pub arrive-requires-2-clause-own : goal.arrive-requires-2-clause-own
arrive-requires-2-clause-own g c = subst (AreOwn c.args.message.batch.domain) (sym c.new-domain.ensures) (none-own c.args.message.batch.domain)

pub arrive-requires-2-clause-message : goal.arrive-requires-2-clause-message
arrive-requires-2-clause-message g c = c.requires.message

pub arrive-requires-2-clause-second : goal.arrive-requires-2-clause-second
arrive-requires-2-clause-second g c = c.requires.own

pub arrive-requires-2-clause-new : goal.arrive-requires-2-clause-new
arrive-requires-2-clause-new g c =
    let m = c.args.message in
    let es = c.self.inside.domains.entries in
    let may = subst (MayArrive m) (sym c.self.view_is) c.requires in
    let at : under m.batch.domain es ≡ None = sym c.in_default.ensures.value in
    subst (λ (ws : DomainValue). has_arrived m.batch.key (workflow_or_empty (under m.batch.workflow ws)) ≡ false → IsNewTo (workflow_or_empty (under m.batch.workflow ws)).arrived m)
    (sym c.new-domain.ensures) (new-there m es c.self.invariant may None at)

pub arrive-requires-2-clause-sound : goal.arrive-requires-2-clause-sound
arrive-requires-2-clause-sound g c =
    let m = c.args.message in
    let es = c.self.inside.domains.entries in
    let may = subst (MayArrive m) (sym c.self.view_is) c.requires in
    let at : under m.batch.domain es ≡ None = sym c.in_default.ensures.value in
    subst (λ (ws : DomainValue). IsSound (learned (after_arrival m (workflow_or_empty (under m.batch.workflow ws))).arrived))
    (sym c.new-domain.ensures) (sound-there m es c.self.invariant may None at)

pub arrive-requires-2-clause-ids : goal.arrive-requires-2-clause-ids
arrive-requires-2-clause-ids g c = c.requires.ids

pub returns-clause-outcome : goal.returns-clause-outcome
returns-clause-outcome g c =
    let m = c.args.message in
    let es = c.self.inside.domains.entries in
    let may = subst (MayArrive m) (sym c.self.view_is) c.requires in
    let at : under m.batch.domain es ≡ None = sym c.in_default.ensures.value in
    c.in_ok-received.ensures.outcome ∙ ap (λ (ws : DomainValue). answer_to m (workflow_or_empty (under m.batch.workflow ws))) c.new-domain.ensures
    ∙ answer-there m es c.self.invariant may None at ∙ ap (arrival_of m) c.self.view_is

pub returns-clause-learned : goal.returns-clause-learned
returns-clause-learned g c =
    let m = c.args.message in
    let es = c.self.inside.domains.entries in
    let may = subst (MayArrive m) (sym c.self.view_is) c.requires in
    let at : under m.batch.domain es ≡ None = sym c.in_default.ensures.value in
    c.in_ok-received.ensures.learned ∙ ap (λ (ws : DomainValue). made_learned m (workflow_or_empty (under m.batch.workflow ws))) c.new-domain.ensures
    ∙ learned-there m es c.self.invariant may None at ∙ ap (learned_by m) c.self.view_is

pub invariant_of-self-2 : goal.invariant_of-self-2
invariant_of-self-2 g c =
    let m = c.args.message in
    let es = c.self.inside.domains.entries in
    let may = subst (MayArrive m) (sym c.self.view_is) c.requires in
    let at : under m.batch.domain es ≡ None = sym c.in_default.ensures.value in
    let after = c.insert.new.self.entries in
    let start = c.get_mut.follows.lender-at-none.entries in
    let put : IsPut m.batch.domain c.arrive-2.new.self es after = same-put m.batch.domain c.in_ok-name.name c.arrive-2.new.self c.arrive-2.new.self es start after c.in_ok-name.ensures refl
    (ap (λ n. n.entries) c.get_mut.follows.holds-at-none) (map-put c.in_ok-name.name c.arrive-2.new.self start after c.in_ok-insert.ensures.updates.0 c.in_ok-insert.ensures.ordered) in
    put-holds AreOwn m.batch.domain c.arrive-2.new.self es after put c.arrive-2.ensures.own c.self.invariant

pub returns-clause-cell : goal.returns-clause-cell
returns-clause-cell g c =
    let m = c.args.message in
    let es = c.self.inside.domains.entries in
    let may = subst (MayArrive m) (sym c.self.view_is) c.requires in
    let at : under m.batch.domain es ≡ None = sym c.in_default.ensures.value in
    let after = c.insert.new.self.entries in
    let start = c.get_mut.follows.lender-at-none.entries in
    let put : IsPut m.batch.domain c.arrive-2.new.self es after = same-put m.batch.domain c.in_ok-name.name c.arrive-2.new.self c.arrive-2.new.self es start after c.in_ok-name.ensures refl
    (ap (λ n. n.entries) c.get_mut.follows.holds-at-none) (map-put c.in_ok-name.name c.arrive-2.new.self start after c.in_ok-insert.ensures.updates.0 c.in_ok-insert.ensures.ordered) in
    cell-there m es c.self.invariant may None at c.arrive-2.new.self after put
    (put-holds AreOwn m.batch.domain c.arrive-2.new.self es after put c.arrive-2.ensures.own c.self.invariant)
    (subst (λ (ws : DomainValue). IsPut m.batch.workflow (after_arrival m (workflow_or_empty (under m.batch.workflow ws))) ws c.arrive-2.new.self) c.new-domain.ensures c.in_ok-received.ensures.ok)
    ∙ ap (arrived_at m) c.self.view_is

pub returns-in-Some-clause-due : goal.returns-in-Some-clause-due
returns-in-Some-clause-due g c =
    let m = c.args.message in
    let es = c.self.inside.domains.entries in
    let may = subst (MayArrive m) (sym c.self.view_is) c.requires in
    let at : under m.batch.domain es ≡ Some c.in-Some.domain.now = sym c.in-Some.ensures.value in
    subst (λ (w : WorkflowValue). IfOk c.arrive.result (λ received. received.may_be_due ≡ false → is_due (learned w.arrived) ≡ false))
    (after-there m es c.self.invariant may (Some c.in-Some.domain.now) at ∙ ap (λ (cell : Cell). workflow_of m.batch.domain m.batch.workflow (arrived_at m cell)) c.self.view_is) c.arrive.ensures.due

pub returns-in-Some-clause-behind : goal.returns-in-Some-clause-behind
returns-in-Some-clause-behind g c =
    let m = c.args.message in
    let es = c.self.inside.domains.entries in
    let may = subst (MayArrive m) (sym c.self.view_is) c.requires in
    let at : under m.batch.domain es ≡ Some c.in-Some.domain.now = sym c.in-Some.ensures.value in
    subst (λ (w : WorkflowValue). IfOk c.arrive.result (λ received. received.is_behind ≡ false → w.waiting ≡ []))
    (after-there m es c.self.invariant may (Some c.in-Some.domain.now) at ∙ ap (λ (cell : Cell). workflow_of m.batch.domain m.batch.workflow (arrived_at m cell)) c.self.view_is) c.arrive.ensures.behind

pub returns-clause-due : goal.returns-clause-due
returns-clause-due g c =
    let m = c.args.message in
    let es = c.self.inside.domains.entries in
    let may = subst (MayArrive m) (sym c.self.view_is) c.requires in
    let at : under m.batch.domain es ≡ None = sym c.in_default.ensures.value in
    subst (λ (w : WorkflowValue). c.in_ok-received.received.may_be_due ≡ false → is_due (learned w.arrived) ≡ false)
    (ap (λ (ws : DomainValue). after_arrival m (workflow_or_empty (under m.batch.workflow ws))) c.new-domain.ensures
    ∙ after-there m es c.self.invariant may None at ∙ ap (λ (cell : Cell). workflow_of m.batch.domain m.batch.workflow (arrived_at m cell)) c.self.view_is) c.in_ok-received.ensures.due

pub returns-clause-behind : goal.returns-clause-behind
returns-clause-behind g c =
    let m = c.args.message in
    let es = c.self.inside.domains.entries in
    let may = subst (MayArrive m) (sym c.self.view_is) c.requires in
    let at : under m.batch.domain es ≡ None = sym c.in_default.ensures.value in
    subst (λ (w : WorkflowValue). c.in_ok-received.received.is_behind ≡ false → w.waiting ≡ [])
    (ap (λ (ws : DomainValue). after_arrival m (workflow_or_empty (under m.batch.workflow ws))) c.new-domain.ensures
    ∙ after-there m es c.self.invariant may None at ∙ ap (λ (cell : Cell). workflow_of m.batch.domain m.batch.workflow (arrived_at m cell)) c.self.view_is) c.in_ok-received.ensures.behind
