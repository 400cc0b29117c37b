use Rattle.std.proofs.Common.{◌≡◌, Some, None, IfOk, false, refl, sym, ◌∙◌, subst, ap}
use Rattle.std.proofs.lemmas.Map.Steps.{set_value_same}
use Rattle.ndc_shard_runs.specs.Kept.{is_due}
use Rattle.ndc_model_sets.specs.Learned.{learned}
use Rattle.ndc_model_cells.specs.Workflow.{WorkflowValue, workflow_of}
use Rattle.ndc_shard_workflows.specs.Workflows.{AreDomains, cell_of}
use Rattle.ndc_shard_workflows.proofs.FindLemmas.{found-under}
use Rattle.ndc_shard_workflows.proofs.domains.Domains.is_due.Goals as goal

pub invariant_of-self : goal.invariant_of-self
invariant_of-self c =
    let es = c.self.inside.domains.entries in
    let w = c.get_mut.follows.holds c.is_due.new.self in
    subst AreDomains (sym (w.0 ∙ set_value_same _ es c.is_due.new.self (sym (ap Some c.is_due.ensures.same ∙ c.in-Some.ensures.value)))) c.self.invariant

pub returns-in-Some-clause-same : goal.returns-in-Some-clause-same
returns-in-Some-clause-same c =
    let es = c.self.inside.domains.entries in
    let w = c.get_mut.follows.holds c.is_due.new.self in
    ap cell_of (w.0 ∙ set_value_same _ es c.is_due.new.self (sym (ap Some c.is_due.ensures.same ∙ c.in-Some.ensures.value))) ∙ c.self.view_is

pub returns-in-Some-clause-due : goal.returns-in-Some-clause-due
returns-in-Some-clause-due c =
    let d = c.args.domain.now in
    let n = c.args.workflow.now in
    subst (λ (w : WorkflowValue). IfOk c.is_due.result (λ due. due ≡ is_due (learned w.arrived)))
    (sym (found-under c.self.inside.domains.entries c.self.invariant d n (Some c.in-Some.found.now) c.in-Some.ensures.value) ∙ ap (workflow_of d n) c.self.view_is) c.is_due.ensures.due

pub returns-clause-due : goal.returns-clause-due
returns-clause-due c =
    let d = c.args.domain.now in
    let n = c.args.workflow.now in
    subst (λ (w : WorkflowValue). false ≡ is_due (learned w.arrived))
    (sym (found-under c.self.inside.domains.entries c.self.invariant d n None c.in_default.ensures.value) ∙ ap (workflow_of d n) c.self.view_is) refl
