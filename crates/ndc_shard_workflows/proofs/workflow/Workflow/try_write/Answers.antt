use Rattle.std.proofs.Common.{rules, List, Some, Err, not, sym, ◌∙◌, subst, ap, if◌then◌else◌}
use Rattle.std.specs.Option.{option_copied}
use Rattle.ndc_event.specs.declared.batch.Batch.{Batch}
use Rattle.ndc_model_cells.specs.Messages.{carrying, IsNewTo}
use Rattle.ndc_model_cells.specs.Workflow.{WorkflowValue}
use Rattle.ndc_model_sets.specs.Learned.{has_key}
use Rattle.ndc_shard_runs.specs.declared.misfit.Misfit.TheVariants.{ParentUnfit}
use Rattle.ndc_shard_workflows.specs.Admitting.{fit_in}
use Rattle.ndc_shard_workflows.specs.Refused.{IsUnawaited}
use Rattle.ndc_shard_workflows.specs.Workflow.{beside, with_written}
use Rattle.ndc_shard_workflows.specs.Writing.{MayBeWrittenTogether}
use Rattle.ndc_shard_workflows.proofs.PutOffLemmas.{new-to-known}
use Rattle.ndc_shard_workflows.proofs.TriedLemmas.{fit-next, if-none, learned-view, tried-may, tried-put-off, tried-written}
use Rattle.ndc_shard_workflows.proofs.workflow.Workflow.try_write.Goals as goal

pub returns-in-Some-clause-refused : goal.returns-in-Some-clause-refused
returns-in-Some-clause-refused g c = record {
  own = c.in-Some.ensures.some;
  there = c.in-Some.ensures.there;
  waits_is = ap not (c.has-waits.ensures ∙ ap (has_key (Some c.in-Some.key)) (learned-view c.self.inside.runs c.self.inside.waiting c.self.invariant.apart c.args.self.now c.self.view_is));
}

pub returns-then-not-is_reached-clause-refused : goal.returns-then-not-is_reached-clause-refused
returns-then-not-is_reached-clause-refused g c =
    let new = carrying c.args.batch.now (option_copied c.args.second) in (
      c.in_default.ensures.none,
      subst (IsUnawaited new) c.self.view_is (if-none c.in_ok-key.field-0 c.in_default-2.is c.in_ok-key.ensures.none),
      fit-next c.self.inside.runs c.self.inside.waiting c.self.invariant.apart new c.args.self.now c.self.view_is ParentUnfit
          (ap (λ t. if t then fit_in c.self.inside.runs new else Err ParentUnfit) (sym c.is_reached.ensures ∙ c.if-not-is_reached.true)),
    )

pub fit-requires-clause-fresh : goal.fit-requires-clause-fresh
fit-requires-clause-fresh g c =
    let new = carrying c.args.batch.now (option_copied c.args.second) in
    new-to-known c.self.inside.runs c.self.inside.waiting c.self.invariant.apart new (subst (λ (w : WorkflowValue). IsNewTo w.arrived new) (sym c.self.view_is) c.in_default.ensures.none)

pub returns-in-Err : goal.returns-in-Err
returns-in-Err g c =
    let new = carrying c.args.batch.now (option_copied c.args.second) in
    let none = if-none c.in_ok-key.field-0 c.in_default-2.is c.in_ok-key.ensures.none in record {
      may = tt;
      ok = tt;
      refused = (
        c.in_default.ensures.none,
        subst (IsUnawaited new) c.self.view_is none,
        fit-next c.self.inside.runs c.self.inside.waiting c.self.invariant.apart new c.args.self.now c.self.view_is c.in-Err.misfit
            (ap (λ t. if t then fit_in c.self.inside.runs new else Err ParentUnfit) (sym c.is_reached.ensures ∙ c.if-not-is_reached.false) ∙ c.in-Err.ensures.answer (search rules)),
      );
      err = ap (λ (l : List Batch). beside l c.self.inside.waiting) c.in-Err.ensures.err ∙ c.self.view_is;
    }

pub invariant_of-self-2 : goal.invariant_of-self-2
invariant_of-self-2 g c =
    let new = carrying c.args.batch.now (option_copied c.args.second) in
    let fresh = subst (λ (w : WorkflowValue). IsNewTo w.arrived new) (sym c.self.view_is) c.in_default.ensures.none in
    record {
      apart = tried-put-off c.self.inside.runs c.self.inside.waiting c.self.invariant.apart new c.requires fresh (sym c.is_reached.ensures ∙ c.if-not-is_reached.false)
          (if-none c.in_ok-key.field-0 c.in_default-2.is c.in_ok-key.ensures.none) c.fit.new.runs c.in-Ok.ensures.ok c.is_sound.ensures;
      small = c.self.invariant.small;
    }

pub returns-clause-may : goal.returns-clause-may
returns-clause-may g c =
    let new = carrying c.args.batch.now (option_copied c.args.second) in
    let fresh = subst (λ (w : WorkflowValue). IsNewTo w.arrived new) (sym c.self.view_is) c.in_default.ensures.none in
    subst (MayBeWrittenTogether new) c.self.view_is
    (tried-may c.self.inside.runs c.self.inside.waiting c.self.invariant.apart new c.requires fresh (sym c.is_reached.ensures ∙ c.if-not-is_reached.false)
    (if-none c.in_ok-key.field-0 c.in_default-2.is c.in_ok-key.ensures.none) c.fit.new.runs c.in-Ok.ensures.ok c.is_sound.ensures)

pub returns-clause-ok : goal.returns-clause-ok
returns-clause-ok g c =
    let new = carrying c.args.batch.now (option_copied c.args.second) in
    let fresh = subst (λ (w : WorkflowValue). IsNewTo w.arrived new) (sym c.self.view_is) c.in_default.ensures.none in
    tried-written c.self.inside.runs c.self.inside.waiting c.self.invariant.apart new c.requires fresh (sym c.is_reached.ensures ∙ c.if-not-is_reached.false)
    (if-none c.in_ok-key.field-0 c.in_default-2.is c.in_ok-key.ensures.none) c.fit.new.runs c.in-Ok.ensures.ok c.is_sound.ensures
    ∙ ap (with_written new) c.self.view_is
