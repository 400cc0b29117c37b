use Rattle.std.proofs.Common.{rules, List, Option, Some, refl, sym, ◌∙◌, ap, subst}
use Rattle.std.specs.List.{AllByRecursion}
use Rattle.ndc_event.specs.declared.batch.Batch.{Batch}
use Rattle.ndc_model_cells.specs.declared.message.Message.{Message}
use Rattle.ndc_model_cells.specs.Messages.{batches_of, carrying, HasSmallIds}
use Rattle.ndc_shard_waiting.specs.Learning.{ArePutOff}
use Rattle.ndc_shard_waiting.specs.Waiting.{freed, missing_from, still_put_off}
use Rattle.ndc_shard_workflows.specs.Admitting.{is_whole}
use Rattle.ndc_shard_workflows.specs.Settling.{CanSettle}
use Rattle.ndc_shard_workflows.specs.Workflow.{beside}
use Rattle.ndc_shard_workflows.proofs.AdmittedLemmas.{come-on, come-same}
use Rattle.ndc_shard_workflows.proofs.PutOffLemmas.{can-wait, new-to-known, new-to-waiting, put-off-beside, put-off-small}
use Rattle.ndc_shard_workflows.proofs.SettleLemmas.{can-begin, is-early, is-learned, is-put-off, tried-refused-as}
use Rattle.ndc_shard_workflows.proofs.admitting.admit.Goals as goal

pub returns-then-not-may_wait-clause-admitted : goal.returns-then-not-may_wait-clause-admitted
returns-then-not-may_wait-clause-admitted g c = (
  is-early c.args.runs.now c.args.waiting.now c.requires.apart c.args.message
      (ap (λ (o : Option Batch). is_whole (carrying c.args.message.batch o)) (sym c.as_ref.ensures) ∙ sym c.is_whole.ensures ∙ c.if-not-is_whole.false)
      (sym c.is_reached.ensures ∙ c.if-not-is_reached.true),
  c.if-not-may_wait.true,
  refl,
)

pub returns-then-not-is_reached-clause-admitted : goal.returns-then-not-is_reached-clause-admitted
returns-then-not-is_reached-clause-admitted g c = (
  is-put-off c.args.runs.now c.args.waiting.now c.requires.apart c.args.message c.requires.message c.requires.new
      (ap (λ (o : Option Batch). is_whole (carrying c.args.message.batch o)) (sym c.as_ref.ensures) ∙ sym c.is_whole.ensures ∙ c.if-not-is_whole.false)
      (sym c.is_reached.ensures ∙ c.if-not-is_reached.true) c.missing-missing.new.self c.missing-missing.result (c.missing-missing.ensures.same ∙ c.in_ok-put.ensures.ok)
      (c.missing-missing.ensures.missing ∙ ap (λ (l : List Message). missing_from (Some c.args.message.batch.key) (batches_of l)) c.in_ok-put.ensures.ok),
  c.if-not-may_wait.false,
)

pub returns-then-not-is_reached-clause-apart : goal.returns-then-not-is_reached-clause-apart
returns-then-not-is_reached-clause-apart g c =
    subst (ArePutOff c.args.runs.now) (sym (c.missing-missing.ensures.same ∙ c.in_ok-put.ensures.ok))
    (put-off-beside c.args.runs.now c.args.waiting.now c.requires.apart c.args.message c.requires.message c.requires.new (sym c.is_reached.ensures ∙ c.if-not-is_reached.true))

pub returns-then-not-is_reached-clause-small : goal.returns-then-not-is_reached-clause-small
returns-then-not-is_reached-clause-small g c =
    subst (λ (l : List Message). AllByRecursion HasSmallIds (batches_of l)) (sym (c.missing-missing.ensures.same ∙ c.in_ok-put.ensures.ok))
    (put-off-small c.args.runs.now c.args.waiting.now c.requires.apart c.args.message c.requires.message c.requires.new (sym c.is_reached.ensures ∙ c.if-not-is_reached.true) c.requires.ids c.requires.small)

pub fit_whole-requires-clause-whole : goal.fit_whole-requires-clause-whole
fit_whole-requires-clause-whole g c =
    ap (λ (o : Option Batch). is_whole (carrying c.args.message.batch o)) (sym c.as_ref.ensures) ∙ sym c.is_whole.ensures ∙ c.if-not-is_whole.false

pub fit_whole-requires-clause-fresh : goal.fit_whole-requires-clause-fresh
fit_whole-requires-clause-fresh g c = new-to-known c.args.runs.now c.args.waiting.now c.requires.apart c.args.message c.requires.new

pub put-requires-clause-waits : goal.put-requires-clause-waits
put-requires-clause-waits g c =
    can-wait c.args.runs.now c.args.waiting.now c.requires.apart c.args.message c.requires.message c.requires.new (sym c.is_reached.ensures ∙ c.if-not-is_reached.true)

pub put-requires-clause-new : goal.put-requires-clause-new
put-requires-clause-new g c = new-to-waiting c.args.runs.now c.args.waiting.now c.requires.apart c.args.message c.requires.new

pub go_on-requires-clause-new : goal.go_on-requires-clause-new
go_on-requires-clause-new g c = new-to-waiting c.args.runs.now c.args.waiting.now c.requires.apart c.args.message c.requires.new

pub go_on-requires-clause-can : goal.go_on-requires-clause-can
go_on-requires-clause-can g c =
    subst (λ (known : List Batch). CanSettle known (still_put_off c.args.message c.args.waiting.now) (freed c.args.message c.args.waiting.now))
    (sym c.in-Ok.ensures.ok)
    (can-begin c.args.runs.now c.args.waiting.now c.args.message c.requires.apart c.requires.message (new-to-known c.args.runs.now c.args.waiting.now c.requires.apart c.args.message c.requires.new)
    (new-to-waiting c.args.runs.now c.args.waiting.now c.requires.apart c.args.message c.requires.new) (sym c.is_reached.ensures ∙ c.if-not-is_reached.false) c.requires.ids c.requires.small)

pub returns-in-Ok-go_on-clause-admitted : goal.returns-in-Ok-go_on-clause-admitted
returns-in-Ok-go_on-clause-admitted g c =
    is-learned c.args.runs.now c.args.waiting.now c.requires.apart c.args.message (sym c.is_reached.ensures ∙ c.if-not-is_reached.false) c.in-Ok.field-0
    c.in-Ok.ensures.answer c.in-Ok-go_on.admission c.go_on.new.runs c.fit_whole.new.runs c.go_on.new.waiting
    c.args.may_wait c.in-Ok.ensures.ok c.in-Ok-go_on.ensures.settled

pub returns-in-Ok-go_on-clause-comes : goal.returns-in-Ok-go_on-clause-comes
returns-in-Ok-go_on-clause-comes g c =
    come-on c.args.runs.now c.args.waiting.now c.args.message c.requires.apart c.requires.message c.requires.new (sym c.is_reached.ensures ∙ c.if-not-is_reached.false) c.requires.ids c.requires.small c.in-Ok.field-0
    c.in-Ok.ensures.answer c.in-Ok-go_on.admission c.go_on.new.runs c.fit_whole.new.runs c.go_on.new.waiting
    c.in-Ok.ensures.ok c.in-Ok-go_on.ensures.settled

pub returns : goal.returns
returns g c = record {
  admitted = tried-refused-as c.args.runs.now c.args.waiting.now c.requires.apart c.args.message (sym c.is_reached.ensures ∙ c.if-not-is_reached.false) c.in-Err.cause _
      (let is = c.in-Err.cause-is in cc) (c.in-Err.ensures.answer (search rules)) c.args.may_wait (beside c.fit_whole.new.runs c.args.waiting.now)
      (ap (λ (l : List Batch). beside l c.args.waiting.now) c.in-Err.ensures.err);
  apart = subst (λ (known : List Batch). ArePutOff known c.args.waiting.now) (sym c.in-Err.ensures.err) c.requires.apart;
  small = c.requires.small;
  comes = come-same c.args.runs.now c.fit_whole.new.runs c.in-Err.ensures.err;
  runs_kept = λ _. c.in-Err.ensures.err;
  waiting_kept = λ _. refl;
}
