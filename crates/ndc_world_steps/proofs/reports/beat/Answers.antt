use Rattle.std.proofs.Common.{List, Ok, [], ap, refl, slice_index_or, subst, sym}
use Rattle.ndc_model.specs.Progress.{beat_step}
use Rattle.ndc_model.specs.Reporting.{told_by}
use Rattle.ndc_model.specs.Standing.{IsLeftBy}
use Rattle.ndc_progress.specs.declared.report.Report.{Report}
use Rattle.ndc_world_steps.specs.Told.{AnswerValue}
use Rattle.ndc_world_steps.proofs.ActivityLemmas.{beat_told}
use Rattle.ndc_world_steps.proofs.reports.beat.Goals as goal

pub returns-in_ok-answer-in-Ok : goal.returns-in_ok-answer-in-Ok
returns-in_ok-answer-in-Ok g c =
    let own = slice_index_or c.args.reports.now c.args.cluster.number [] in
    λ w stand. subst
    (λ (left : List (List Report)). IsLeftBy (beat_step c.args.header.now c.args.cluster c.args.domain.now c.args.workflow.now c.args.id.now c.args.details.now w) c.args.replication.now left c.in_ok-answer-in-Ok.answer.text c.in_ok-answer-in-Ok.answer.seen)
    (sym c.in_ok-answer-in-Ok.ensures.reports)
    (beat_told c.args.replication.now c.args.reports.now w stand c.args.header.now c.args.cluster c.args.domain.now c.args.workflow.now c.args.id.now c.args.details.now (c.in-Ok.version, c.in-Ok.activity) own
    (told_by c.args.details.now own (Ok (c.in-Ok.version, c.in-Ok.activity))).reports c.in_ok-answer-in-Ok.answer.text c.in_ok-answer-in-Ok.answer.seen c.in-Ok.ensures refl refl
    (ap (λ (t : AnswerValue). t.text) c.in_ok-answer-in-Ok.ensures.answer) (ap (λ (t : AnswerValue). t.seen) c.in_ok-answer-in-Ok.ensures.answer))
