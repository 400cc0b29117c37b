use Rattle.std.proofs.Common.{List, ap, ◌∙◌}
use Rattle.ndc_laws_jobs.proofs.StandLemmas.{progress-left}
use Rattle.ndc_model.specs.Reporting.{shown_of}
use Rattle.ndc_model.specs.Reading.{learned_at}
use Rattle.ndc_progress.specs.declared.report.Report.{Report}
use Rattle.ndc_world_steps.proofs.reports.progress.Goals as goal

pub returns : goal.returns
returns g c =
    λ w stand. c.in_ok-text.ensures
    ∙ ap (λ (own : List Report). shown_of c.args.domain.now c.args.workflow.now c.args.id.now own (learned_at c.args.header.now c.args.cluster c.args.domain.now c.args.workflow.now c.args.replication.now))
    c.of-own.ensures
    ∙ progress-left c.args.replication.now c.args.reports.now w stand c.args.header.now c.args.cluster c.args.domain.now c.args.workflow.now c.args.id.now
