use Rattle.std.proofs.Common.{ℕ, Result, subst}
use Rattle.ndc_command.specs.declared.refusal.CommandError.{CommandError}
use Rattle.ndc_command.specs.declared.refusal.CommandError.TheVariants.{Memory}
use Rattle.ndc_event.specs.Outcome.{Gives}
use Rattle.ndc_progress.specs.declared.report.ActivityRef.{ActivityRef}
use Rattle.ndc_world_steps.proofs.ActivityLemmas.{told_same}
use Rattle.ndc_world_steps.proofs.reports.told_with.Goals as goal

pub returns : goal.returns
returns g c =
    subst (λ (r : Result (ℕ × ActivityRef) CommandError). Gives Memory (λ told. told) c.told_of.result r)
    (told_same c.args.header.now c.args.cluster c.args.domain.now c.args.workflow.now c.args.id.now c.args.replication.now c.args.runs.now c.may_write-may.result c.may_write-may.ensures c.requires.runs) c.told_of.ensures
