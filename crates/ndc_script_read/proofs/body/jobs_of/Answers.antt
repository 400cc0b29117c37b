use Rattle.std.proofs.Common.{◌<◌, length, sym, ◌∙◌, arith}
use Rattle.std.proofs.lemmas.List.Elements.{All-push}
use Rattle.ndc_script_types.specs.WellFormed.{IsWellFormedJob}
use Rattle.ndc_script_read.proofs.ReadSteps.{job_step}
use Rattle.ndc_script_read.proofs.body.jobs_of.Goals as goal

pub loop-line-preserved : goal.loop-line-preserved
loop-line-preserved c =
    let within : c.loop-line.line-index < length c.args.lines.now = omega arith in
    record {
      read =
          rw c.in_ok-push.ensures.items
          (sym (job_step c.args.end c.args.name.now c.loop-line.jobs.items c.args.lines.now c.loop-line.line-index c.line-item.result c.in_ok-job.job
          within c.line-item.is (sym c.if-is_end.ensures) c.in_ok-job.ensures.answer)
          ∙ c.loop-line.invariant.read);
      well_formed = rw c.in_ok-push.ensures.items (All-push IsWellFormedJob c.loop-line.jobs.items c.in_ok-job.job c.loop-line.invariant.well_formed c.in_ok-job.ensures.well_formed);
    }
