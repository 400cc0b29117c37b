use Rattle.std.proofs.Common.{rules}
use Rattle.ndc_explain.specs.Branches.{run_told}
use Rattle.ndc_explain_sides.proofs.Listing.{pushed_more}
use Rattle.ndc_explain.proofs.branches.push_runs.Goals as goal

pub loop-run-preserved : goal.loop-run-preserved
loop-run-preserved c =
    pushed_more (run_told c.args.clusters.now) c.args.runs.now c.loop-run.run-index c.run-item.result _ _ _ (search rules) c.run-item.is
    c.in_ok-push_run.ensures c.loop-run.invariant
