use Rattle.std.proofs.Common.{rules}
use Rattle.ndc_text.specs.Views.{run_state_lines}
use Rattle.ndc_text.proofs.Joining.{printed_more}
use Rattle.ndc_text.proofs.dump.push_runs.Goals as goal

pub loop-run-preserved : goal.loop-run-preserved
loop-run-preserved c =
    printed_more run_state_lines c.args.runs.now c.loop-run.run-index c.run-item.result _ _ _ (search rules) c.run-item.is c.in_ok-push_run.ensures c.loop-run.invariant
