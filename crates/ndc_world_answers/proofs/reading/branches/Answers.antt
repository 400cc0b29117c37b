use Rattle.std.proofs.Common.{rules}
use Rattle.ndc_text.proofs.Joining.{printed_more}
use Rattle.ndc_text.specs.Views.{run_lines}
use Rattle.ndc_world_answers.proofs.reading.branches.Goals as goal

pub loop-run-preserved : goal.loop-run-preserved
loop-run-preserved c = printed_more run_lines _ c.loop-run.run-index c.run-item.result _ _ _ (search rules) c.run-item.is c.in_ok-push_run.ensures c.loop-run.invariant
