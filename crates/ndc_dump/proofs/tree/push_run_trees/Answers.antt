use Rattle.std.proofs.Common.{rules}
use Rattle.ndc_dump.specs.Groups.{listed}
use Rattle.ndc_dump.specs.Marks.{run_tree}
use Rattle.ndc_text.proofs.Joining.{printed_more}
use Rattle.ndc_dump.proofs.tree.push_run_trees.Goals as goal

pub loop-run-preserved : goal.loop-run-preserved
loop-run-preserved c =
    printed_more (λ run. run_tree (listed run.run c.args.batches.now) run) c.args.runs.now c.loop-run.run-index c.run-item.result _ _ _ (search rules) c.run-item.is c.in_ok-push_run_among.ensures
    c.loop-run.invariant
