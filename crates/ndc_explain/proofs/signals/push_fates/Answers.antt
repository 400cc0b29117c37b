use Rattle.std.proofs.Common.{rules}
use Rattle.ndc_explain.specs.Signals.{signal_line}
use Rattle.ndc_explain_sides.proofs.Listing.{pushed_more}
use Rattle.ndc_explain.proofs.signals.push_fates.Goals as goal

pub loop-signal-preserved : goal.loop-signal-preserved
loop-signal-preserved c = pushed_more (signal_line c.args.clusters.now c.args.workflow.now c.args.is_open c.args.known.now) c.args.signals.now c.loop-signal.signal-index c.signal-item.result _ _ _ (search rules) c.signal-item.is c.in_ok-push_fate.ensures c.loop-signal.invariant
