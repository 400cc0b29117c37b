use Rattle.std.proofs.Common.{rules}
use Rattle.ndc_explain.specs.Losses.{alone_told}
use Rattle.ndc_explain_sides.proofs.Listing.{pushed_more}
use Rattle.ndc_explain.proofs.losses.push_each_alone.Goals as goal

pub loop-trace-preserved : goal.loop-trace-preserved
loop-trace-preserved c =
    pushed_more (alone_told c.args.clusters.now c.args.all) c.args.alone.now c.loop-trace.trace-index c.trace-item.result _ _ _ (search rules) c.trace-item.is
    c.in_ok-push_alone_of.ensures c.loop-trace.invariant
