use Rattle.std.proofs.Common.{rules}
use Rattle.ndc_explain_sides.specs.Sides.{alone_with}
use Rattle.ndc_explain_sides.proofs.Listing.{pushed_more}
use Rattle.ndc_explain_sides.proofs.sides.alone_of.Goals as goal

pub loop-batch-preserved : goal.loop-batch-preserved
loop-batch-preserved c =
    pushed_more (alone_with c.args.keys.now c.args.ends.now c.args.least.now) c.args.batches.now c.loop-batch.batch-index c.batch-item.result _ _ _ (search rules) c.batch-item.is
    c.in_ok-push_alone_with.ensures c.loop-batch.invariant
