use Rattle.std.proofs.Common.{rules}
use Rattle.ndc_explain.specs.Losses.{loss_told}
use Rattle.ndc_explain_sides.proofs.Listing.{pushed_more}
use Rattle.ndc_explain.proofs.losses.push_losses.Goals as goal

pub loop-loss-preserved : goal.loop-loss-preserved
loop-loss-preserved c =
    pushed_more (loss_told c.args.clusters.now c.args.all c.args.both) c.args.lost.now c.loop-loss.loss-index c.loss-item.result _ _ _ (search rules) c.loss-item.is
    c.in_ok-push_loss_of.ensures c.loop-loss.invariant
