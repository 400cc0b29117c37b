use Rattle.std.proofs.Common.{rules}
use Rattle.ndc_explain.specs.Branches.{branch_told}
use Rattle.ndc_explain_sides.proofs.Listing.{pushed_more}
use Rattle.ndc_explain.proofs.branches.push_beside.Goals as goal

pub loop-branch-preserved : goal.loop-branch-preserved
loop-branch-preserved c = pushed_more (branch_told c.args.clusters.now c.args.lead.now) c.args.branches.now c.loop-branch.branch-index c.branch-item.result _ _ _ (search rules) c.branch-item.is c.in_ok-push_branch.ensures c.loop-branch.invariant
