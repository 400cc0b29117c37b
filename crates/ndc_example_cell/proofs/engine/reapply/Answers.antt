use Rattle.std.proofs.Common.{sym, subst}
use Rattle.ndc_cluster.specs.Homes.{HomeValue, desk_of}
use Rattle.ndc_model_cells.specs.Keeping.{CanWriteEach}
use Rattle.ndc_example_cell.proofs.SharedLemmas.{shared-reapply}
use Rattle.ndc_example_cell.proofs.engine.reapply.Goals as goal

pub reapply-requires : goal.reapply-requires
reapply-requires c =
    subst (λ (home : HomeValue). CanWriteEach (desk_of home c.args.table.now) c.args.mine.now) (sym c.home_of-home.ensures) (shared-reapply c.args.shared.now.clusters.now c.args.shared.now.me c.args.shared.now.them c.args.shared.now.most c.args.shared.now.domain.now c.args.shared.now.workflow.now c.args.mine.now c.args.theirs.now c.requires c.args.table.now)
