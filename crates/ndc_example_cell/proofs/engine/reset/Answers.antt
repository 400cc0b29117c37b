use Rattle.std.proofs.Common.{sym, subst}
use Rattle.ndc_cluster.specs.Homes.{HomeValue, desk_of}
use Rattle.ndc_model_cells.specs.Keeping.{CanWrite}
use Rattle.ndc_example_cell.proofs.SharedLemmas.{shared-write}
use Rattle.ndc_example_cell.proofs.engine.reset.Goals as goal

pub reset-written-requires : goal.reset-written-requires
reset-written-requires c =
    subst (λ (home : HomeValue). CanWrite (desk_of home c.args.table.now) c.args.shared.now.domain.now c.args.shared.now.workflow.now c.args.mine.now) (sym c.home_of-home.ensures)
    (shared-write c.args.shared.now.clusters.now c.args.shared.now.me c.args.shared.now.them c.args.shared.now.most c.args.shared.now.domain.now c.args.shared.now.workflow.now c.args.mine.now c.args.theirs.now c.requires c.args.table.now)
