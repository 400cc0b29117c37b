use Rattle.std.proofs.Common.{rules, ◌≡◌, sym, subst}
use Rattle.ndc_cluster.specs.Homes.{HomeValue, desk_of}
use Rattle.ndc_model_cells.specs.Keeping.{CanWrite}
use Rattle.ndc_example_cell.proofs.SharedLemmas.{refuse-then, shared-write, write-then}
use Rattle.ndc_example_cell.proofs.engine.write.Goals as goal

pub command-written-requires : goal.command-written-requires
command-written-requires c =
    subst (λ (home : HomeValue). CanWrite (desk_of home c.args.table.now) c.args.shared.now.domain.now c.args.shared.now.workflow.now c.args.mine.now) (sym c.home_of-home.ensures)
    (shared-write c.args.shared.now.clusters.now c.args.shared.now.me c.args.shared.now.them c.args.shared.now.most c.args.shared.now.domain.now c.args.shared.now.workflow.now c.args.mine.now c.args.theirs.now c.requires.shared c.args.table.now)

pub returns-in-Ok : goal.returns-in-Ok
returns-in-Ok c =
    write-then c.args.shared.now.clusters.now c.args.shared.now.me c.args.shared.now.them c.args.shared.now.most c.args.shared.now.domain.now c.args.shared.now.workflow.now c.args.mine.now c.args.theirs.now c.command-written.new.self c.requires.shared c.requires.room c.home_of-home.result c.home_of-home.ensures
    (record { cell_is = c.is_in_order.ensures.cell; workflows = c.is_in_order.ensures.workflows; carried = c.is_in_order.ensures.carried }) c.args.table.now c.args.command.now c.in-Ok.ensures.cell

pub returns-in-Err-Refused : goal.returns-in-Err-Refused
returns-in-Err-Refused c =
    let is : c.command-written.new.self ≡ c.args.mine.now = search rules in
    refuse-then c.args.shared.now.clusters.now c.args.shared.now.me c.args.shared.now.them c.args.shared.now.most c.args.shared.now.domain.now c.args.shared.now.workflow.now c.args.mine.now c.args.theirs.now c.command-written.new.self c.requires.shared c.requires.room is
