use Rattle.std.proofs.Common.{◌<◌, List, length, ap, ◌∙◌, arith}
use Rattle.std.proofs.lemmas.List.{length-map}
use Rattle.ndc_model_cells.specs.Cells.{Cell}
use Rattle.ndc_model_cells.specs.Jobs.{cells_behind}
use Rattle.ndc_cluster.proofs.TurnLemmas.{one_done}
use Rattle.ndc_cluster.proofs.cells.Cells.do_one.Goals as goal

-- the cell at the shard is the one after the job, and all others stay
pub returns-clause-cells : goal.returns-clause-cells
returns-clause-cells g c =
    let below : c.args.asked.now.shard < length c.self.inside.cells.items =
    omega (arith, length-map c.self.inside.cells.items g.C.Cell.cell, ap (λ (cells : List Cell). length cells) c.self.view_is, c.requires.shard) in
    one_done g.C.Cell.cell c.args.desk.now c.args.asked.now c.self.inside.cells.items c.index_mut-cell.result.now c.do_job.new.self below c.index_mut-cell.ensures.value c.in_ok-reply.ensures.done
    ∙ ap (cells_behind c.args.desk.now c.args.asked.now) c.self.view_is
