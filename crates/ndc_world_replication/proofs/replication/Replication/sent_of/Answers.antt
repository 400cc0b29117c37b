use Rattle.std.proofs.Common.{List, [], ap, ◌∙◌}
use Rattle.ndc_model.specs.Again.{served_by_author}
use Rattle.ndc_model_cells.specs.Cells.{Cell}
use Rattle.ndc_model_cells.specs.Workflow.{workflow_of}
use Rattle.ndc_model_cells.specs.declared.message.Message.{Message}
use Rattle.ndc_resend.specs.Bringing.{asked_from, new_of}
use Rattle.ndc_resend.specs.PutOff.{gaps_in}
use Rattle.ndc_world_replication.proofs.AgainLemmas.{brought_at}
use Rattle.ndc_world_replication.proofs.replication.Replication.sent_of.Goals as goal

pub returns : goal.returns
returns g c =
    c.in_ok-new.ensures
    ∙ ap (λ (l : List Message). new_of (g.C.Cell.cell c.reader_cell-cell.result.now) l) (c.in_ok-messages.ensures
    ∙ ap (asked_from (served_by_author c.args.header.now c.args.shard c.args.self.now) []) c.in_ok-gaps.ensures)
    ∙ ap (λ (cell : Cell). new_of cell (asked_from (served_by_author c.args.header.now c.args.shard c.args.self.now) [] (gaps_in (workflow_of c.args.place.now.domain c.args.place.now.workflow cell)))) c.reader_cell-cell.ensures
    ∙ brought_at c.args.header.now c.args.self.now c.requires.reached c.args.shard c.requires.shard c.args.reader c.requires.reader c.args.place.now c.requires.behind
