use Rattle.std.proofs.Common.{◌≡◌, ◌+◌, drop, length, map}
use Rattle.std.specs.List.{flat_map, fold}
use Rattle.ndc_model_cells.specs.declared.message.Message.{Message}
use Rattle.ndc_model_cells.specs.Cells.{both}
use Rattle.ndc_world_queries.specs.Summaries.{messages_of, with_workflow, workflows_in}
use Rattle.ndc_world_queries.proofs.found.found_in.Given as goal

abbrev pub invariant-loop-cell : goal.invariant-loop-cell
invariant-loop-cell g l = record {
  workflows : fold with_workflow l.workflows.items (map (λ (sent : Message). sent.batch) (messages_of (map (λ cell. g.C.Cell.cell cell.now) (drop l.cell-index l.cells))))
      ≡ workflows_in (map (λ cell. g.C.Cell.cell cell.now) l.cells);
  batches : l.batches + length (flat_map both (messages_of (map (λ cell. g.C.Cell.cell cell.now) (drop l.cell-index l.cells))))
      ≡ length (flat_map both (messages_of (map (λ cell. g.C.Cell.cell cell.now) l.cells)));
}
