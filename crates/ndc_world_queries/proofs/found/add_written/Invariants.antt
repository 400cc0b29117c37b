use Rattle.std.proofs.Common.{◌≡◌, length, map, take}
use Rattle.std.specs.List.{flat_map, fold}
use Rattle.ndc_model_cells.specs.declared.message.Message.{Message}
use Rattle.ndc_model_cells.specs.Cells.{both}
use Rattle.ndc_world_queries.specs.Summaries.{with_workflow}
use Rattle.ndc_world_queries.proofs.found.add_written.Given as goal

abbrev pub invariant-loop-place : goal.invariant-loop-place
invariant-loop-place g l = record {
  workflows : l.found.items ≡ fold with_workflow l.initial.found.items (map (λ (sent : Message). sent.batch) (take l.place (g.C.Cell.cell l.cell).written));
  batches : l.count ≡ length (flat_map both (take l.place (g.C.Cell.cell l.cell).written));
}
