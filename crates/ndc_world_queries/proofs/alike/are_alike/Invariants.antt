use Rattle.std.proofs.Common.{◌≡◌, drop, map}
use Rattle.std.specs.List.{list_all}
use Rattle.ndc_world_queries.specs.Same.{same_batches}
use Rattle.ndc_world_queries.specs.Summaries.{are_alike, learned_with}
use Rattle.ndc_world_queries.proofs.alike.are_alike.Given as goal

abbrev pub invariant-loop-cell : goal.invariant-loop-cell
invariant-loop-cell g l =
    list_all (same_batches (learned_with l.batch (g.C.Cell.cell l.first.now))) (map (learned_with l.batch) (map (λ cell. g.C.Cell.cell cell.now) (drop l.cell-index l.others)))
    ≡ are_alike (map (learned_with l.batch) (map (λ cell. g.C.Cell.cell cell.now) l.cells))
