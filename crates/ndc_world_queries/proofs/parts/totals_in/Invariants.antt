use Rattle.std.proofs.Common.{◌≡◌, drop, map}
use Rattle.std.specs.List.{fold}
use Rattle.ndc_world_queries.specs.Summaries.{added, totals_in, part_of}
use Rattle.ndc_world_queries.proofs.parts.totals_in.Given as goal

abbrev pub invariant-loop-batch : goal.invariant-loop-batch
invariant-loop-batch g l =
    fold added l.whole (map (part_of (map (λ cell. g.C.Cell.cell cell.now) l.cells)) (drop l.batch-index l.batch-items)) ≡ totals_in (map (λ cell. g.C.Cell.cell cell.now) l.cells)
