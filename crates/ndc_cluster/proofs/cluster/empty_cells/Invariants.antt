use Rattle.std.proofs.Common.{◌≡◌, ◌≤◌, ◌-◌, length, map}
use Rattle.std.specs.Prelude.{replicate}
use Rattle.ndc_model_cells.specs.Cells.{empty_cell}
use Rattle.ndc_cluster.proofs.cluster.empty_cells.Given as goal

abbrev pub invariant-loop-alloc : goal.invariant-loop-alloc
invariant-loop-alloc g l = (map g.C.Cell.cell l.cells.items ≡ replicate (length l.cells.items) empty_cell) × (length l.cells.items ≤ l.shards)

abbrev pub decreases-loop-alloc : goal.decreases-loop-alloc
decreases-loop-alloc g l = l.shards - length l.cells.items
