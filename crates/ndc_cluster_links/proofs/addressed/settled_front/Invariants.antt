use Rattle.std.proofs.Common.{◌≡◌, ◌+◌, drop}
use Rattle.std.specs.List.{prefix_len}
use Rattle.ndc_model.specs.Queues.{needs_nothing}
use Rattle.ndc_cluster_links.proofs.addressed.settled_front.Given as goal

abbrev pub invariant-loop-entry : goal.invariant-loop-entry
invariant-loop-entry g l =
    (l.count ≡ l.entry-index)
    × (l.count + prefix_len (needs_nothing l.reader l.table (g.C.Cell.cell l.cell)) (drop l.entry-index l.entries) ≡ prefix_len (needs_nothing l.reader l.table (g.C.Cell.cell l.cell)) l.entries)
