use Rattle.std.proofs.Common.{◌≡◌, ◌++◌, drop}
use Rattle.ndc_cluster.proofs.fresh.fresh_from.Given as goal

abbrev pub invariant-loop-place : goal.invariant-loop-place
invariant-loop-place g l = l.messages.items ++ drop l.place (g.C.Cell.cell l.cell).written ≡ drop l.from (g.C.Cell.cell l.cell).written
