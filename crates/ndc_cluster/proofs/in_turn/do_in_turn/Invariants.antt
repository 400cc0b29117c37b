use Rattle.std.proofs.Common.{drop}
use Rattle.ndc_cluster.proofs.TurnLemmas.{InTurn}
use Rattle.ndc_cluster.proofs.in_turn.do_in_turn.Given as goal

abbrev pub invariant-loop-asked : goal.invariant-loop-asked
invariant-loop-asked g l = InTurn g.C.Cell.allows g.C.Cell.cell l.desk l.jobs (drop l.asked-index l.jobs) l.initial.cells.items l.cells.items l.replies.items
