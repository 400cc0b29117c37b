use Rattle.std.proofs.Common.{◌+◌, ◌*◌, length, max}
use Rattle.ndc_cluster.proofs.halves.+halves.Given as goal

abbrev pub decreases-work_halves-join_mut+arg2 : goal.decreases-work_halves-join_mut+arg2
decreases-work_halves-join_mut+arg2 g l = 3 * length l.front.now + 1

abbrev pub decreases-work_halves-join_mut+arg3 : goal.decreases-work_halves-join_mut+arg3
decreases-work_halves-join_mut+arg3 g l = 3 * length l.back.now + 1

abbrev pub decreases-work_all : goal.decreases-work_all
decreases-work_all g l = 3 * length l.pieces.now

abbrev pub decreases-work_halves : goal.decreases-work_halves
decreases-work_halves g l = 3 * max (length l.front.now) (length l.back.now) + 2
