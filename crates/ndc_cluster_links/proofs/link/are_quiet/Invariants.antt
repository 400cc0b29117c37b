use Rattle.std.proofs.Common.{drop}
use Rattle.ndc_cluster_links.proofs.QuietLemmas.{AreQuiet}
use Rattle.ndc_cluster_links.proofs.link.are_quiet.Given as goal

abbrev pub invariant-loop-lane : goal.invariant-loop-lane
invariant-loop-lane l = AreQuiet (drop l.lane-index l.lanes) → AreQuiet l.lanes
