use Rattle.std.proofs.Common.{◌≡◌, ◌++◌, drop, not}
use Rattle.std.specs.List.{filter}
use Rattle.ndc_model_cells.specs.Writing.{same_cluster}
use Rattle.ndc_world_replication.proofs.settling.others_of.Given as goal

abbrev pub invariant-loop-other : goal.invariant-loop-other
invariant-loop-other l =
    l.others.items ++ filter (λ other. not (same_cluster l.cluster other)) (drop l.other-index l.clusters) ≡ filter (λ other. not (same_cluster l.cluster other)) l.clusters
