use Rattle.ndc_model.specs.Moves.{all_reapply}
use Rattle.ndc_model.specs.World.{cluster_at, home_at}
use Rattle.ndc_world_replication.proofs.AllowedLemmas.{all_allowed}
use Rattle.ndc_tests_cluster.proofs.replication.a_cluster_without_memory_reapplies_nothing.Goals as goal

pub reapply-requires-clause-allowed : goal.reapply-requires-clause-allowed
reapply-requires-clause-allowed g c κs =
    let header = c.in_ok-header.field-0.header in
    let w = c.in_ok-header.field-0.replication in
    all_allowed (λ _ _ _. Unit {0}) (home_at header (record { number = 1 }) w) (λ _ _. tt {0}) (all_reapply header) (cluster_at (record { number = 1 }) w).cells
