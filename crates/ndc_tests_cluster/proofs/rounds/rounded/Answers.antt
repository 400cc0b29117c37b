use Rattle.ndc_world_replication.proofs.AllowedLemmas.{all_allowed}
use Rattle.ndc_tests_cluster.proofs.rounds.rounded.Goals as goal

pub round-requires-clause-allowed : goal.round-requires-clause-allowed
round-requires-clause-allowed g c κs within = all_allowed (λ _ _ _. Unit {0}) _ (λ _ _. tt {0}) c.as_slice.result.now _
