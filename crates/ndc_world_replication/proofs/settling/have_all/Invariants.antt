use Rattle.std.proofs.Common.{drop, map}
use Rattle.ndc_world_replication.specs.Publishers.{PublisherValue}
use Rattle.ndc_world_replication.specs.Tables.{HaveAll}
use Rattle.ndc_world_replication.proofs.settling.have_all.Given as goal

abbrev pub invariant-loop-publisher : goal.invariant-loop-publisher
invariant-loop-publisher g l =
    HaveAll l.records (map (λ (p : PublisherValue). p.cluster) (drop l.publisher-index l.publishers)) → HaveAll l.records (map (λ (p : PublisherValue). p.cluster) l.publishers)
