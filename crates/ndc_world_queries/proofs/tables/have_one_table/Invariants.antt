use Rattle.std.proofs.Common.{◌≡◌, drop, map}
use Rattle.std.specs.List.{list_all}
use Rattle.ndc_world_replication.specs.Publishers.{PublisherValue}
use Rattle.ndc_world_queries.specs.Summaries.{are_one_table, same_table}
use Rattle.ndc_world_queries.proofs.tables.have_one_table.Given as goal

abbrev pub invariant-loop-publisher : goal.invariant-loop-publisher
invariant-loop-publisher g l =
    list_all (same_table l.first.cluster.table) (map (λ (publisher : PublisherValue). publisher.cluster.table) (drop l.publisher-index l.others)) ≡ are_one_table (map (λ (publisher : PublisherValue). publisher.cluster.table) l.publishers)
