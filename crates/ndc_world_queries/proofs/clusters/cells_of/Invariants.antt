use Rattle.std.proofs.Common.{◌≡◌, ◌++◌, drop, map}
use Rattle.ndc_model_cells.specs.Jobs.{cell_for}
use Rattle.ndc_world_replication.specs.Publishers.{PublisherValue}
use Rattle.ndc_world_queries.proofs.clusters.cells_of.Given as goal

abbrev pub invariant-loop-publisher : goal.invariant-loop-publisher
invariant-loop-publisher g l =
    map (λ cell. g.C.Cell.cell cell.now) l.cells.items ++ map (λ (publisher : PublisherValue). cell_for l.shard publisher.cluster.cells) (drop l.publisher-index l.publishers) ≡ map (λ (publisher : PublisherValue). cell_for l.shard publisher.cluster.cells) l.publishers
