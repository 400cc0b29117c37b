use Rattle.ndc_world_replication.proofs.ShapeLemmas.{shard_there}
use Rattle.ndc_world_replication.proofs.publishers.may_write.Goals as goal

pub cell_of-cell-requires-clause-shard : goal.cell_of-cell-requires-clause-shard
cell_of-cell-requires-clause-shard g c =
    shard_there c.args.header.now c.args.replication.now c.args.cluster c.args.domain.now c.args.workflow.now c.shard_of-shard.result c.requires.shaped c.requires.cluster c.requires.shards c.shard_of-shard.ensures
