use Rattle.std.proofs.Common.{◌≡◌, length, arith}
use Rattle.ndc_model.specs.World.{cluster_at}
use Rattle.ndc_world_replication.proofs.ShapeLemmas.{cells_there, there}
use Rattle.ndc_world_replication.proofs.replication.Replication.author.Goals as goal

pub cell_of-requires-clause-cluster : goal.cell_of-requires-clause-cluster
cell_of-requires-clause-cluster g c = there c.args.header.now c.args.self.now c.requires.shaped c.in_ok-cluster.cluster c.in_ok-cluster.ensures.within

pub cell_of-requires-clause-shard : goal.cell_of-requires-clause-shard
cell_of-requires-clause-shard g c =
    let many : length (cluster_at c.in_ok-cluster.cluster c.args.self.now).cells ≡ c.args.header.now.shards = cells_there c.args.header.now c.args.self.now c.in_ok-cluster.cluster c.requires.shaped c.in_ok-cluster.ensures.within in
    omega (arith, many, c.requires.shard)
