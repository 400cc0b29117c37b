use Rattle.ndc_world_replication.proofs.ShapeLemmas.{shard_there}
use Rattle.ndc_world_steps.proofs.letters.letter_job.Goals as goal

pub cell_of-cell-requires-clause-shard : goal.cell_of-cell-requires-clause-shard
cell_of-cell-requires-clause-shard g c =
    shard_there c.args.header.now c.args.replication.now c.args.letter.now.source c.args.letter.now.domain c.args.letter.now.workflow c.shard_of-shard.result c.requires.shaped c.requires.source c.requires.shards c.shard_of-shard.ensures
