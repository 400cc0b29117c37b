use Rattle.std.proofs.Common.{List, ◌++◌, map, ap, ◌∙◌}
use Rattle.ndc_model_cells.specs.declared.job.ShardJob.{ShardJob}
use Rattle.ndc_model.specs.Moves.{arrives, sent_again}
use Rattle.ndc_world_replication.proofs.TakeLemmas.{jobs_of_more}
use Rattle.ndc_world_replication.proofs.replication.Replication.again_jobs.Goals as goal

pub loop-shard-preserved : goal.loop-shard-preserved
loop-shard-preserved g c =
    c.in_ok-add_again.ensures
    ∙ ap (λ (jobs : List ShardJob). jobs ++ map (arrives c.loop-shard.shard) (sent_again c.args.header.now c.args.reader c.args.self.now c.loop-shard.shard)) c.loop-shard.invariant
    ∙ jobs_of_more (sent_again c.args.header.now c.args.reader c.args.self.now) c.loop-shard.shard
