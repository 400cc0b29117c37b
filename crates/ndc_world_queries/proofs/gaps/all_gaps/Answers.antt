use Rattle.std.proofs.Common.{List, ◌++◌, ap, ◌∙◌}
use Rattle.ndc_resend.specs.declared.asking.GapOf.{GapOf}
use Rattle.ndc_world_queries.specs.Gaps.{gaps_at}
use Rattle.ndc_world_queries.proofs.GapLemmas.{shards_more}
use Rattle.ndc_world_queries.proofs.gaps.all_gaps.Goals as goal

pub loop-shard-preserved : goal.loop-shard-preserved
loop-shard-preserved g c =
    c.in_ok-add_shard.ensures
    ∙ ap (λ (l : List GapOf). l ++ gaps_at c.args.cluster c.args.replication.now c.loop-shard.shard) c.loop-shard.invariant
    ∙ shards_more (gaps_at c.args.cluster c.args.replication.now) c.loop-shard.shard
