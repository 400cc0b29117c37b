use Rattle.std.proofs.Common.{Bool, ap, ◌∙◌}
use Rattle.ndc_world_queries.proofs.ShardLemmas.{tables_same, whole_more}
use Rattle.ndc_world_queries.specs.Summaries.{added, are_one_table, cells_of, totals_in, tables_alone}
use Rattle.ndc_world_queries.specs.declared.parts.Totals.{Totals}
use Rattle.ndc_world_queries.proofs.clusters.totals.Goals as goal

pub loop-shard-init : goal.loop-shard-init
loop-shard-init g c =
    ap {B = Totals} (λ (same : Bool). record { batches = 0; workflows = 0; branches = 0; same = same })
    (c.have_one_table.ensures ∙ ap are_one_table (tables_same c.args.replication.now c.publishers.result.now c.publishers.ensures.clusters))

pub loop-shard-preserved : goal.loop-shard-preserved
loop-shard-preserved g c =
    c.in_ok-whole.ensures
    ∙ ap (added c.loop-shard.whole) c.in_ok-part.ensures
    ∙ ap (λ (whole : Totals). added whole (totals_in (cells_of c.args.replication.now c.loop-shard.shard))) c.loop-shard.invariant
    ∙ whole_more (tables_alone c.args.replication.now) (λ shard. totals_in (cells_of c.args.replication.now shard)) c.loop-shard.shard
