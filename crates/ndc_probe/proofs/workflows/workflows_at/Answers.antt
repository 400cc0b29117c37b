use Rattle.std.proofs.Common.{List, ◌++◌, ap, ◌∙◌}
use Rattle.ndc_event.specs.declared.name.Name.{Name}
use Rattle.ndc_probe.specs.Workflows.{workflows_in}
use Rattle.ndc_world_queries.proofs.GapLemmas.{shards_more}
use Rattle.ndc_probe.proofs.workflows.workflows_at.Goals as goal

pub loop-shard-preserved : goal.loop-shard-preserved
loop-shard-preserved c =
    let found = workflows_in c.args.cluster c.args.domain.now c.args.world.now.world in
    c.in_ok-add_shard.ensures
    ∙ ap (λ (l : List Name). l ++ found c.loop-shard.shard) c.loop-shard.invariant
    ∙ shards_more found c.loop-shard.shard
