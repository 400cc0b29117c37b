use Rattle.std.proofs.Common.{◌≡◌, map, ap, subst, ◌∙◌}
use Rattle.std.specs.Prelude.{IfOk}
use Rattle.ndc_world_queries.proofs.ShardLemmas.{cells_same, cells_there}
use Rattle.ndc_world_queries.specs.Summaries.{totals_in}
use Rattle.ndc_world_queries.specs.declared.parts.Totals.{Totals}
use Rattle.ndc_world_queries.proofs.clusters.shard_totals.Goals as goal

pub cells_of-requires : goal.cells_of-requires
cells_of-requires g c = cells_there c.args.header.now c.args.replication.now c.args.shard c.publishers.result.now c.requires.shaped c.requires.shard c.publishers.ensures.clusters

pub returns : goal.returns
returns g c =
    subst (λ (part : Totals). IfOk c.totals_in.result (λ whole. whole ≡ part))
    (ap totals_in (ap (map (λ cell. g.C.Cell.cell cell.now)) c.as_slice.ensures.value ∙ c.in_ok-cells.ensures ∙ cells_same c.args.replication.now c.args.shard c.publishers.result.now c.publishers.ensures.clusters))
    c.totals_in.ensures
