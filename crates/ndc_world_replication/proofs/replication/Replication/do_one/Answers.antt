use Rattle.std.proofs.Common.{◌<◌, [], ◌∷◌, length, set, ap, sym, subst, ◌∙◌, arith}
use Rattle.std.proofs.lemmas.List.{length-map}
use Rattle.std.proofs.lemmas.Result.{on_ok_weaker}
use Rattle.ndc_cluster.specs.Homes.{HomeValue, desk_of}
use Rattle.ndc_model_cells.specs.Jobs.{cells_after}
use Rattle.ndc_model.specs.World.{Cluster, World, cluster_at, home_at, with_cells}
use Rattle.ndc_world_replication.proofs.LinkLemmas.{stands}
use Rattle.ndc_world_replication.proofs.WorkLemmas.{cells_change}
use Rattle.ndc_world_replication.specs.Replications.{StandsAt, world_of}
use Rattle.ndc_world_replication.specs.Publishers.{PublisherValue, with_publisher_cells}
use Rattle.ndc_world_replication.proofs.replication.Replication.do_one.Goals as goal

pub returns-clause-done : goal.returns-clause-done
returns-clause-done g c =
    let w = world_of c.self.inside.publishers.items c.self.inside.links.items c.self.inside.handovers.items in
    let below : c.args.cluster.number < length c.self.inside.publishers.items =
    omega (arith, c.requires.cluster, ap (λ (v : World). length v.clusters) c.self.view_is, length-map c.self.inside.publishers.items (λ (s : PublisherValue). s.cluster)) in
    let own : StandsAt w c.args.cluster c.index_mut-publisher.result.now = stands c.self.inside.publishers.items c.self.inside.links.items c.self.inside.handovers.items c.args.cluster c.index_mut-publisher.result.now below c.index_mut-publisher.ensures.value in
    on_ok_weaker c.do_one.result (λ done.
    ap (λ publisher. world_of (set c.self.inside.publishers.items c.args.cluster.number publisher) c.self.inside.links.items c.self.inside.handovers.items)
    (done
    ∙ ap (λ (home : HomeValue). with_publisher_cells (cells_after (desk_of home c.index_mut-publisher.result.now.cluster.table) (c.args.asked.now ∷ []) c.index_mut-publisher.result.now.cluster.cells) c.index_mut-publisher.result.now) c.home_in-home.ensures
    ∙ ap (λ (cluster : Cluster). with_publisher_cells (cells_after (record { clusters = c.args.header.now.clusters; me = c.args.cluster; limit = c.args.header.now.limit; table = cluster.table }) (c.args.asked.now ∷ []) cluster.cells) c.index_mut-publisher.result.now) (sym own.cluster_is))
    ∙ cells_change c.self.inside.publishers.items c.self.inside.links.items c.self.inside.handovers.items c.args.cluster c.index_mut-publisher.result.now below c.index_mut-publisher.ensures.value
    (cells_after (home_at c.args.header.now c.args.cluster w) (c.args.asked.now ∷ []) (cluster_at c.args.cluster w).cells)
    ∙ ap (λ (v : World). with_cells c.args.cluster (cells_after (home_at c.args.header.now c.args.cluster v) (c.args.asked.now ∷ []) (cluster_at c.args.cluster v).cells) v) c.self.view_is)
    c.do_one.ensures.cells

pub do_one-requires-clause-shard : goal.do_one-requires-clause-shard
do_one-requires-clause-shard g c κs within =
    let w = world_of c.self.inside.publishers.items c.self.inside.links.items c.self.inside.handovers.items in
    let below : c.args.cluster.number < length c.self.inside.publishers.items =
    omega (arith, c.requires.cluster, ap (λ (v : World). length v.clusters) c.self.view_is, length-map c.self.inside.publishers.items (λ (s : PublisherValue). s.cluster)) in
    let own : StandsAt w c.args.cluster c.index_mut-publisher.result.now = stands c.self.inside.publishers.items c.self.inside.links.items c.self.inside.handovers.items c.args.cluster c.index_mut-publisher.result.now below c.index_mut-publisher.ensures.value in
    subst (λ (cluster : Cluster). c.args.asked.now.shard < length cluster.cells)
    (ap (λ (v : World). cluster_at c.args.cluster v) (sym c.self.view_is) ∙ own.cluster_is) c.requires.shard
