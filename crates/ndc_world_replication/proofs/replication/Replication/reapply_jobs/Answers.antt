use Rattle.std.proofs.Common.{sym, subst}
use Rattle.ndc_cluster.specs.Homes.{HomeValue, desk_of}
use Rattle.ndc_model.specs.World.{Cluster}
use Rattle.ndc_world_replication.proofs.LinkLemmas.{cells_many, stands_by}
use Rattle.ndc_world_replication.specs.Chosen.{AreChosen}
use Rattle.ndc_world_replication.specs.Replications.{StandsAt}
use Rattle.ndc_world_replication.proofs.replication.Replication.reapply_jobs.Goals as goal

pub reapply_jobs-requires : goal.reapply_jobs-requires
reapply_jobs-requires g c =
    cells_many c.args.header.now c.args.self.now c.args.cluster c.index-publisher.result.now c.requires.shaped c.requires.cluster
    (stands_by c.args.header.now c.args.self.now c.self.inside.publishers.items c.self.inside.links.items c.self.inside.handovers.items c.args.cluster c.index-publisher.result.now c.self.view_is c.requires.shaped c.requires.cluster c.index-publisher.ensures)

pub returns : goal.returns
returns g c =
    let own : StandsAt c.args.self.now c.args.cluster c.index-publisher.result.now =
    stands_by c.args.header.now c.args.self.now c.self.inside.publishers.items c.self.inside.links.items c.self.inside.handovers.items c.args.cluster c.index-publisher.result.now c.self.view_is c.requires.shaped c.requires.cluster c.index-publisher.ensures in
    subst (λ (cluster : Cluster). AreChosen (record { clusters = c.args.header.now.clusters; me = c.args.cluster; limit = c.args.header.now.limit; table = cluster.table }) cluster.cells c.args.header.now.shards 0 c.in_ok-jobs.jobs.items) (sym own.cluster_is)
    (subst (λ (home : HomeValue). AreChosen (desk_of home c.index-publisher.result.now.cluster.table) c.index-publisher.result.now.cluster.cells c.args.header.now.shards 0 c.in_ok-jobs.jobs.items) c.home_in-home.ensures c.in_ok-jobs.ensures)
