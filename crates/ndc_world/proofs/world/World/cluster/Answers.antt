use Rattle.std.proofs.Common.{◌<◌, length, ap, subst, sym, ◌∙◌}
use Rattle.ndc_cluster.specs.Clusters.{ClusterValue}
use Rattle.ndc_domain.specs.Clusters.{cluster_no, count_of}
use Rattle.ndc_world.specs.Standing.{WorldValue}
use Rattle.ndc_world.proofs.StandingLemmas.{clusters_reached}
use Rattle.ndc_world_replication.proofs.ShapeLemmas.{cells_there, there}
use Rattle.ndc_world.proofs.world.World.cluster.Goals as goal

pub cluster_of-requires : goal.cluster_of-requires
cluster_of-requires g c =
    let is = c.self.invariant (ap (λ (v : WorldValue). v.spent) c.self.view_is ∙ c.requires.unspent) in
    let shaped = (clusters_reached c.self.inside.header.now c.self.inside.lines c.self.inside.replication c.self.inside.reports is.standing).shaped in
    there c.self.inside.header.now c.self.inside.replication shaped (cluster_no c.args.place) (subst (λ (v : WorldValue). c.args.place < count_of v.header.clusters) (sym c.self.view_is) c.requires.place)

pub returns-clause-shards : goal.returns-clause-shards
returns-clause-shards g c =
    let is = c.self.invariant (ap (λ (v : WorldValue). v.spent) c.self.view_is ∙ c.requires.unspent) in
    let shaped = (clusters_reached c.self.inside.header.now c.self.inside.lines c.self.inside.replication c.self.inside.reports is.standing).shaped in
    let known = subst (λ (v : WorldValue). c.args.place < count_of v.header.clusters) (sym c.self.view_is) c.requires.place in
    ap (λ (v : ClusterValue). length v.cells) c.cluster_of.ensures ∙ cells_there c.self.inside.header.now c.self.inside.replication (cluster_no c.args.place) shaped known
    ∙ ap (λ (v : WorldValue). v.header.shards) c.self.view_is
