use Rattle.std.proofs.Common.{◌<◌, ap, subst, sym, ◌∙◌}
use Rattle.ndc_domain.specs.Clusters.{count_of}
use Rattle.ndc_world.specs.Standing.{WorldValue}
use Rattle.ndc_world.proofs.StandingLemmas.{clusters_reached}
use Rattle.ndc_world_replication.proofs.ShapeLemmas.{there}
use Rattle.ndc_world.proofs.world.World.letters.Goals as goal

pub publisher_of-requires : goal.publisher_of-requires
publisher_of-requires g c =
    let is = c.self.invariant (ap (λ (v : WorldValue). v.spent) c.self.view_is ∙ c.requires.unspent) in
    let shaped = (clusters_reached c.self.inside.header.now c.self.inside.lines c.self.inside.replication c.self.inside.reports is.standing).shaped in
    there c.self.inside.header.now c.self.inside.replication shaped c.args.cluster (subst (λ (v : WorldValue). c.args.cluster.number < count_of v.header.clusters) (sym c.self.view_is) c.requires.cluster)
