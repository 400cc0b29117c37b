use Rattle.std.proofs.Common.{◌<◌, length, ap, subst, sym, ◌∙◌}
use Rattle.ndc_domain.specs.Clusters.{count_of}
use Rattle.ndc_world.specs.Standing.{WorldValue}
use Rattle.ndc_world.proofs.StandingLemmas.{clusters_reached}
use Rattle.ndc_world_replication.proofs.ShapeLemmas.{cells_there, there}
use Rattle.ndc_world.proofs.world.World.queue.Goals as goal

pub kept_queue-requires-clause-source : goal.kept_queue-requires-clause-source
kept_queue-requires-clause-source g c =
    let is = c.self.invariant (ap (λ (v : WorldValue). v.spent) c.self.view_is ∙ c.requires.unspent) in
    let shaped = (clusters_reached c.self.inside.header.now c.self.inside.lines c.self.inside.replication c.self.inside.reports is.standing).shaped in
    there c.self.inside.header.now c.self.inside.replication shaped c.args.source (subst (λ (v : WorldValue). c.args.source.number < count_of v.header.clusters) (sym c.self.view_is) c.requires.source)

pub kept_queue-requires-clause-shard : goal.kept_queue-requires-clause-shard
kept_queue-requires-clause-shard g c =
    let is = c.self.invariant (ap (λ (v : WorldValue). v.spent) c.self.view_is ∙ c.requires.unspent) in
    let shaped = (clusters_reached c.self.inside.header.now c.self.inside.lines c.self.inside.replication c.self.inside.reports is.standing).shaped in
    let known = subst (λ (v : WorldValue). c.args.source.number < count_of v.header.clusters) (sym c.self.view_is) c.requires.source in
    let below = subst (λ (v : WorldValue). c.args.shard < v.header.shards) (sym c.self.view_is) c.requires.shard in
    subst (λ n. c.args.shard < n) (sym (cells_there c.self.inside.header.now c.self.inside.replication c.args.source shaped known)) below
