use Rattle.std.proofs.Common.{ap, ◌∙◌}
use Rattle.ndc_world.specs.Standing.{WorldValue}
use Rattle.ndc_world.proofs.StandingLemmas.{clusters_reached}
use Rattle.ndc_world.proofs.world.World.summary.Goals as goal

pub totals-requires : goal.totals-requires
totals-requires g c =
    (clusters_reached c.self.inside.header.now c.self.inside.lines c.self.inside.replication c.self.inside.reports
    (c.self.invariant (ap (λ (v : WorldValue). v.spent) c.self.view_is ∙ c.requires)).standing).shaped
