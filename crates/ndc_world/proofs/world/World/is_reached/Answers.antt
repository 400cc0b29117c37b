use Rattle.std.proofs.Common.{ap, subst, ◌∙◌}
use Rattle.ndc_world.specs.Standing.{IsReachedWorld, WorldValue}
use Rattle.ndc_world.proofs.StandingLemmas.{reached_world}
use Rattle.ndc_world.proofs.world.World.is_reached.Goals as goal

pub returns : goal.returns
returns g c =
    let own : WorldValue = record { spent = c.self.inside.spent; header = c.self.inside.header.now; lines = c.self.inside.lines; answers = c.self.inside.answers; refused = c.self.inside.refused; world = c.self.inside.replication; reports = c.self.inside.reports } in
    subst IsReachedWorld c.self.view_is (reached_world own (c.self.invariant (ap (λ (v : WorldValue). v.spent) c.self.view_is ∙ c.requires)))
