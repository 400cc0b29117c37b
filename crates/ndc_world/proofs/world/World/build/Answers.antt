use Rattle.ndc_world.proofs.StandingLemmas.{opening_stands, standing_begun}
use Rattle.ndc_world.proofs.world.World.build.Goals as goal

pub invariant_of-result : goal.invariant_of-result
invariant_of-result g c = λ unspent. standing_begun c.args.header.now c.in_ok-replication.replication c.in_ok-reports.reports c.requires c.in_ok-replication.ensures c.in_ok-reports.ensures

pub returns-clause-stands : goal.returns-clause-stands
returns-clause-stands g c = opening_stands c.args.header.now c.in_ok-replication.replication c.in_ok-reports.reports c.in_ok-replication.ensures c.in_ok-reports.ensures
