use Rattle.ndc_world.proofs.RunLemmas.{burst_run, may_burst}
use Rattle.ndc_world.proofs.running.run_burst.Goals as goal

pub burst-requires-clause-allowed : goal.burst-requires-clause-allowed
burst-requires-clause-allowed g c κs within =
    may_burst c.args.header.now c.args.lines c.args.replication.now c.requires.header c.requires.reached c.args.cluster c.args.jobs.now c.requires.cluster c.requires.jobs c.requires.lines g.C.Cell.allows
    (g.met.C.Cell g.world.𝓛 g.world.𝓜 g.world.𝓡 ((λ s x. x), (λ x. x), (λ x. x), λ x. x)).may

pub returns : goal.returns
returns g c =
    burst_run c.args.header.now c.args.lines c.args.replication.now c.requires.header c.requires.reached c.args.cluster c.args.jobs.now c.requires.cluster c.requires.jobs c.requires.lines
    c.burst.new.replication c.in_ok-told.told.0.text c.in_ok-told.told.0.seen c.in_ok-told.told.1
    c.in_ok-told.ensures.world c.in_ok-told.ensures.answer c.in_ok-told.ensures.seen c.in_ok-told.ensures.refused
