use Rattle.ndc_world.proofs.RunLemmas.{may_line, one_run}
use Rattle.ndc_world.proofs.running.run_one.Goals as goal

pub act-requires-clause-allowed : goal.act-requires-clause-allowed
act-requires-clause-allowed g c κs within =
    may_line c.args.header.now c.args.lines c.args.replication.now c.requires.header c.requires.reached g.C.Cell.allows
    (g.met.C.Cell g.world.𝓛 g.world.𝓜 g.world.𝓡 ((λ s x. x), (λ x. x), (λ x. x), λ x. x)).may c.args.asked.now c.requires.act c.requires.lines

pub returns : goal.returns
returns g c =
    one_run c.args.header.now c.args.replication.now c.args.number c.args.asked.now c.act.new.replication c.in_ok-answer.answer c.in_ok-told.told.0.text c.in_ok-told.told.0.seen c.in_ok-told.told.1
    c.requires.one c.in_ok-answer.ensures c.in_ok-told.ensures.text c.in_ok-told.ensures.seen c.in_ok-told.ensures.refused
