use Rattle.std.proofs.Common.{arith, sym, ◌∙◌}
use Rattle.ndc_laws_reached.proofs.OneWriterLemmas.{learned_sound}
use Rattle.ndc_world.proofs.StandingLemmas.{beats_small, behind_other, clusters_reached}
use Rattle.ndc_world.proofs.running.run_line.Goals as goal

pub run_report-requires-clause-shaped : goal.run_report-requires-clause-shaped
run_report-requires-clause-shaped g c = (clusters_reached c.args.header.now c.args.lines c.args.replication.now c.args.reports.now c.requires.standing).shaped

pub run_report-requires-clause-sound : goal.run_report-requires-clause-sound
run_report-requires-clause-sound g c =
    λ cluster domain workflow known. learned_sound c.args.header.now c.args.lines c.args.replication.now cluster domain workflow (omega (arith, c.requires.standing.fit.shards_least)) known (clusters_reached c.args.header.now c.args.lines c.args.replication.now c.args.reports.now c.requires.standing)

pub run_report-requires-clause-beats : goal.run_report-requires-clause-beats
run_report-requires-clause-beats g c = beats_small c.args.header.now c.args.lines c.args.replication.now c.args.reports.now c.requires.standing

pub run_other-requires-clause-reached : goal.run_other-requires-clause-reached
run_other-requires-clause-reached g c κs within = clusters_reached c.args.header.now c.args.lines c.args.replication.now c.args.reports.now c.requires.standing

pub returns : goal.returns
returns g c = λ w stand.
    behind_other c.args.header.now c.args.line.now c.args.replication.now c.run_other.new.replication c.args.reports.now w c.in_ok-told-2.told.0.text c.in_ok-told-2.told.0.seen c.in_ok-told-2.told.1
    (sym c.is_on_reports.ensures ∙ c.if-is_on_reports.false) stand c.in_ok-told-2.ensures
