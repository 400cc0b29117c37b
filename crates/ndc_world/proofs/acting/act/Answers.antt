use Rattle.std.proofs.Common.{subst}
use Rattle.ndc_script_types.specs.WellFormed.{IsWellFormedAct}
use Rattle.ndc_world.proofs.ReachedLemmas.{config_small, handovers_fit, orderly, sources_known}
use Rattle.ndc_world.proofs.acting.act.Goals as goal

pub retain-requires-clause-config : goal.retain-requires-clause-config
retain-requires-clause-config g c =
    config_small c.args.header.now c.args.lines c.args.replication.now c.requires.reached c.in-Retain.at c.in-Retain.domain (subst (IsWellFormedAct c.args.header.now) c.in-Retain.is c.requires.act).0

pub pull-requires-clause-orderly : goal.pull-requires-clause-orderly
pull-requires-clause-orderly g c = orderly c.args.header.now c.args.lines c.args.replication.now c.requires.reached

pub pull_some-requires-clause-orderly : goal.pull_some-requires-clause-orderly
pull_some-requires-clause-orderly g c = orderly c.args.header.now c.args.lines c.args.replication.now c.requires.reached

pub work-requires-clause-orderly : goal.work-requires-clause-orderly
work-requires-clause-orderly g c κs within = orderly c.args.header.now c.args.lines c.args.replication.now c.requires.reached

pub trim-requires-clause-orderly : goal.trim-requires-clause-orderly
trim-requires-clause-orderly g c = orderly c.args.header.now c.args.lines c.args.replication.now c.requires.reached

pub bootstrap-requires-clause-orderly : goal.bootstrap-requires-clause-orderly
bootstrap-requires-clause-orderly g c κs within = orderly c.args.header.now c.args.lines c.args.replication.now c.requires.reached

pub settle-requires-clause-orderly : goal.settle-requires-clause-orderly
settle-requires-clause-orderly g c κs within = orderly c.args.header.now c.args.lines c.args.replication.now c.requires.reached

pub complete-requires-clause-fit : goal.complete-requires-clause-fit
complete-requires-clause-fit g c = handovers_fit c.args.header.now c.args.lines c.args.replication.now c.requires.reached

pub merge-requires-clause-orderly : goal.merge-requires-clause-orderly
merge-requires-clause-orderly g c κs within = orderly c.args.header.now c.args.lines c.args.replication.now c.requires.reached

pub merge-requires-clause-sources : goal.merge-requires-clause-sources
merge-requires-clause-sources g c κs within =
    sources_known c.args.header.now c.args.lines c.args.replication.now c.requires.reached c.in-MergeLetters.reader (subst (IsWellFormedAct c.args.header.now) c.in-MergeLetters.is c.requires.act)
