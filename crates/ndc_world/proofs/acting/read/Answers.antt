use Rattle.std.proofs.Common.{subst}
use Rattle.ndc_script_types.specs.WellFormed.{IsWellFormedAct}
use Rattle.ndc_world.proofs.ReachedLemmas.{learned_in_range, members_known, orderly, sources_known}
use Rattle.ndc_world.proofs.acting.read.Goals as goal

pub members-requires-clause-members : goal.members-requires-clause-members
members-requires-clause-members g c =
    members_known c.args.header.now c.args.lines c.args.replication.now c.requires.reached c.in-MembersOf.at c.in-MembersOf.domain (subst (IsWellFormedAct c.args.header.now) c.in-MembersOf.is c.requires.act).0

pub levels-requires-clause-orderly : goal.levels-requires-clause-orderly
levels-requires-clause-orderly g c = orderly c.args.header.now c.args.lines c.args.replication.now c.requires.reached

pub compare-requires-clause-range_one : goal.compare-requires-clause-range_one
compare-requires-clause-range_one g c =
    learned_in_range c.args.header.now c.args.lines c.args.replication.now c.requires.reached c.requires.header c.in-Compare.one c.in-Compare.domain c.in-Compare.workflow (subst (IsWellFormedAct c.args.header.now) c.in-Compare.is c.requires.act).0.known

pub compare-requires-clause-range_two : goal.compare-requires-clause-range_two
compare-requires-clause-range_two g c =
    learned_in_range c.args.header.now c.args.lines c.args.replication.now c.requires.reached c.requires.header c.in-Compare.two c.in-Compare.domain c.in-Compare.workflow (subst (IsWellFormedAct c.args.header.now) c.in-Compare.is c.requires.act).1

pub letters-requires-clause-sources : goal.letters-requires-clause-sources
letters-requires-clause-sources g c = sources_known c.args.header.now c.args.lines c.args.replication.now c.requires.reached c.in-LettersOf.reader (subst (IsWellFormedAct c.args.header.now) c.in-LettersOf.is c.requires.act)
