use Rattle.ndc_shard.proofs.AgainLemmas.{entry-may}
use Rattle.ndc_shard.proofs.LoneLemmas.{again_lone}
use Rattle.ndc_shard.proofs.shard.Shard.reapply_in.Goals as goal

pub write-requires-clause-may : goal.write-requires-clause-may
write-requires-clause-may g c =
    entry-may c.args.desk.now c.args.domain.now c.args.workflow.now c.args.self.now c.reapplication.new.self c.in_ok-entry.field-0 c.in-Some.entry
    c.in_ok-entry.ensures.same c.in-Some.is c.in_ok-entry.ensures.entry c.in_ok-entry.ensures.fit c.requires.room c.requires.may

pub write-requires-clause-lone : goal.write-requires-clause-lone
write-requires-clause-lone g c = again_lone c.args.desk.now c.args.domain.now c.args.workflow.now c.args.self.now c.in_ok-entry.field-0 c.in-Some.entry c.in-Some.is c.in_ok-entry.ensures.entry
