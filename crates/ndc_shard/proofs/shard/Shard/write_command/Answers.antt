use Rattle.ndc_shard.proofs.AskedLemmas.{command-writable}
use Rattle.ndc_shard.proofs.LoneLemmas.{command_lone}
use Rattle.ndc_shard.proofs.shard.Shard.write_command.Goals as goal

pub write-requires-clause-may : goal.write-requires-clause-may
write-requires-clause-may g c =
    (command-writable c.args.desk.now c.args.domain.now c.args.workflow.now c.args.command.now c.args.self.now _ c.in_ok-entry.ensures.fit c.requires c.in_ok-entry.ensures.entries).0

pub write-requires-clause-lone : goal.write-requires-clause-lone
write-requires-clause-lone g c =
    (command_lone c.args.desk.now c.args.domain.now c.args.workflow.now c.args.command.now c.args.self.now _ c.in_ok-entry.ensures.entries).0
