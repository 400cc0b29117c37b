use Rattle.std.proofs.Common.{List, subst, sym}
use Rattle.ndc_model_cells.specs.Writing.{Entry}
use Rattle.ndc_shard.specs.Shards.{AreLone, AreOneOrTwo, AreWritable}
use Rattle.ndc_shard.proofs.AskedLemmas.{reset-writable}
use Rattle.ndc_shard.proofs.LoneLemmas.{reset_lone, some-written}
use Rattle.ndc_shard.proofs.shard.Shard.write_reset.Goals as goal

pub write_all-requires-clause-may : goal.write_all-requires-clause-may
write_all-requires-clause-may g c =
    subst (λ (list : List Entry). AreWritable list c.args.self.now) (sym c.as_slice-2.ensures.value)
    (reset-writable c.args.desk.now c.args.domain.now c.args.workflow.now c.args.event c.args.self.now c.in_ok-entries.entries.items c.in_ok-entries.ensures.fit c.requires c.in_ok-entries.ensures.entries)

pub write_all-requires-clause-lone : goal.write_all-requires-clause-lone
write_all-requires-clause-lone g c =
    subst AreLone (sym c.as_slice-2.ensures.value)
    (reset_lone c.args.desk.now c.args.domain.now c.args.workflow.now c.args.event c.args.self.now c.in_ok-entries.entries.items c.in_ok-entries.ensures.entries).0

pub write_all-requires-clause-some : goal.write_all-requires-clause-some
write_all-requires-clause-some g c =
    subst AreOneOrTwo (sym c.as_slice-2.ensures.value)
    (reset_lone c.args.desk.now c.args.domain.now c.args.workflow.now c.args.event c.args.self.now c.in_ok-entries.entries.items c.in_ok-entries.ensures.entries).1

pub returns-clause-some : goal.returns-clause-some
returns-clause-some g c =
    some-written c.in_ok-entries.entries.items
    (reset_lone c.args.desk.now c.args.domain.now c.args.workflow.now c.args.event c.args.self.now c.in_ok-entries.entries.items c.in_ok-entries.ensures.entries).1
    c.in_ok-batches.batches c.as_slice.result.now c.as_slice.ensures.value c.in_ok-batches.ensures
