use Rattle.std.proofs.Common.{sym, ◌∙◌, subst}
use Rattle.ndc_domain.specs.declared.record.DomainRecord.{DomainRecord}
use Rattle.ndc_domain.specs.Records.{IsTable}
use Rattle.ndc_domain.specs.Places.{IsGap}
use Rattle.ndc_domain.proofs.Tables.{IsTable-put}
use Rattle.ndc_domain.proofs.table.DomainTable.register.Goals as goal

-- a sound record goes in
pub invariant_of-self-2 : goal.invariant_of-self-2
invariant_of-self-2 c =
    let gap : IsGap c.self.inside.records.items c.args.name.now c.in-Err.place = rw c.as_slice.ensures.value at c.in-Err.ensures.absent in
    let new : DomainRecord = record { name = c.in_ok-name.name; version = c.first_version-version.result; config = 0; days = c.args.days; members = c.args.members } in
    subst IsTable (gap.put new c.in_ok-name.ensures ∙ sym c.in_ok-insert.ensures.items)
    (IsTable-put new c.self.inside.records.items c.self.invariant (c.first_version-version.ensures.most, c.has.ensures.ascending))
