use Rattle.std.proofs.Common.{◌≡◌, List, set, Ok, Some, refl, ap, ◌∙◌, sym, subst}
use Rattle.ndc_domain.specs.declared.record.DomainRecord.{DomainRecord}
use Rattle.ndc_domain.specs.Members.{AreMembers, with_member}
use Rattle.ndc_domain.specs.Flags.{where_AreMembers}
use Rattle.ndc_domain.specs.Records.{record_of, put_record, join_of}
use Rattle.ndc_domain.specs.Places.{IsAt}
use Rattle.ndc_domain.proofs.Edits.{read_found, read_sound, put_is_written, written_table, join_done}
use Rattle.ndc_domain.proofs.table.DomainTable.join.Goals as goal

-- the record at the place has one more member
pub invariant_of-self-2 : goal.invariant_of-self-2
invariant_of-self-2 c =
    let at : IsAt c.self.inside.records.items c.args.name.now c.in-Ok.place = rw c.as_slice.ensures.value at c.in-Ok.ensures.found in
    let old : DomainRecord = c.index_mut-record.result.now in
    let sound = read_sound c.self.inside.records.items c.self.invariant c.args.name.now c.in-Ok.place at old c.index_mut-record.ensures.value in
    let ascending : AreMembers c.with-record.result = subst AreMembers (sym c.with-record.ensures) (where_AreMembers _) in
    written_table c.self.inside.records.items c.self.invariant c.args.name.now c.in-Ok.place at old c.index_mut-record.ensures.value
    (record old { members = c.with-record.result }) refl (sound.0.0, ascending)

pub returns-clause-answer : goal.returns-clause-answer
returns-clause-answer c =
    let items : List DomainRecord = c.self.inside.records.items in
    let at : IsAt items c.args.name.now c.in-Ok.place = rw c.as_slice.ensures.value at c.in-Ok.ensures.found in
    let old : DomainRecord = c.index_mut-record.result.now in
    let new : DomainRecord = record old { members = with_member old.members c.args.member.number } in
    let found : record_of items c.args.name.now ≡ Some old =
    read_found items c.self.invariant c.args.name.now c.in-Ok.place at old c.index_mut-record.ensures.value in
    let written : put_record new items ≡ set items c.in-Ok.place new =
    put_is_written items c.self.invariant c.args.name.now c.in-Ok.place at old c.index_mut-record.ensures.value new refl in
    rw c.with-record.ensures
    (subst (λ (records : List DomainRecord). join_of c.args.at c.args.name.now c.args.member records ≡ Ok (set items c.in-Ok.place new))
    c.self.view_is
    (join_done c.args.at c.args.name.now c.args.member items old c.if-at-ne0.false found (sym c.if-has.ensures.has)
    ∙ ap (λ (records : List DomainRecord). Ok records) written))
