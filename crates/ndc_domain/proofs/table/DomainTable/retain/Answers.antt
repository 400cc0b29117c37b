use Rattle.std.proofs.Common.{◌≡◌, ◌+◌, List, set, Ok, Some, refl, ap, ◌∙◌, subst}
use Rattle.ndc_domain.specs.declared.record.DomainRecord.{DomainRecord}
use Rattle.ndc_domain.specs.Records.{record_of, put_record, retain_of, retained}
use Rattle.ndc_domain.specs.Places.{IsAt}
use Rattle.ndc_domain.proofs.Edits.{read_found, read_sound, put_is_written, written_table, retain_done}
use Rattle.ndc_domain.proofs.table.DomainTable.retain.Goals as goal

-- the record at the place has other days
pub invariant_of-self : goal.invariant_of-self
invariant_of-self c =
    let at : IsAt c.self.inside.records.items c.args.name.now c.in-Ok.place = rw c.as_slice.ensures.value at c.in-Ok.ensures.found in
    let old : DomainRecord = c.index_mut-record.result.now in
    let sound = read_sound c.self.inside.records.items c.self.invariant c.args.name.now c.in-Ok.place at old c.index_mut-record.ensures.value in
    written_table c.self.inside.records.items c.self.invariant c.args.name.now c.in-Ok.place at old c.index_mut-record.ensures.value
    (retained c.args.days old) refl sound.0

pub returns-clause-answer : goal.returns-clause-answer
returns-clause-answer c =
    let items : List DomainRecord = c.self.inside.records.items in
    let at : IsAt items c.args.name.now c.in-Ok.place = rw c.as_slice.ensures.value at c.in-Ok.ensures.found in
    let old : DomainRecord = c.index_mut-record.result.now in
    let found : record_of items c.args.name.now ≡ Some old =
    read_found items c.self.invariant c.args.name.now c.in-Ok.place at old c.index_mut-record.ensures.value in
    let written : put_record (retained c.args.days old) items ≡ set items c.in-Ok.place (retained c.args.days old) =
    put_is_written items c.self.invariant c.args.name.now c.in-Ok.place at old c.index_mut-record.ensures.value (retained c.args.days old) refl in
    subst (λ (records : List DomainRecord). retain_of c.args.at c.args.name.now c.args.days records ≡ Ok (old.config + 1, set items c.in-Ok.place (retained c.args.days old)))
    c.self.view_is
    (retain_done c.args.at c.args.name.now c.args.days items old c.if-at-ne0.false found
    ∙ ap (λ (records : List DomainRecord). Ok (old.config + 1, records)) written)
