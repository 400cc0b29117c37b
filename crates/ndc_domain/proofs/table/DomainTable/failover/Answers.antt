use Rattle.std.proofs.Common.{◌≡◌, List, set, Ok, Some, refl, ◌∙◌, ap, subst}
use Rattle.ndc_domain.specs.declared.record.DomainRecord.{DomainRecord}
use Rattle.ndc_domain.specs.Records.{record_of, put_record, failover_of, failover_version_of}
use Rattle.ndc_domain.specs.Places.{IsAt}
use Rattle.ndc_domain.proofs.Edits.{read_found, read_sound, put_is_written, written_table, failover_done}
use Rattle.ndc_domain.proofs.table.DomainTable.failover.Goals as goal

-- the record at the place has another version
pub invariant_of-self : goal.invariant_of-self
invariant_of-self c =
    let at : IsAt c.self.inside.records.items c.args.name.now c.in-Ok.place = rw c.as_slice.ensures.value at c.in-Ok.ensures.found in
    let old : DomainRecord = c.index_mut-record.result.now in
    let sound = read_sound c.self.inside.records.items c.self.invariant c.args.name.now c.in-Ok.place at old c.index_mut-record.ensures.value in
    written_table c.self.inside.records.items c.self.invariant c.args.name.now c.in-Ok.place at old c.index_mut-record.ensures.value
    (record old { version = c.in_ok-version.version }) refl (c.in_ok-version.ensures.most, sound.0.1)

pub returns-clause-answer : goal.returns-clause-answer
returns-clause-answer c =
    let items : List DomainRecord = c.self.inside.records.items in
    let at : IsAt items c.args.name.now c.in-Ok.place = rw c.as_slice.ensures.value at c.in-Ok.ensures.found in
    let old : DomainRecord = c.index_mut-record.result.now in
    let read : DomainRecord = c.index.result.now in
    let new : DomainRecord = record old { version = c.in_ok-version.version } in
    let found : record_of items c.args.name.now ≡ Some old =
    read_found items c.self.invariant c.args.name.now c.in-Ok.place at old c.index_mut-record.ensures.value in
    let seen : record_of items c.args.name.now ≡ Some read =
    read_found items c.self.invariant c.args.name.now c.in-Ok.place at read c.index.ensures in
    let same : read ≡ old = cc in
    let gives : failover_version_of c.args.clusters.now c.args.target old ≡ Ok c.in_ok-version.version =
    subst (λ (one : DomainRecord). failover_version_of c.args.clusters.now c.args.target one ≡ Ok c.in_ok-version.version) same c.in_ok-version.ensures.version in
    let written : put_record new items ≡ set items c.in-Ok.place new =
    put_is_written items c.self.invariant c.args.name.now c.in-Ok.place at old c.index_mut-record.ensures.value new refl in
    subst (λ (records : List DomainRecord). failover_of c.args.clusters.now c.args.name.now c.args.target records ≡ Ok (c.in_ok-version.version, set items c.in-Ok.place new))
    c.self.view_is
    (failover_done c.args.clusters.now c.args.name.now c.args.target items old c.in_ok-version.version found gives
    ∙ ap (λ (records : List DomainRecord). Ok (c.in_ok-version.version, records)) written)
