use Rattle.std.proofs.Common.{◌≡◌, List, sym, ◌∙◌, ap}
use Rattle.ndc_domain.specs.declared.record.DomainRecord.{DomainRecord}
use Rattle.ndc_domain.specs.Merge.{merged, merge_count}
use Rattle.ndc_domain.proofs.BothTables.{IsTable-merged}
use Rattle.ndc_domain.proofs.NoNews.{merge_nothing}
use Rattle.ndc_domain.proofs.table.DomainTable.merge.Goals as goal

-- where nothing is counted, nothing is changed
pub returns-then-count-eq0-clause-merged : goal.returns-then-count-eq0-clause-merged
returns-then-count-eq0-clause-merged c =
    let ours : List DomainRecord = c.self.inside.records.items in
    let theirs : List DomainRecord = c.other.inside.records.items in
    let none : merge_count ours theirs ≡ 0 =
    rw (c.as_slice.ensures.value, c.as_slice-2.ensures.value) at (sym c.merge_count-count.ensures ∙ c.if-count-eq0.true) in
    sym (merge_nothing ours theirs c.self.invariant c.other.invariant none ∙ c.self.view_is)
    ∙ ap (λ (records : List DomainRecord). merged records theirs) c.self.view_is
    ∙ ap (λ (records : List DomainRecord). merged c.args.self.now records) c.other.view_is

-- two tables merged are a table
pub invariant_of-self : goal.invariant_of-self
invariant_of-self c =
    rw (c.in_ok-records.ensures, c.as_slice-3.ensures.value, c.as_slice-4.ensures.value)
    (IsTable-merged c.self.inside.records.items c.other.inside.records.items c.self.invariant c.other.invariant)
