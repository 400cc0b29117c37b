use Rattle.std.proofs.Common.{◌≡◌, List, sym, ◌∙◌, ap}
use Rattle.ndc_domain.specs.declared.record.DomainRecord.{DomainRecord}
use Rattle.ndc_domain.specs.Merge.{merged, merge_count}
use Rattle.ndc_domain.proofs.NoNews.{merge_nothing, nothing_merged}
use Rattle.ndc_domain.proofs.table.DomainTable.lacks.Goals as goal

-- where nothing is counted, nothing is changed
pub returns-then-count-eq0-clause-nothing : goal.returns-then-count-eq0-clause-nothing
returns-then-count-eq0-clause-nothing c = λ same.
    let ours : List DomainRecord = c.self.inside.records.items in
    let theirs : List DomainRecord = c.other.inside.records.items in
    let none : merge_count ours theirs ≡ 0 =
    rw (c.as_slice.ensures.value, c.as_slice-2.ensures.value) at (sym c.merge_count-count.ensures ∙ c.if-count-eq0.true) in
    ap (λ (records : List DomainRecord). merged records c.args.other.now) (sym c.self.view_is) ∙ ap (λ (records : List DomainRecord). merged ours records) (sym c.other.view_is)
    ∙ merge_nothing ours theirs c.self.invariant c.other.invariant none ∙ c.self.view_is

-- and where something is, merging changes something
pub returns-clause-something : goal.returns-clause-something
returns-clause-something c = λ same kept.
    let ours : List DomainRecord = c.self.inside.records.items in
    let theirs : List DomainRecord = c.other.inside.records.items in
    let stays : merged ours theirs ≡ ours =
    ap (λ (records : List DomainRecord). merged records theirs) c.self.view_is ∙ ap (λ (records : List DomainRecord). merged c.args.self.now records) c.other.view_is ∙ kept ∙ sym c.self.view_is in
    let none : merge_count ours theirs ≡ 0 = nothing_merged ours theirs c.self.invariant c.other.invariant stays in
    c.if-count-eq0.false (c.merge_count-count.ensures ∙ rw (c.as_slice.ensures.value, c.as_slice-2.ensures.value) none)
