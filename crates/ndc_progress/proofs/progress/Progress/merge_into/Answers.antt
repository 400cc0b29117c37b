use Rattle.std.proofs.Common.{ap, sym, subst, ◌∙◌, length}
use Rattle.std.specs.Map.{values_of}
use Rattle.indexmap.specs.IndexMap.{insert_all}
use Rattle.ndc_progress.specs.Keyed.{AreKeyed, news}
use Rattle.ndc_progress.specs.Reports.{merge_count, merged, same_activity}
use Rattle.ndc_progress.proofs.MergeLemmas.{all_keyed, count_merged, once, put_merges}
use Rattle.ndc_progress.proofs.progress.Progress.merge_into.Goals as goal

pub invariant_of-self-2 : goal.invariant_of-self-2
invariant_of-self-2 c =
    let own = c.self.inside.reports.entries in
    let put = c.put_all.ensures ∙ (λ i. insert_all same_activity (c.in_ok-reserve.ensures.entries i) (c.in_ok-taken.ensures i)) in
    subst AreKeyed (sym put) (all_keyed own (news (values_of own) (values_of c.other.inside.reports.entries)) c.self.invariant)

pub returns-clause-count : goal.returns-clause-count
returns-clause-count c =
    c.len-count.ensures ∙ c.in_ok-taken.taken.ok.0 ∙ ap length c.in_ok-taken.ensures
    ∙ count_merged (values_of c.self.inside.reports.entries) (values_of c.other.inside.reports.entries) (once c.other.inside.reports.entries c.other.invariant)
    ∙ (λ i. merge_count (c.self.view_is i) (c.other.view_is i))

pub returns-clause-merged : goal.returns-clause-merged
returns-clause-merged c =
    let own = c.self.inside.reports.entries in
    let put = c.put_all.ensures ∙ (λ i. insert_all same_activity (c.in_ok-reserve.ensures.entries i) (c.in_ok-taken.ensures i)) in
    ap values_of put ∙ put_merges own (values_of c.other.inside.reports.entries) c.self.invariant (once c.other.inside.reports.entries c.other.invariant)
    ∙ (λ i. merged (c.self.view_is i) (c.other.view_is i))
