use Rattle.std.proofs.Common.{◌≡◌, true, Some, ap, sym, subst, ◌∙◌}
use Rattle.std.specs.Map.{values_of}
use Rattle.indexmap.specs.IndexMap.{insert_entry}
use Rattle.ndc_progress.specs.Keyed.{AreKeyed, AreOnce}
use Rattle.ndc_progress.specs.Reports.{held, replaces, same_activity, with_report}
use Rattle.ndc_progress.proofs.HeldLemmas.{lookup_held, put_joins, put_keyed}
use Rattle.ndc_progress.proofs.MergeLemmas.{no_news, once}
use Rattle.ndc_progress.proofs.progress.Progress.take.Goals as goal

-- src/progress.rt:216:13
pub returns-then-not-is_greater-clause-taken : goal.returns-then-not-is_greater-clause-taken
returns-then-not-is_greater-clause-taken c =
    let report = c.args.report.now in
    let found = c.get.ensures.value ∙ lookup_held report.activity c.self.inside.reports.entries c.self.invariant ∙ ap (held report.activity) c.self.view_is in
    sym (no_news c.args.self.now report (subst AreOnce c.self.view_is (once c.self.inside.reports.entries c.self.invariant))
    (ap (λ o. replaces o (Some report)) (sym found) ∙ sym c.is_greater.ensures ∙ c.if-not-is_greater.true))

-- src/progress.rt:211:5
pub invariant_of-self-2 : goal.invariant_of-self-2
invariant_of-self-2 c =
    let put = c.in_ok-insert.ensures.entries ∙ (λ i. insert_entry same_activity c.self.inside.reports.entries (c.in_ok-key.ensures i) (c.in_ok-copy.ensures i)) in
    subst AreKeyed (sym put) (put_keyed c.self.inside.reports.entries c.args.report.now c.self.invariant)

-- src/progress.rt:211:5
pub returns-clause-taken : goal.returns-clause-taken
returns-clause-taken c =
    let report = c.args.report.now in
    let found = c.get.ensures.value ∙ lookup_held report.activity c.self.inside.reports.entries c.self.invariant in
    let replacing : replaces (held report.activity (values_of c.self.inside.reports.entries)) (Some report) ≡ true = ap (λ o. replaces o (Some report)) (sym found) ∙ sym c.is_greater.ensures ∙ c.if-not-is_greater.false in
    let put = c.in_ok-insert.ensures.entries ∙ (λ i. insert_entry same_activity c.self.inside.reports.entries (c.in_ok-key.ensures i) (c.in_ok-copy.ensures i)) in
    ap values_of put ∙ put_joins c.self.inside.reports.entries report c.self.invariant replacing ∙ ap (λ own. with_report own report) c.self.view_is
