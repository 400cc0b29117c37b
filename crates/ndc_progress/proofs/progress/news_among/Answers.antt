use Rattle.std.proofs.Common.{◌≡◌, true, false, [], ◌∷◌, ◌++◌, Some, map, ap, sym, ◌∙◌}
use Rattle.std.specs.Map.{values_of}
use Rattle.std.proofs.lemmas.List.{map-append}
use Rattle.ndc_progress.specs.Keyed.{keyed, news}
use Rattle.ndc_progress.specs.Reports.{held, replaces}
use Rattle.ndc_progress.proofs.HeldLemmas.{news_more, news_same}
use Rattle.ndc_progress.proofs.progress.news_among.Goals as goal

pub loop-report-preserved-in_ok-push : goal.loop-report-preserved-in_ok-push
loop-report-preserved-in_ok-push c =
    let own = values_of c.args.own.now.entries in
    let told = c.in-Some.report.now in
    let found = c.find_near-behind.ensures in
    let greater : replaces (held told.activity own) (Some told) ≡ true =
    ap (λ o. replaces o (Some told)) (sym found) ∙ sym c.is_greater.ensures ∙ c.if-is_greater.true in
    c.in_ok-push.ensures.items ∙ ap (λ list. list ++ (c.in_ok-try_copy.field-0, c.in_ok-try_copy-2.field-0) ∷ []) c.loop-report.invariant
    ∙ (λ i. keyed (news own (map (λ report. report.now) c.loop-report.yielded)) ++ (c.in_ok-try_copy.ensures i, c.in_ok-try_copy-2.ensures i) ∷ [])
    ∙ sym (news_more own (map (λ report. report.now) c.loop-report.yielded) told greater)
    ∙ ap (λ list. keyed (news own list)) (sym (map-append (λ report. report.now) c.loop-report.yielded (c.in-Some.report ∷ [])))

pub loop-report-preserved : goal.loop-report-preserved
loop-report-preserved c =
    let own = values_of c.args.own.now.entries in
    let told = c.in-Some.report.now in
    let found = c.find_near-behind.ensures in
    let lesser : replaces (held told.activity own) (Some told) ≡ false =
    ap (λ o. replaces o (Some told)) (sym found) ∙ sym c.is_greater.ensures ∙ c.if-is_greater.false in
    c.loop-report.invariant ∙ sym (news_same own (map (λ report. report.now) c.loop-report.yielded) told lesser)
    ∙ ap (λ list. keyed (news own list)) (sym (map-append (λ report. report.now) c.loop-report.yielded (c.in-Some.report ∷ [])))
