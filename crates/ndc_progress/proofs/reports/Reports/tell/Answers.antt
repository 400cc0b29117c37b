use Rattle.std.proofs.Common.{◌≡◌, List, [], ap, slice_index_or, slice_set, subst, sym, ◌∙◌}
use Rattle.std.proofs.lemmas.List.{get_or_read}
use Rattle.ndc_progress.specs.Holdings.{AreInStep, HoldingValue, having_told, held_by, holding_at, new_holding}
use Rattle.ndc_progress.specs.Reports.{greatest_of, next_report, with_report}
use Rattle.ndc_progress.specs.declared.report.Report.{Report}
use Rattle.ndc_progress.proofs.GreatestLemmas.{greatest_more}
use Rattle.ndc_progress.proofs.HoldingLemmas.{held_at, held_set, place_below, told_in_step}
use Rattle.ndc_progress.proofs.reports.Reports.tell.Goals as goal

pub invariant_of-self-2 : goal.invariant_of-self-2
invariant_of-self-2 c =
    let all : List HoldingValue = c.self.inside.holdings.items in
    let below = place_below all c.args.self.now c.args.cluster c.self.view_is c.requires.cluster in
    let own : c.index_mut-own.result.now ≡ holding_at all c.args.cluster = get_or_read all c.args.cluster c.index_mut-own.result.now below c.index_mut-own.ensures.value (new_holding 0) in
    let left = c.in_ok-beat.ensures.told ∙ ap (λ (h : HoldingValue). having_told (next_report c.args.activity c.args.version c.args.details (greatest_of h.log)) h) own in
    subst (λ (h : HoldingValue). AreInStep (slice_set all c.args.cluster h)) (sym left)
    (told_in_step all c.args.cluster (next_report c.args.activity c.args.version c.args.details (greatest_of (holding_at all c.args.cluster).log)) c.self.invariant below)

pub returns-clause-told : goal.returns-clause-told
returns-clause-told c =
    let all : List HoldingValue = c.self.inside.holdings.items in
    let below = place_below all c.args.self.now c.args.cluster c.self.view_is c.requires.cluster in
    let own : c.index_mut-own.result.now ≡ holding_at all c.args.cluster = get_or_read all c.args.cluster c.index_mut-own.result.now below c.index_mut-own.ensures.value (new_holding 0) in
    let told : Report = next_report c.args.activity c.args.version c.args.details (greatest_of (holding_at all c.args.cluster).log) in
    let left : c.tell.new.self ≡ having_told told (holding_at all c.args.cluster) =
    c.in_ok-beat.ensures.told ∙ ap (λ (h : HoldingValue). having_told (next_report c.args.activity c.args.version c.args.details (greatest_of h.log)) h) own in
    ap (λ (h : HoldingValue). held_by (slice_set all c.args.cluster h)) left
    ∙ held_set all c.args.cluster (having_told told (holding_at all c.args.cluster))
    ∙ ap (slice_set (held_by all) c.args.cluster) (greatest_more (holding_at all c.args.cluster).log told)
    ∙ ap (λ (l : List Report). slice_set (held_by all) c.args.cluster (with_report l (next_report c.args.activity c.args.version c.args.details l))) (sym (held_at all c.args.cluster))
    ∙ ap (λ (reports : List (List Report)). slice_set reports c.args.cluster (with_report (slice_index_or reports c.args.cluster []) (next_report c.args.activity c.args.version c.args.details (slice_index_or reports c.args.cluster [])))) c.self.view_is
