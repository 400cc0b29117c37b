use Rattle.std.proofs.Common.{◌≡◌, List, [], ap, drop, length, slice_index_or, slice_set, subst, sym, ◌∙◌}
use Rattle.std.proofs.lemmas.List.{get_or_read, set-get_or}
use Rattle.ndc_progress.specs.Holdings.{AreInStep, HoldingValue, having_taken, held_by, holding_at, new_holding, unseen}
use Rattle.ndc_progress.specs.Keyed.{AreOnce}
use Rattle.ndc_progress.specs.Reports.{greatest_of, merge_count, merged}
use Rattle.ndc_progress.proofs.HoldingLemmas.{count_behind, greatest_once, held_place, held_set, left_taken, place_below, taken_held, taken_in_step}
use Rattle.ndc_progress.proofs.reports.Reports.take_over.Goals as goal

pub take_over-requires-clause-once : goal.take_over-requires-clause-once
take_over-requires-clause-once c = subst AreOnce (sym c.in_ok-fresh.ensures) (greatest_once (drop c.seen-seen.result c.index-other.result.now.log))

pub invariant_of-self : goal.invariant_of-self
invariant_of-self c =
    let all : List HoldingValue = c.self.inside.holdings.items in
    let below = place_below all c.args.self.now c.args.to c.self.view_is c.requires.to in
    let own : c.index_mut-own.result.now ≡ holding_at all c.args.to = get_or_read all c.args.to c.index_mut-own.result.now below c.index_mut-own.ensures.value (new_holding 0) in
    subst (λ (h : HoldingValue). AreInStep (slice_set all c.args.to h)) (sym (c.in_err-count.ensures.unchanged ∙ own))
    (subst AreInStep (sym (set-get_or all c.args.to (new_holding 0))) c.self.invariant)

pub invariant_of-self-2 : goal.invariant_of-self-2
invariant_of-self-2 c =
    let all : List HoldingValue = c.self.inside.holdings.items in
    let below = place_below all c.args.self.now c.args.to c.self.view_is c.requires.to in
    let within = place_below all c.args.self.now c.args.from c.self.view_is c.requires.from in
    let left =
    left_taken all c.args.to c.args.from c.index.result.now c.index_mut-own.result.now c.index-other.result.now c.take_over.new.self c.seen-seen.result c.told-told.result c.in_ok-fresh.fresh below within
    c.index.ensures c.index_mut-own.ensures.value c.index-other.ensures c.seen-seen.ensures c.told-told.ensures c.in_ok-fresh.ensures c.in_ok-count.ensures.taken in
    subst (λ (h : HoldingValue). AreInStep (slice_set all c.args.to h)) (sym left) (taken_in_step all c.args.to c.args.from c.self.invariant below within)

pub returns-clause-count : goal.returns-clause-count
returns-clause-count c =
    let all : List HoldingValue = c.self.inside.holdings.items in
    let below = place_below all c.args.self.now c.args.to c.self.view_is c.requires.to in
    let within = place_below all c.args.self.now c.args.from c.self.view_is c.requires.from in
    let first : c.index.result.now ≡ holding_at all c.args.to = get_or_read all c.args.to c.index.result.now below c.index.ensures (new_holding 0) in
    let own : c.index_mut-own.result.now ≡ holding_at all c.args.to = get_or_read all c.args.to c.index_mut-own.result.now below c.index_mut-own.ensures.value (new_holding 0) in
    let other : c.index-other.result.now ≡ holding_at all c.args.from = get_or_read all c.args.from c.index-other.result.now within c.index-other.ensures (new_holding 0) in
    let seen = c.seen-seen.ensures ∙ ap (λ (h : HoldingValue). slice_index_or h.seen c.args.from 0) first in
    c.in_ok-count.ensures.count
    ∙ ap (merge_count (greatest_of c.index_mut-own.result.now.log)) c.in_ok-fresh.ensures
    ∙ (λ i. merge_count (greatest_of (own i).log) (greatest_of (drop (seen i) (other i).log)))
    ∙ count_behind (holding_at all c.args.to).log (holding_at all c.args.from).log (slice_index_or (holding_at all c.args.to).seen c.args.from 0) (c.self.invariant.seen c.args.to c.args.from)
    ∙ (λ i. merge_count (held_place all c.args.self.now c.args.to c.self.view_is i) (held_place all c.args.self.now c.args.from c.self.view_is i))

pub returns-clause-taken : goal.returns-clause-taken
returns-clause-taken c =
    let all : List HoldingValue = c.self.inside.holdings.items in
    let below = place_below all c.args.self.now c.args.to c.self.view_is c.requires.to in
    let within = place_below all c.args.self.now c.args.from c.self.view_is c.requires.from in
    let left =
    left_taken all c.args.to c.args.from c.index.result.now c.index_mut-own.result.now c.index-other.result.now c.take_over.new.self c.seen-seen.result c.told-told.result c.in_ok-fresh.fresh below within
    c.index.ensures c.index_mut-own.ensures.value c.index-other.ensures c.seen-seen.ensures c.told-told.ensures c.in_ok-fresh.ensures c.in_ok-count.ensures.taken in
    let own : HoldingValue = holding_at all c.args.to in
    let other : HoldingValue = holding_at all c.args.from in
    let taken : HoldingValue = having_taken c.args.from (unseen own other c.args.from) (length other.log) own in
    let held : greatest_of taken.log ≡ merged (slice_index_or c.args.self.now c.args.to []) (slice_index_or c.args.self.now c.args.from []) =
    taken_held own other c.args.from (length other.log) (c.self.invariant.seen c.args.to c.args.from)
    ∙ (λ i. merged (held_place all c.args.self.now c.args.to c.self.view_is i) (held_place all c.args.self.now c.args.from c.self.view_is i)) in
    ap (λ (h : HoldingValue). held_by (slice_set all c.args.to h)) left ∙ held_set all c.args.to taken ∙ (λ i. slice_set (c.self.view_is i) c.args.to (held i))
