-- Counts of what was told.
use Rattle.std.proofs.Common.{◌≡◌, ◌+◌, Bool, List, [], ◌∷◌, ◌++◌, if◌then◌else◌, refl, ap, ◌∙◌, arith}
use Rattle.std.proofs.lemmas.Grind.{flat_map-append}
use Rattle.std.proofs.lemmas.List.{append-nil}
use Rattle.std.proofs.lemmas.List.Sums.{sum_by-cons}
use Rattle.ndc_event.specs.declared.batch.Event.{Event}
use Rattle.ndc_event.specs.declared.kind.EventKind.{EventKind}
use Rattle.ndc_index.specs.Texts.{count_kinds, events_told}
use Rattle.ndc_index.specs.Told.{count_told, counts}
use Rattle.ndc_index.specs.declared.indexer.Counted.{Counted}
use Rattle.ndc_index.specs.declared.seen.Seen.{Seen}

-- counting goes on after the first
count-cons : (test : EventKind → Bool) (e : Event) (es : List Event) → count_kinds test (e ∷ es) ≡ (if test e.kind then 1 else 0) + count_kinds test es
count-cons test e es = sum_by-cons (λ event. if test event.kind then 1 else 0) e es

-- counting goes on after a list
count-append : (test : EventKind → Bool) (es fs : List Event) → count_kinds test (es ++ fs) ≡ count_kinds test es + count_kinds test fs
count-append test [] fs = omega arith
count-append test (e ∷ es) fs =
    let whole = count-cons test e (es ++ fs) in
    let front = count-cons test e es in
    let more = count-append test es fs in
    omega (arith, whole, front, more)

-- what is counted when one more is told
pub count_more : (sort : Counted) (list : List Seen) (seen : Seen) → count_told sort (list ++ seen ∷ []) ≡ count_told sort list + count_kinds (counts sort) seen.batch.events
unfolding count_told
count_more sort list seen =
    ap (count_kinds (counts sort)) (flat_map-append (λ told. told.batch.events) list (seen ∷ []) ∙ ap (λ rest. events_told list ++ rest) (append-nil seen.batch.events))
    ∙ count-append (counts sort) (events_told list) seen.batch.events

-- nothing is counted where nothing was told
pub count_none : (sort : Counted) → count_told sort [] ≡ 0
unfolding count_told
count_none sort = refl
