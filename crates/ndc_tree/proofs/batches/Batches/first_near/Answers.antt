use Rattle.std.proofs.Common.{◌≡◌, ◌∙◌, ap, sym, subst, List, suc, drop, slice_get, add-one, Some, None, Option}
use Rattle.std.specs.Option.{option_or, option_copied}
use Rattle.ndc_event.specs.declared.batch.Batch.{Batch}
use Rattle.ndc_model_sets.specs.Last.{first_from}
use Rattle.ndc_tree.specs.Segments.{AreSegments, flat}
use Rattle.ndc_tree.specs.declared.batches.Segment.{Segment}
use Rattle.ndc_tree.proofs.SegmentLemmas.{hit-first, part-first}
use Rattle.ndc_tree.proofs.batches.Batches.first_near.Goals as goal

pub returns-in-Some : goal.returns-in-Some
returns-in-Some c =
    let segments = c.as_slice-segments.result.now in
    let are : AreSegments segments = subst AreSegments (sym c.as_slice-segments.ensures.value) c.self.invariant in
    let found : first_from c.args.key c.index-segments-place.result.chain ≡ Some c.in-Some.batch.now =
    ap (λ (s : Segment). first_from c.args.key s.chain) c.index-segments-place.is ∙ sym c.first_from.ensures ∙ ap option_copied c.in-Some.is in
    sym (hit-first c.args.key segments c.in-Ok.place c.index-segments-place.result are c.in-Ok.ensures.found c.index-segments-place.is
    ∙ ap (λ (o : Option Batch). option_or o (slice_get (flat (drop (suc c.in-Ok.place) segments)) 0)) found)
    ∙ ap (λ (l : List Segment). first_from c.args.key (flat l)) c.as_slice-segments.ensures.value ∙ ap (first_from c.args.key) c.self.view_is

pub returns-in-None : goal.returns-in-None
returns-in-None c =
    let segments = c.as_slice-segments.result.now in
    let are : AreSegments segments = subst AreSegments (sym c.as_slice-segments.ensures.value) c.self.invariant in
    let none : first_from c.args.key c.index-segments-place.result.chain ≡ None =
    ap (λ (s : Segment). first_from c.args.key s.chain) c.index-segments-place.is ∙ sym c.first_from.ensures ∙ ap option_copied c.in-None.is in
    c.first_at.ensures ∙ ap (λ n. slice_get (flat (drop n segments)) 0) (add-one c.in-Ok.place)
    ∙ sym (hit-first c.args.key segments c.in-Ok.place c.index-segments-place.result are c.in-Ok.ensures.found c.index-segments-place.is
    ∙ ap (λ (o : Option Batch). option_or o (slice_get (flat (drop (suc c.in-Ok.place) segments)) 0)) none)
    ∙ ap (λ (l : List Segment). first_from c.args.key (flat l)) c.as_slice-segments.ensures.value ∙ ap (first_from c.args.key) c.self.view_is

pub returns-in-Err : goal.returns-in-Err
returns-in-Err c =
    let segments = c.as_slice-segments.result.now in
    let are : AreSegments segments = subst AreSegments (sym c.as_slice-segments.ensures.value) c.self.invariant in
    c.first_at-in-Err.ensures
    ∙ sym (part-first c.args.key segments c.in-Err.place are c.in-Err.ensures.absent)
    ∙ ap (λ (l : List Segment). first_from c.args.key (flat l)) c.as_slice-segments.ensures.value ∙ ap (first_from c.args.key) c.self.view_is
