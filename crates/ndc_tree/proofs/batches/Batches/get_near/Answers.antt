use Rattle.std.proofs.Common.{◌∙◌, ap, sym, subst, List}
use Rattle.ndc_model_sets.specs.Sets.{batch_at}
use Rattle.ndc_tree.specs.Segments.{against}
use Rattle.ndc_tree.specs.declared.batches.Segment.{Segment}
use Rattle.ndc_event.specs.Sorted.{Hits, Parts}
use Rattle.ndc_tree.proofs.SegmentLemmas.{hit-at, part-at}
use Rattle.ndc_tree.proofs.batches.Batches.get_near.Goals as goal

pub returns-in-Ok : goal.returns-in-Ok
returns-in-Ok c =
    let segments = c.self.inside.segments.items in
    c.get.ensures
    ∙ sym (hit-at c.args.key segments c.in-Ok.place c.index.result.now c.self.invariant
    (subst (λ (l : List Segment). Hits (against c.args.key.version) l c.in-Ok.place) c.as_slice.ensures.value c.in-Ok.ensures.found) c.index.ensures)
    ∙ ap (batch_at c.args.key) c.self.view_is

pub returns-in-Err : goal.returns-in-Err
returns-in-Err c =
    let segments = c.self.inside.segments.items in
    sym (part-at c.args.key segments c.in-Err.field-0 c.self.invariant
    (subst (λ (l : List Segment). Parts (against c.args.key.version) l c.in-Err.field-0) c.as_slice.ensures.value c.in-Err.ensures.absent))
    ∙ ap (batch_at c.args.key) c.self.view_is
