use Rattle.std.proofs.Common.{◌∙◌, ap, sym, subst, List}
use Rattle.ndc_event.specs.Sorted.{Hits, Parts}
use Rattle.ndc_tree.specs.Events.{AreVersionsInIdOrder, event_at}
use Rattle.ndc_tree.specs.Segments.{against}
use Rattle.ndc_tree.specs.declared.batches.Segment.{Segment}
use Rattle.ndc_tree.proofs.EventPlaces.{no-segment, segment-event, segment-ids}
use Rattle.ndc_tree.proofs.batches.Batches.event.Goals as goal

pub event-requires : goal.event-requires
event-requires c =
    let segments = c.self.inside.segments.items in
    segment-ids c.args.version segments c.in-Ok.place c.index.result.now c.self.invariant (subst AreVersionsInIdOrder (sym c.self.view_is) c.requires)
    (subst (λ (l : List Segment). Hits (against c.args.version) l c.in-Ok.place) c.as_slice.ensures.value c.in-Ok.ensures.found) c.index.ensures

pub returns-in-Ok : goal.returns-in-Ok
returns-in-Ok c =
    let segments = c.self.inside.segments.items in
    c.event.ensures
    ∙ sym (segment-event c.args.version c.args.id segments c.in-Ok.place c.index.result.now c.self.invariant (subst AreVersionsInIdOrder (sym c.self.view_is) c.requires)
    (subst (λ (l : List Segment). Hits (against c.args.version) l c.in-Ok.place) c.as_slice.ensures.value c.in-Ok.ensures.found) c.index.ensures)
    ∙ ap (event_at c.args.version c.args.id) c.self.view_is

pub returns-in-Err : goal.returns-in-Err
returns-in-Err c =
    let segments = c.self.inside.segments.items in
    sym (no-segment c.args.version c.args.id segments c.in-Err.field-0 c.self.invariant (subst AreVersionsInIdOrder (sym c.self.view_is) c.requires)
    (subst (λ (l : List Segment). Parts (against c.args.version) l c.in-Err.field-0) c.as_slice.ensures.value c.in-Err.ensures.absent))
    ∙ ap (event_at c.args.version c.args.id) c.self.view_is
