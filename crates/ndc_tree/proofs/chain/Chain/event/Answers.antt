use Rattle.std.proofs.Common.{◌∙◌, ap, sym, subst, List}
use Rattle.ndc_event.specs.declared.batch.Batch.{Batch}
use Rattle.ndc_state.specs.Replay.{history_of}
use Rattle.ndc_tree.specs.Events.{event_of, AreInIdOrder}
use Rattle.ndc_tree.proofs.IdLemmas.{hit-event, part-event}
use Rattle.ndc_tree.proofs.chain.Chain.event.Goals as goal

pub returns-in-Ok : goal.returns-in-Ok
returns-in-Ok c =
    let batches = c.as_slice-batches.result.now in
    let same = c.as_slice-batches.ensures.value ∙ c.self.view_is in
    let are : AreInIdOrder batches = subst AreInIdOrder (sym same) c.requires in
    c.event_in.ensures ∙ ap (event_of c.args.id) c.as_slice.ensures ∙ ap (λ (b : Batch). event_of c.args.id b.events) (sym c.index-batches-place.is)
    ∙ sym (hit-event c.args.id batches c.in-Ok.place c.index-batches-place.result are.1 c.in-Ok.ensures.found c.index-batches-place.is)
    ∙ ap (λ (l : List Batch). event_of c.args.id (history_of l)) same

pub returns-in-Err : goal.returns-in-Err
returns-in-Err c =
    let batches = c.as_slice-batches.result.now in
    let same = c.as_slice-batches.ensures.value ∙ c.self.view_is in
    let are : AreInIdOrder batches = subst AreInIdOrder (sym same) c.requires in
    sym (part-event c.args.id batches c.in-Err.field-0 are.1 c.in-Err.ensures.absent) ∙ ap (λ (l : List Batch). event_of c.args.id (history_of l)) same
