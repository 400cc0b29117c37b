use Rattle.std.proofs.Common.{◌≡◌, ◌++◌, [], ◌∷◌, List, Some, ap, ◌∙◌, subst, sym}
use Rattle.ndc_event.specs.declared.batch.Batch.{Batch}
use Rattle.ndc_model_cells.specs.Cells.{Cell}
use Rattle.ndc_model_cells.specs.Messages.{carrying}
use Rattle.ndc_model_cells.specs.Places.{place_of}
use Rattle.ndc_model_cells.specs.Workflow.{workflow_of}
use Rattle.ndc_model_cells.specs.Writing.{with_batches}
use Rattle.ndc_model_cells.specs.declared.place.Place.{Place}
use Rattle.ndc_shard_workflows.specs.Writing.{IsMadeTogether, MayBeWrittenTogether}
use Rattle.ndc_shard.proofs.PairLemmas.{pair-writable}
use Rattle.ndc_shard.proofs.TwoLemmas.{pair, two-messages, two-sent}
use Rattle.ndc_shard.specs.Sent.{messages_at}
use Rattle.ndc_shard_workflows.specs.Refused.{IsNotWritten}
use Rattle.ndc_shard.proofs.shard.Shard.try_write_both.Goals as goal

pub try_write-requires : goal.try_write-requires
try_write-requires g c =
    let first = c.args.first.now in
    subst (λ (b : Batch). IsMadeTogether (carrying b (Some c.batch-4.result.now))) (sym c.batch-3.ensures)
    (subst (λ (b : Batch). IsMadeTogether (carrying first.batch (Some b))) (sym c.batch-4.ensures) c.requires.made)

pub invariant_of-self-2 : goal.invariant_of-self-2
invariant_of-self-2 g c =
    let first = c.args.first.now in
    let second = c.args.second.now in
    let together : MayBeWrittenTogether (carrying first.batch (Some second.batch)) (workflow_of first.batch.domain first.batch.workflow c.self.inside.workflows) =
    subst (λ (b : Batch). MayBeWrittenTogether (carrying first.batch (Some b)) (workflow_of first.batch.domain first.batch.workflow c.self.inside.workflows)) c.batch-4.ensures
    (subst (λ (b : Batch). MayBeWrittenTogether (carrying b (Some c.batch-4.result.now)) (workflow_of b.domain b.workflow c.self.inside.workflows)) c.batch-3.ensures c.in-Ok.ensures.may) in
    let may = pair-writable first second c.self.inside.workflows c.args.self.now (messages_at c.self.inside.places.items c.self.inside.workflows) c.self.view_is c.requires.two c.is_in_order.ensures.cell
    (c.is_in_order.ensures.workflows first.batch.domain first.batch.workflow) together in
    let cell_is : c.try_write.new.self ≡ with_batches (pair first second) c.self.inside.workflows =
    c.in-Ok.ensures.ok ∙ ap (λ (b : Batch). with_batches (record { batch = b; second = Some c.batch-4.result.now }) c.self.inside.workflows) c.batch-3.ensures
    ∙ ap (λ (b : Batch). with_batches (record { batch = first.batch; second = Some b }) c.self.inside.workflows) c.batch-4.ensures in
    let places_are : c.push_reserved-2.new.self.items ≡ (c.self.inside.places.items ++ place_of first.batch ∷ []) ++ place_of second.batch ∷ [] =
    c.push_reserved-2.ensures.items ∙ ap (λ (ps : List Place). ps ++ c.in_ok-behind.behind ∷ []) (c.push_reserved.ensures.items ∙ ap (λ (ps : List Place). ps ++ c.in_ok-place.place ∷ []) c.in_ok-reserve.ensures.items)
    ∙ ap (λ (p : Place). (c.self.inside.places.items ++ p ∷ []) ++ c.in_ok-behind.behind ∷ []) (c.in_ok-place.ensures ∙ ap place_of c.batch.ensures)
    ∙ ap (λ (p : Place). (c.self.inside.places.items ++ place_of first.batch ∷ []) ++ p ∷ []) (c.in_ok-behind.ensures ∙ ap place_of c.batch-2.ensures) in
    two-sent first second c.self.inside.workflows c.try_write.new.self c.self.inside.places.items c.push_reserved-2.new.self.items c.args.self.now c.self.view_is c.is_in_order.ensures.cell
    c.requires.lone may c.requires.two c.self.invariant cell_is places_are

pub returns-clause-ok : goal.returns-clause-ok
returns-clause-ok g c =
    let first = c.args.first.now in
    let second = c.args.second.now in
    let together : MayBeWrittenTogether (carrying first.batch (Some second.batch)) (workflow_of first.batch.domain first.batch.workflow c.self.inside.workflows) =
    subst (λ (b : Batch). MayBeWrittenTogether (carrying first.batch (Some b)) (workflow_of first.batch.domain first.batch.workflow c.self.inside.workflows)) c.batch-4.ensures
    (subst (λ (b : Batch). MayBeWrittenTogether (carrying b (Some c.batch-4.result.now)) (workflow_of b.domain b.workflow c.self.inside.workflows)) c.batch-3.ensures c.in-Ok.ensures.may) in
    let may = pair-writable first second c.self.inside.workflows c.args.self.now (messages_at c.self.inside.places.items c.self.inside.workflows) c.self.view_is c.requires.two c.is_in_order.ensures.cell
    (c.is_in_order.ensures.workflows first.batch.domain first.batch.workflow) together in
    let cell_is : c.try_write.new.self ≡ with_batches (pair first second) c.self.inside.workflows =
    c.in-Ok.ensures.ok ∙ ap (λ (b : Batch). with_batches (record { batch = b; second = Some c.batch-4.result.now }) c.self.inside.workflows) c.batch-3.ensures
    ∙ ap (λ (b : Batch). with_batches (record { batch = first.batch; second = Some b }) c.self.inside.workflows) c.batch-4.ensures in
    let places_are : c.push_reserved-2.new.self.items ≡ (c.self.inside.places.items ++ place_of first.batch ∷ []) ++ place_of second.batch ∷ [] =
    c.push_reserved-2.ensures.items ∙ ap (λ (ps : List Place). ps ++ c.in_ok-behind.behind ∷ []) (c.push_reserved.ensures.items ∙ ap (λ (ps : List Place). ps ++ c.in_ok-place.place ∷ []) c.in_ok-reserve.ensures.items)
    ∙ ap (λ (p : Place). (c.self.inside.places.items ++ p ∷ []) ++ c.in_ok-behind.behind ∷ []) (c.in_ok-place.ensures ∙ ap place_of c.batch.ensures)
    ∙ ap (λ (p : Place). (c.self.inside.places.items ++ place_of first.batch ∷ []) ++ p ∷ []) (c.in_ok-behind.ensures ∙ ap place_of c.batch-2.ensures) in
    two-messages first second c.self.inside.workflows c.try_write.new.self c.self.inside.places.items c.push_reserved-2.new.self.items c.args.self.now c.self.view_is c.is_in_order.ensures.cell
    c.requires.lone may c.requires.two c.self.invariant cell_is places_are

pub returns-in-Err-clause-refused : goal.returns-in-Err-clause-refused
returns-in-Err-clause-refused g c =
    let first = c.args.first.now in
    let second = c.args.second.now in
    subst (λ (cell : Cell). IsNotWritten c.in-Err.cause (carrying first.batch (Some second.batch)) (workflow_of first.batch.domain first.batch.workflow cell)) c.self.view_is
    (subst (λ (b : Batch). IsNotWritten c.in-Err.cause (carrying first.batch (Some b)) (workflow_of first.batch.domain first.batch.workflow c.self.inside.workflows)) c.batch-4.ensures
    (subst (λ (b : Batch). IsNotWritten c.in-Err.cause (carrying b (Some c.batch-4.result.now)) (workflow_of b.domain b.workflow c.self.inside.workflows)) c.batch-3.ensures c.in-Err.ensures.refused))
