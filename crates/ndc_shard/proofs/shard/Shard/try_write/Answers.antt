use Rattle.std.proofs.Common.{◌≡◌, ◌++◌, [], ◌∷◌, List, Option, ap, ◌∙◌, subst, sym}
use Rattle.std.specs.Option.{option_copied}
use Rattle.ndc_event.specs.declared.batch.Batch.{Batch}
use Rattle.ndc_model_cells.specs.Cells.{Cell}
use Rattle.ndc_model_cells.specs.Messages.{carrying}
use Rattle.ndc_model_cells.specs.Places.{place_of}
use Rattle.ndc_model_cells.specs.Workflow.{workflow_of}
use Rattle.ndc_model_cells.specs.Writing.{with_batches}
use Rattle.ndc_model_cells.specs.declared.place.Place.{Place}
use Rattle.ndc_shard_workflows.specs.Refused.{IsNotWritten}
use Rattle.ndc_shard_workflows.specs.Writing.{IsMadeTogether, MayBeWrittenTogether}
use Rattle.ndc_shard.proofs.SentLemmas.{behind-write, write-messages}
use Rattle.ndc_shard.proofs.TryLemmas.{tried-may}
use Rattle.ndc_shard.specs.Sent.{messages_at}
use Rattle.ndc_shard.proofs.shard.Shard.try_write.Goals as goal

pub try_write-requires : goal.try_write-requires
try_write-requires g c =
    let entry = c.args.entry.now in
    subst (λ (b : Batch). IsMadeTogether (carrying b (option_copied c.second.result))) (sym c.batch-2.ensures)
    (subst (λ (o : Option Batch). IsMadeTogether (carrying entry.batch o)) (sym c.second.ensures) c.requires.made)

pub invariant_of-self-2 : goal.invariant_of-self-2
invariant_of-self-2 g c =
    let entry = c.args.entry.now in
    let cell_is : c.try_write.new.self ≡ with_batches entry c.self.inside.workflows =
    c.in-Ok.ensures.ok ∙ ap (λ (b : Batch). with_batches (record { batch = b; second = option_copied c.second.result }) c.self.inside.workflows) c.batch-2.ensures
    ∙ ap (λ (o : Option Batch). with_batches (record { batch = entry.batch; second = o }) c.self.inside.workflows) c.second.ensures in
    let places_are : c.push_reserved.new.self.items ≡ c.self.inside.places.items ++ place_of entry.batch ∷ [] =
    c.push_reserved.ensures.items ∙ ap (λ (ps : List Place). ps ++ c.in_ok-place.place ∷ []) c.in_ok-reserve.ensures.items
    ∙ ap (λ (p : Place). c.self.inside.places.items ++ p ∷ []) (c.in_ok-place.ensures ∙ ap place_of c.batch.ensures) in
    behind-write entry c.self.inside.workflows c.try_write.new.self c.self.inside.places.items c.push_reserved.new.self.items (messages_at c.self.inside.places.items c.self.inside.workflows) c.args.self.now
    c.self.view_is c.is_in_order.ensures.cell c.requires.lone (tried-may entry c.self.inside.workflows c.args.self.now (messages_at c.self.inside.places.items c.self.inside.workflows) c.self.view_is c.requires.message
    (subst (λ (o : Option Batch). MayBeWrittenTogether (carrying entry.batch o) (workflow_of entry.batch.domain entry.batch.workflow c.self.inside.workflows)) c.second.ensures
    (subst (λ (b : Batch). MayBeWrittenTogether (carrying b (option_copied c.second.result)) (workflow_of b.domain b.workflow c.self.inside.workflows)) c.batch-2.ensures c.in-Ok.ensures.may))) c.self.invariant cell_is places_are

pub returns-clause-ok : goal.returns-clause-ok
returns-clause-ok g c =
    let entry = c.args.entry.now in
    let cell_is : c.try_write.new.self ≡ with_batches entry c.self.inside.workflows =
    c.in-Ok.ensures.ok ∙ ap (λ (b : Batch). with_batches (record { batch = b; second = option_copied c.second.result }) c.self.inside.workflows) c.batch-2.ensures
    ∙ ap (λ (o : Option Batch). with_batches (record { batch = entry.batch; second = o }) c.self.inside.workflows) c.second.ensures in
    let places_are : c.push_reserved.new.self.items ≡ c.self.inside.places.items ++ place_of entry.batch ∷ [] =
    c.push_reserved.ensures.items ∙ ap (λ (ps : List Place). ps ++ c.in_ok-place.place ∷ []) c.in_ok-reserve.ensures.items
    ∙ ap (λ (p : Place). c.self.inside.places.items ++ p ∷ []) (c.in_ok-place.ensures ∙ ap place_of c.batch.ensures) in
    write-messages entry c.self.inside.workflows c.try_write.new.self c.self.inside.places.items c.push_reserved.new.self.items c.args.self.now
    c.self.view_is c.is_in_order.ensures.cell c.requires.lone (tried-may entry c.self.inside.workflows c.args.self.now (messages_at c.self.inside.places.items c.self.inside.workflows) c.self.view_is c.requires.message
    (subst (λ (o : Option Batch). MayBeWrittenTogether (carrying entry.batch o) (workflow_of entry.batch.domain entry.batch.workflow c.self.inside.workflows)) c.second.ensures
    (subst (λ (b : Batch). MayBeWrittenTogether (carrying b (option_copied c.second.result)) (workflow_of b.domain b.workflow c.self.inside.workflows)) c.batch-2.ensures c.in-Ok.ensures.may))) c.self.invariant cell_is places_are

pub returns-in-Err-clause-refused : goal.returns-in-Err-clause-refused
returns-in-Err-clause-refused g c =
    let entry = c.args.entry.now in
    subst (λ (cell : Cell). IsNotWritten c.in-Err.cause (carrying entry.batch entry.second) (workflow_of entry.batch.domain entry.batch.workflow cell)) c.self.view_is
    (subst (λ (o : Option Batch). IsNotWritten c.in-Err.cause (carrying entry.batch o) (workflow_of entry.batch.domain entry.batch.workflow c.self.inside.workflows)) c.second.ensures
    (subst (λ (b : Batch). IsNotWritten c.in-Err.cause (carrying b (option_copied c.second.result)) (workflow_of b.domain b.workflow c.self.inside.workflows)) c.batch-2.ensures c.in-Err.ensures.refused))
