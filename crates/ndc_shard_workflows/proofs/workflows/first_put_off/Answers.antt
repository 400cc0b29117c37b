use Rattle.std.proofs.Common.{◌≡◌, Bor, List, Option, IfOk, map, ◌∙◌, subst, ap}
use Rattle.std.specs.Option.{option_map}
use Rattle.ndc_model_cells.specs.declared.place.Place.{Place}
use Rattle.ndc_model_cells.specs.Places.{place_of}
use Rattle.ndc_event.specs.declared.batch.Batch.{Batch}
use Rattle.ndc_model_cells.specs.Messages.{batches_of}
use Rattle.ndc_shard_workflows.specs.Behind.{first_batch}
use Rattle.ndc_shard_workflows.proofs.WaitLemmas.{first-off}
use Rattle.ndc_shard_workflows.proofs.workflows.first_put_off.Goals as goal

pub returns : goal.returns
returns c =
    subst (λ (p : Option Place). IfOk c.place_in.result (λ place. place ≡ p))
    (ap (λ (l : List (Bor Batch)). option_map place_of (first_batch (map (λ b. b.now) l))) c.as_slice.ensures.value
    ∙ first-off c.args.workflow.now c.requires (map (λ b. b.now) c.in_ok-batches.batches.items) (c.in_ok-batches.ensures ∙ ap batches_of c.put_off.ensures)) c.place_in.ensures
