-- What may arrive at a cell of domains may arrive in its workflow.
use Rattle.std.proofs.Common.{◌≡◌, Bool, true, false, ◌&&◌, List, [], ◌∷◌, Option, Some, cond, refl, sym, ◌∙◌, subst, ap}
use Rattle.std.specs.Prelude.{find, is_some}
use Rattle.std.specs.List.{filter}
use Rattle.ndc_model_cells.specs.declared.message.Message.{Message}
use Rattle.ndc_model_cells.specs.Arrival as cells
use Rattle.ndc_model_cells.specs.Arrival.{arrival_of, learned_by}
use Rattle.ndc_model_cells.specs.Places.{is_of}
use Rattle.ndc_event.specs.Key.{key_eq}
use Rattle.ndc_event.specs.declared.batch.Batch.{Batch}
use Rattle.ndc_event.specs.declared.name.Name.{Name}
use Rattle.ndc_model_sets.specs.Learned.{learned}
use Rattle.ndc_model_sets.specs.Sound.{IsSound}
use Rattle.ndc_model_cells.specs.Messages.{IsNewTo}
use Rattle.ndc_model_cells.specs.Allowed.{MayArrive}
use Rattle.ndc_model_cells.specs.Workflow.{WorkflowValue, workflow_of}
use Rattle.ndc_shard_workflows.specs.Workflow.{after_arrival, answer_to, has_arrived, made_learned}
use Rattle.ndc_shard_workflows.proofs.CellLemmas.{answer-same, learned-same, workflow-same}
use Rattle.ndc_shard_workflows.specs.Named.{under, IsPut}
use Rattle.ndc_shard_workflows.specs.Workflows.{DomainValue, AreDomains, cell_of, workflow_or_empty, workflows_in}
use Rattle.ndc_shard_workflows.proofs.BehindLemmas.{arrived-behind, found-others, found-there}
use Rattle.ndc_shard_workflows.proofs.DomainLemmas.{is-cell, waiting-ordered, workflow-there}

-- what is found by two tests is found by the second among what passes the first
found-among : (p q : Batch → Bool) (batches : List Batch) → find (λ b. p b && q b) batches ≡ find q (filter p batches)
found-among p q [] = refl
found-among p q (b ∷ batches) = by (p b) (found-among p q batches)
  where
    by : (t : Bool) → find (λ x. p x && q x) batches ≡ find q (filter p batches)
        → cond (t && q b) (Some b) (find (λ x. p x && q x) batches) ≡ find q (cond t (b ∷ filter p batches) (filter p batches))
    by true e = ap (cond (q b) (Some b)) e
    by false e = e

module _ (sent : Message) (domains : List (Name × DomainValue)) (are : AreDomains domains) (may : MayArrive sent (cell_of domains)) (o : Option DomainValue)
    (at : under sent.batch.domain domains ≡ o) where
  -- the message's workflow, in what stands under its domain
  abbrev pub there : WorkflowValue
  there = workflow_or_empty (under sent.batch.workflow (workflows_in o))

  own-there : workflow_of sent.batch.domain sent.batch.workflow (cell_of domains) ≡ there
  own-there = workflow-there domains are sent.batch.domain sent.batch.workflow ∙ ap (λ x. workflow_or_empty (under sent.batch.workflow (workflows_in x))) at

  pub new-there : has_arrived sent.batch.key there ≡ false → IsNewTo there.arrived sent
  new-there =
      subst (λ (w : WorkflowValue). has_arrived sent.batch.key w ≡ false → IsNewTo w.arrived sent) own-there
      (λ e. may.new (ap is_some (found-among (is_of sent.batch.domain sent.batch.workflow) (λ b. key_eq b.key sent.batch.key) (cell_of domains).arrived) ∙ e))

  pub sound-there : IsSound (learned (after_arrival sent there).arrived)
  sound-there =
      subst (λ (w : WorkflowValue). IsSound (learned (after_arrival sent w).arrived)) own-there
      (subst (λ (w : WorkflowValue). IsSound (learned w.arrived)) (workflow-same sent (cell_of domains) (is-cell domains are) (waiting-ordered domains are) may.message.back may.own) may.sound)

  -- what comes of it there comes of it in the cell
  pub answer-there : answer_to sent there ≡ arrival_of sent (cell_of domains)
  answer-there = sym (answer-same sent (cell_of domains) (is-cell domains are) (waiting-ordered domains are) may.message.back may.own ∙ ap (answer_to sent) own-there)

  pub learned-there : made_learned sent there ≡ learned_by sent (cell_of domains)
  learned-there = sym (learned-same sent (cell_of domains) (is-cell domains are) (waiting-ordered domains are) may.message.back may.own ∙ ap (made_learned sent) own-there)

  -- the workflow there after it is that of the cell after it
  pub after-there : after_arrival sent there ≡ workflow_of sent.batch.domain sent.batch.workflow (cells.arrived_at sent (cell_of domains))
  after-there = sym (workflow-same sent (cell_of domains) (is-cell domains are) (waiting-ordered domains are) may.message.back may.own ∙ ap (after_arrival sent) own-there)

  pub cell-there : (workflows : DomainValue) (after : List (Name × DomainValue)) → IsPut sent.batch.domain workflows domains after → AreDomains after
      → IsPut sent.batch.workflow (after_arrival sent there) (workflows_in o) workflows → cell_of after ≡ cells.arrived_at sent (cell_of domains)
  cell-there workflows after outer later inner =
      arrived-behind sent domains after are later may.message may.own
      (found-there sent.batch.domain sent.batch.workflow (after_arrival sent there) workflows domains after outer inner' ∙ ap (λ w. Some (after_arrival sent w)) (sym own-there))
      (found-others sent.batch.domain sent.batch.workflow (after_arrival sent there) workflows domains after outer inner')
    where
      inner' : IsPut sent.batch.workflow (after_arrival sent there) (workflows_in (under sent.batch.domain domains)) workflows
      inner' = subst (λ x. IsPut sent.batch.workflow (after_arrival sent there) (workflows_in x) workflows) (sym at) inner
