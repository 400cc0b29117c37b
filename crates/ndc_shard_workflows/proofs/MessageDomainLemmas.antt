-- The messages of the workflows of some domains are those of what a cell has learned of these.
use Rattle.std.proofs.Common.{◌≡◌, List, [], ◌∷◌, ◌++◌, Option, refl, sym, ◌∙◌, ap}
use Rattle.std.specs.List.{AllByRecursion, cons_option, filter_map, flat_map}
use Rattle.std.proofs.lemmas.List.Concat.{flat_map-cons}
use Rattle.std.proofs.lemmas.List.Elements.{filter_map-append}
use Rattle.ndc_model_cells.specs.declared.message.Message.{Message}
use Rattle.ndc_model_cells.specs.Cells.{Cell, learned_message}
use Rattle.ndc_event.specs.declared.name.Name.{Name}
use Rattle.ndc_model_cells.specs.Domains.{learned_of_domains}
use Rattle.ndc_model_sets.specs.Learned.{learned}
use Rattle.ndc_shard_waiting.proofs.OrderLemmas.{all-more}
use Rattle.ndc_shard_workflows.proofs.CellLemmas.{own-names}
use Rattle.ndc_model_cells.specs.Workflow.{WorkflowValue, workflow_of}
use Rattle.ndc_shard_workflows.specs.Reading.{HoldLearned, IsIn}
use Rattle.ndc_shard_workflows.specs.Messages.{messages_in}
use Rattle.ndc_shard_workflows.proofs.PlaceLemmas.{all-learned, own-same, own_in}

-- what is given of the items of all lists, list by list
given-all : {X Y Z : Type 0} (f : Y → Option Z) (g : X → List Y) (xs : List X) → filter_map f (flat_map g xs) ≡ flat_map (λ x. filter_map f (g x)) xs
given-all f g [] = refl
given-all f g (x ∷ xs) =
    ap (filter_map f) (flat_map-cons g x xs) ∙ filter_map-append f (g x) (flat_map g xs) ∙ ap (λ l. filter_map f (g x) ++ l) (given-all f g xs)
    ∙ sym (flat_map-cons (λ y. filter_map f (g y)) x xs)

given-as : {X Y : Type 0} (f g : X → Option Y) (xs : List X) → AllByRecursion (λ x. f x ≡ g x) xs → filter_map f xs ≡ filter_map g xs
given-as f g [] all = refl
given-as f g (x ∷ xs) all = ap (λ o. cons_option o (filter_map f xs)) all.0 ∙ ap (cons_option (g x)) (given-as f g xs all.1)

module _ (cell : Cell) where
  -- the messages of a workflow of the cell
  own-messages : (w : WorkflowValue) → IsIn cell w → filter_map (learned_message cell) (learned w.arrived) ≡ messages_in w
  own-messages w is =
      given-as (learned_message cell) (own_in w.arrived) (learned w.arrived)
      (all-learned (λ b. learned_message cell b ≡ own_in w.arrived b) [] w.arrived
      (all-more (λ b. workflow_of b.domain b.workflow cell ≡ w) (λ b. learned_message cell b ≡ own_in w.arrived b)
      (λ b e. own-same b.domain b.workflow cell b (own-names b) ∙ ap (λ (v : WorkflowValue). own_in v.arrived b) e) w.arrived is))

  each-messages : (list : List WorkflowValue) → AllByRecursion (IsIn cell) list → flat_map (λ (w : WorkflowValue). filter_map (learned_message cell) (learned w.arrived)) list ≡ flat_map messages_in list
  each-messages [] all = refl
  each-messages (w ∷ list) all =
      flat_map-cons (λ (v : WorkflowValue). filter_map (learned_message cell) (learned v.arrived)) w list
      ∙ ap (λ l. l ++ flat_map (λ (v : WorkflowValue). filter_map (learned_message cell) (learned v.arrived)) list) (own-messages w all.0)
      ∙ ap (λ l. messages_in w ++ l) (each-messages list all.1) ∙ sym (flat_map-cons messages_in w list)

  pub all-messages : (names : List Name) (list : List WorkflowValue) → HoldLearned names list cell → flat_map messages_in list ≡ learned_of_domains names cell
  all-messages names list hold =
      sym (each-messages list hold.each) ∙ sym (given-all (learned_message cell) (λ (w : WorkflowValue). learned w.arrived) list) ∙ ap (filter_map (learned_message cell)) hold.batches

  pub none-told : (names : List Name) (told : List Message) (list : List WorkflowValue) → told ≡ [] → HoldLearned names list cell → told ++ flat_map messages_in list ≡ learned_of_domains names cell
  none-told names told list e hold = ap (λ l. l ++ flat_map messages_in list) e ∙ all-messages names list hold
