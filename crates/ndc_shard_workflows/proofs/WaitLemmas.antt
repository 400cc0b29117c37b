-- Nothing is put off of any workflow but those that are listed, and of these the first batches are found.
use Rattle.std.proofs.Common.{◌≡◌, Bool, true, false, not, ◌&&◌, ◌||◌, List, [], ◌∷◌, Option, Result, Ok, Err, OnOk, OnErr, cond, map, refl, sym, ◌∙◌, subst, ap, true≢false}
use Rattle.std.specs.Prelude.{if◌then◌else◌}
use Rattle.std.specs.List.{filter, filter_map}
use Rattle.std.specs.List.Sorted.{IsStrictlySortedBy}
use Rattle.std.specs.Option.{option_map}
use Rattle.std.specs.Str.{bytes_eq}
use Rattle.ndc_model_cells.specs.declared.message.Message.{Message}
use Rattle.ndc_model_cells.specs.declared.place.Place.{Place}
use Rattle.ndc_model_cells.specs.Arrival as cells
use Rattle.ndc_model_cells.specs.Arrival.{arrived_at, message_placed}
use Rattle.ndc_model_cells.specs.Cells.{Cell, IsCell, is_learned_in, put_off_in}
use Rattle.ndc_model_cells.specs.Jobs.{workflows_of}
use Rattle.ndc_model_cells.specs.Places.{AreBehind, AreInOrder, is_of, place_of}
use Rattle.ndc_model_cells.specs.Writing.{Entry, with_batches}
use Rattle.ndc_event.specs.declared.batch.Batch.{Batch}
use Rattle.ndc_event.specs.declared.name.Name.{Name}
use Rattle.ndc_model_sets.proofs.Lists.{filter-cases}
use Rattle.ndc_model_cells.specs.Messages.{batches_of}
use Rattle.ndc_shard_workflows.proofs.CellLemmas.{filter-swap, placed-other, learned-own}
use Rattle.ndc_model_cells.specs.Workflow.{WorkflowValue, workflow_of}
use Rattle.ndc_shard_workflows.specs.Workflow.{IsWorkflow, is_learned}
use Rattle.ndc_shard_workflows.specs.Workflow as own
use Rattle.ndc_shard_workflows.proofs.PutOffLemmas.{put_off_waits}
use Rattle.ndc_shard_workflows.specs.Behind.{HoldBehind, first_batch, first_behind}
use Rattle.ndc_shard_workflows.specs.Due.{is_listed, is_named, names_order}
use Rattle.ndc_shard_workflows.specs.Listed.{IsListedWhereBehind}
use Rattle.ndc_shard_workflows.proofs.FirstLemmas.{places-are}
use Rattle.ndc_shard_workflows.proofs.NameLemmas.{name-itself}
use Rattle.ndc_shard_workflows.proofs.SameLemmas.{names-of}

abbrev Names : Type 0
Names = List (Name × Name)

-- what none of passes a test, none of what is kept of it does
none-kept : {X : Type 0} (p q : X → Bool) (xs : List X) → filter p xs ≡ [] → filter p (filter q xs) ≡ []
none-kept p q [] none = refl
none-kept p q (x ∷ xs) none = by (p x) refl none (λ e. none-kept p q xs e)
  where
    by : (s : Bool) → p x ≡ s → cond s (x ∷ filter p xs) (filter p xs) ≡ [] → (filter p xs ≡ [] → filter p (filter q xs) ≡ []) → filter p (cond (q x) (x ∷ filter q xs) (filter q xs)) ≡ []
    by true e h rest = absurd (cc)
    by false e h rest = kept (q x)
      where
        kept : (t : Bool) → filter p (cond t (x ∷ filter q xs) (filter q xs)) ≡ []
        kept true = ap (λ t. cond t (x ∷ filter p (filter q xs)) (filter p (filter q xs))) e ∙ rest h
        kept false = rest h

-- where nothing is put off of a workflow, nothing is after the arrival of a message of another one
others-still : (d w : Name) (sent : Message) (cell : Cell) → is_of d w sent.batch ≡ false → (workflow_of d w cell).waiting ≡ [] → (workflow_of d w (arrived_at sent cell)).waiting ≡ []
unfolding arrived_at
others-still d w sent cell other none = by (cells.has_arrived sent.batch cell)
  where
    by : (t : Bool) → (workflow_of d w (if t then cell else cells.cell_with sent cell)).waiting ≡ []
    by true = none
    by false =
        none-kept (λ m. is_of d w m.batch) (λ m. not (is_learned_in (cells.cell_with sent cell) m.batch)) (message_placed sent cell.waiting) (placed-other (is_of d w) sent cell.waiting other ∙ none)

-- a message arrives, and its workflow is listed where something is put off of it
pub behind-arrived : (sent : Message) (cell : Cell) (is_behind : Bool) (before after : Names) → HoldBehind before cell
    → (is_behind ≡ false → (workflow_of sent.batch.domain sent.batch.workflow (arrived_at sent cell)).waiting ≡ [])
    → IsListedWhereBehind sent.batch.domain sent.batch.workflow is_behind before after → HoldBehind after (arrived_at sent cell)
behind-arrived sent cell is_behind before after hold none listed d w e = by (is_of d w sent.batch) refl
  where
    by : (t : Bool) → is_of d w sent.batch ≡ t → (workflow_of d w (arrived_at sent cell)).waiting ≡ []
    by true f =
        let names = names-of d w sent.batch f in
        subst (λ (k : Name). (workflow_of k w (arrived_at sent cell)).waiting ≡ []) names.0
        (subst (λ (k : Name). (workflow_of sent.batch.domain k (arrived_at sent cell)).waiting ≡ []) names.1
        (none (listed.own (subst (λ (k : Name). is_listed k sent.batch.workflow after ≡ false) (sym names.0) (subst (λ (k : Name). is_listed d k after ≡ false) (sym names.1) e)))))
    by false f = others-still d w sent cell f (hold d w (listed.kept d w f e))

-- what is written leaves what is put off
pub behind-either : {A E : Type 0} (entry : Entry) (cell : Cell) (r : Result A E) (list : Names) (new : Cell) → OnOk r (new ≡ with_batches entry cell) → OnErr r (new ≡ cell) → HoldBehind list cell
    → HoldBehind list new
behind-either entry cell (Ok x) list new e f hold = subst (HoldBehind list) (sym e) hold
behind-either entry cell (Err x) list new e f hold = subst (HoldBehind list) (sym f) hold

-- a workflow was put to the others, or taken from them
module _ (domain workflow : Name) (is_behind : Bool) (before after : Names) where
  pub listed-put : ((d w : Name) → is_listed d w after ≡ (is_named d w (domain, workflow) || is_listed d w before)) → IsListedWhereBehind domain workflow is_behind before after
  listed-put put = record { kept = λ d w n e. sym (ap (λ t. t || is_listed d w before) n) ∙ sym (put d w) ∙ e; own = λ e. absurd (true≢false (sym own-there ∙ e)) }
    where
      itself : is_named domain workflow (domain, workflow) ≡ true
      itself = ap (λ t. t && bytes_eq workflow workflow) (name-itself domain) ∙ name-itself workflow

      own-there : is_listed domain workflow after ≡ true
      own-there = put domain workflow ∙ ap (λ t. t || is_listed domain workflow before) itself

  pub listed-taken : ((d w : Name) → is_listed d w after ≡ (not (is_named d w (domain, workflow)) && is_listed d w before)) → is_behind ≡ false
      → IsListedWhereBehind domain workflow is_behind before after
  listed-taken taken none = record { kept = λ d w n e. sym (ap (λ t. not t && is_listed d w before) n) ∙ sym (taken d w) ∙ e; own = λ e. none }

-- what is put off of a workflow of the cell
pub off-own : (d w : Name) (cell : Cell) → filter (is_of d w) (put_off_in cell) ≡ own.off_in (workflow_of d w cell)
off-own d w cell =
    filter-swap (is_of d w) (λ b. not (is_learned_in cell b)) (λ b. not (is_learned (workflow_of d w cell) b)) cell.arrived (λ b e. ap not (learned-own d w b cell e))

-- batches in order stay so where some are left out
pub ordered-kept : (p : Batch → Bool) (bs : List Batch) → AreInOrder bs → AreInOrder (filter p bs)
ordered-kept p [] order = tt
ordered-kept p (b ∷ bs) order = filter-cases AreInOrder p b bs (λ _. (later bs order.0, ordered-kept p bs order.1)) (λ _. ordered-kept p bs order.1)
  where
    later : (xs : List Batch) → AreBehind (place_of b) xs → AreBehind (place_of b) (filter p xs)
    later [] all = tt
    later (x ∷ xs) all = filter-cases (AreBehind (place_of b)) p x xs (λ _. (all.0, later xs all.1)) (λ _. later xs all.1)

-- the places of the first batches that are put off are those of the workflows that are listed
pub behind-are : (cell : Cell) → IsCell cell → ((d w : Name) → IsWorkflow (workflow_of d w cell)) → (list : Names) → IsStrictlySortedBy names_order list → HoldBehind list cell
    → filter_map (first_behind cell) list ≡ map place_of (workflows_of (put_off_in cell))
behind-are cell is workflows list sorted hold =
    ap (λ (f : Name × Name → Option Place). filter_map f list) (λ i names. option_map place_of (first_batch (sym (off-own names.0 names.1 cell) i)))
    ∙ places-are (put_off_in cell) (ordered-kept (λ b. not (is_learned_in cell b)) cell.arrived is.ordered) list sorted
    (λ d w e. off-own d w cell ∙ put_off_waits (workflow_of d w cell) (workflows d w) ∙ ap batches_of (hold d w e))

-- the first of the batches that wait is that which is put off
pub first-off : (w : WorkflowValue) → IsWorkflow w → (batches : List Batch) → batches ≡ batches_of w.waiting → option_map place_of (first_batch batches) ≡ option_map place_of (first_batch (own.off_in w))
first-off w is batches e = ap (λ (l : List Batch). option_map place_of (first_batch l)) (e ∙ sym (put_off_waits w is))
