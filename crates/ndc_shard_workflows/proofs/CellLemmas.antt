-- Workflows as a cell has them: what an arrival at the cell, or what is written there, makes of them.
use Rattle.std.proofs.Common.{◌≡◌, Bool, true, false, not, ◌&&◌, List, [], ◌∷◌, Some, cond, map, refl, sym, ◌∙◌, ap}
use Rattle.std.specs.Prelude.{is_some, find, if◌then◌else◌, IfSome}
use Rattle.std.specs.List.{filter}
use Rattle.std.specs.Str.{bytes_eq}
use Rattle.std.proofs.lemmas.Bool.{and_parts}
use Rattle.std.proofs.lemmas.Slice.Eq.{bytes_eq-Decides}
pub use Rattle.ndc_model_cells.proofs.NameLemmas.{own-names}
use Rattle.ndc_model_cells.specs.declared.job.Arrived.TheVariants.{Known}
use Rattle.ndc_model_cells.specs.declared.message.Message.{Message}
use Rattle.ndc_model_cells.specs.Arrival as cells
use Rattle.ndc_model_cells.specs.Arrival.{arrival_in, arrival_of, arrived_at, learned_by, message_placed, newly_learned}
use Rattle.ndc_model_cells.specs.Cells.{Cell, IsCell, arrived_of, is_learned_in, learned_of}
use Rattle.ndc_model_cells.specs.Places.{AreInOrder, is_of, place_lt, place_of, is_at}
use Rattle.ndc_model_cells.specs.Writing.{Entry}
use Rattle.ndc_model_cells.specs.Writing as writing
use Rattle.ndc_model_cells.proofs.CellLemmas.{others_arrived_by}
use Rattle.ndc_model_cells.proofs.PlaceLemmas.{written_arrives}
use Rattle.ndc_event.specs.Key.{key_eq}
use Rattle.ndc_event.specs.declared.batch.Batch.{Batch}
use Rattle.ndc_event.specs.declared.name.Name.{Name}
use Rattle.ndc_model_sets.specs.Learned.{has_key, learned}
use Rattle.ndc_model_sets.specs.Sets.{PointsBack}
use Rattle.ndc_shard_waiting.specs.Learning.{with_message}
use Rattle.ndc_shard_waiting.proofs.PlacedLemmas.{placed_by_key}
use Rattle.ndc_model_cells.specs.Messages.{carrying}
use Rattle.ndc_model_cells.specs.Workflow.{WorkflowValue, workflow_of}
use Rattle.ndc_shard_workflows.specs.Workflow.{is_learned, has_arrived, still_waiting, workflow_with, learned_with, answer_to, made_learned, after_arrival, with_written}

-- what is found by two tests is found by the second among what passes the first
pub find-filter : {X : Type 0} (p q : X → Bool) (xs : List X) → find (λ x. p x && q x) xs ≡ find q (filter p xs)
find-filter p q [] = refl
find-filter p q (x ∷ xs) = by (p x) (find-filter p q xs)
  where
    by : (t : Bool) → find (λ y. p y && q y) xs ≡ find q (filter p xs) → cond (t && q x) (Some x) (find (λ y. p y && q y) xs) ≡ find q (cond t (x ∷ filter p xs) (filter p xs))
    by true rest = ap (cond (q x) (Some x)) rest
    by false rest = rest

-- two filters in the other order, where the second test is another one for what passes the first
pub filter-swap : {X : Type 0} (p q r : X → Bool) (xs : List X) → ((x : X) → p x ≡ true → q x ≡ r x) → filter p (filter q xs) ≡ filter r (filter p xs)
filter-swap p q r [] same = refl
filter-swap p q r (x ∷ xs) same = by (p x) refl (q x) refl (filter-swap p q r xs same)
  where
    by : (s : Bool) → p x ≡ s → (t : Bool) → q x ≡ t → filter p (filter q xs) ≡ filter r (filter p xs)
        → filter p (cond t (x ∷ filter q xs) (filter q xs)) ≡ filter r (cond s (x ∷ filter p xs) (filter p xs))
    by true e true f rest =
        ap (λ t. cond t (x ∷ filter p (filter q xs)) (filter p (filter q xs))) e ∙ ap (λ l. x ∷ l) rest
        ∙ sym (ap (λ t. cond t (x ∷ filter r (filter p xs)) (filter r (filter p xs))) (sym (same x e) ∙ f))
    by true e false f rest = rest ∙ sym (ap (λ t. cond t (x ∷ filter r (filter p xs)) (filter r (filter p xs))) (sym (same x e) ∙ f))
    by false e true f rest = ap (λ t. cond t (x ∷ filter p (filter q xs)) (filter p (filter q xs))) e ∙ rest
    by false e false f rest = rest

-- a message of another workflow
pub placed-other : (p : Batch → Bool) (new : Message) (messages : List Message) → p new.batch ≡ false → filter (λ m. p m.batch) (message_placed new messages) ≡ filter (λ m. p m.batch) messages
placed-other p new [] n = ap (λ t. cond t (new ∷ []) []) n
placed-other p new (m ∷ messages) n = by (place_lt (place_of new.batch) (place_of m.batch)) (is_at (place_of new.batch) m.batch) (placed-other p new messages n)
  where
    by : (s t : Bool) → filter (λ x. p x.batch) (message_placed new messages) ≡ filter (λ x. p x.batch) messages
        → filter (λ x. p x.batch) (if s then new ∷ m ∷ messages else if t then m ∷ messages else m ∷ message_placed new messages) ≡ filter (λ x. p x.batch) (m ∷ messages)
    by true t rest = ap (λ t. cond t (new ∷ filter (λ x. p x.batch) (m ∷ messages)) (filter (λ x. p x.batch) (m ∷ messages))) n
    by false true rest = refl
    by false false rest = ap (λ l. cond (p m.batch) (m ∷ l) l) rest

-- what is learned in a batch's own workflow
pub learned-own : (domain workflow : Name) (b : Batch) (cell : Cell) → is_of domain workflow b ≡ true → is_learned_in cell b ≡ is_learned (workflow_of domain workflow cell) b
learned-own domain workflow b cell own =
    let parts = and_parts (bytes_eq b.domain domain) (bytes_eq b.workflow workflow) own in
    ap (λ (d : Name). has_key (Some b.key) (learned_of d b.workflow cell)) ((bytes_eq-Decides b.domain domain).0 parts.0)
    ∙ ap (λ (w : Name). has_key (Some b.key) (learned_of domain w cell)) ((bytes_eq-Decides b.workflow workflow).0 parts.1)

-- a message of the workflow arrives
module _ (sent : Message) (cell : Cell) (is : IsCell cell) (ordered : AreInOrder (map (λ m. m.batch) cell.waiting)) (back : PointsBack sent.batch)
    (second : IfSome sent.second (λ b. is_of sent.batch.domain sent.batch.workflow b ≡ true)) where
  abbrev domain : Name
  domain = sent.batch.domain

  abbrev workflow : Name
  workflow = sent.batch.workflow

  abbrev own : WorkflowValue
  own = workflow_of domain workflow cell

  known-same : cells.has_arrived sent.batch cell ≡ has_arrived sent.batch.key own
  known-same = ap is_some (find-filter (is_of domain workflow) (λ b. key_eq b.key sent.batch.key) cell.arrived)

  arrived-same : arrived_of domain workflow (cells.cell_with sent cell) ≡ with_message sent own.arrived
  arrived-same = written_arrives domain workflow (record { batch = sent.batch; second = sent.second }) cell is back (own-names sent.batch) second

  newly-same : cells.learned_with sent cell ≡ learned_with sent own
  newly-same = ap (λ l. newly_learned (learned own.arrived) (learned l)) arrived-same

  waiting-same : (workflow_of domain workflow (cells.cell_with sent cell)).waiting ≡ (workflow_with sent own).waiting
  waiting-same =
      filter-swap (λ m. is_of domain workflow m.batch) (λ m. not (is_learned_in (cells.cell_with sent cell) m.batch)) (λ m. not (has_key (Some m.batch.key) (learned (with_message sent own.arrived))))
      (message_placed sent cell.waiting)
      (λ m e. ap not (learned-own domain workflow m.batch (cells.cell_with sent cell) e ∙ ap (λ l. has_key (Some m.batch.key) (learned l)) arrived-same))
      ∙ ap (filter (λ m. not (has_key (Some m.batch.key) (learned (with_message sent own.arrived))))) (placed_by_key domain workflow sent (own-names sent.batch) cell.waiting ordered)

  pub answer-same : arrival_of sent cell ≡ answer_to sent own
  unfolding arrival_of answer_to
  answer-same =
      ap (λ t. if t then Known else arrival_in sent (cells.learned_with sent cell) (arrived_of domain workflow (cells.cell_with sent cell))) known-same
      ∙ ap (λ l. if has_arrived sent.batch.key own then Known else arrival_in sent l (arrived_of domain workflow (cells.cell_with sent cell))) newly-same
      ∙ ap (λ l. if has_arrived sent.batch.key own then Known else arrival_in sent (learned_with sent own) l) arrived-same

  pub learned-same : learned_by sent cell ≡ made_learned sent own
  unfolding learned_by made_learned
  learned-same = ap (λ t. if t then [] else cells.learned_with sent cell) known-same ∙ ap (λ l. if has_arrived sent.batch.key own then [] else l) newly-same

  pub workflow-same : workflow_of domain workflow (arrived_at sent cell) ≡ after_arrival sent own
  unfolding arrived_at after_arrival
  workflow-same =
      ap (λ t. workflow_of domain workflow (if t then cell else cells.cell_with sent cell)) known-same ∙ by (has_arrived sent.batch.key own)
    where
      by : (t : Bool) → workflow_of domain workflow (if t then cell else cells.cell_with sent cell) ≡ (if t then own else workflow_with sent own)
      by true = refl
      by false = λ i. record { arrived = arrived-same i; waiting = waiting-same i }

-- a message of another workflow arrives
pub other_same : (domain workflow : Name) (sent : Message) (cell : Cell) → is_of domain workflow sent.batch ≡ false → IfSome sent.second (λ b. is_of domain workflow b ≡ false)
    → still_waiting (workflow_of domain workflow cell) ≡ workflow_of domain workflow cell → workflow_of domain workflow (arrived_at sent cell) ≡ workflow_of domain workflow cell
unfolding arrived_at
other_same domain workflow sent cell n m still = by (cells.has_arrived sent.batch cell) (others_arrived_by domain workflow sent cell n m)
  where
    after : arrived_of domain workflow (cells.cell_with sent cell) ≡ arrived_of domain workflow cell → workflow_of domain workflow (cells.cell_with sent cell) ≡ workflow_of domain workflow cell
    after same = λ i. record { arrived = same i; waiting = waits i }
      where
        waits : (workflow_of domain workflow (cells.cell_with sent cell)).waiting ≡ (workflow_of domain workflow cell).waiting
        waits =
            filter-swap (λ x. is_of domain workflow x.batch) (λ x. not (is_learned_in (cells.cell_with sent cell) x.batch)) (λ x. not (is_learned (workflow_of domain workflow cell) x.batch))
            (message_placed sent cell.waiting)
            (λ x e. ap not (learned-own domain workflow x.batch (cells.cell_with sent cell) e ∙ ap (λ l. has_key (Some x.batch.key) (learned l)) same))
            ∙ ap (filter (λ x. not (is_learned (workflow_of domain workflow cell) x.batch))) (placed-other (is_of domain workflow) sent cell.waiting n)
            ∙ ap (λ (w : WorkflowValue). w.waiting) still

    by : (t : Bool) → arrived_of domain workflow (if t then cell else cells.cell_with sent cell) ≡ arrived_of domain workflow cell
        → workflow_of domain workflow (if t then cell else cells.cell_with sent cell) ≡ workflow_of domain workflow cell
    by true same = refl
    by false same = after same

-- what is written in the workflow
pub written_same : (domain workflow : Name) (entry : Entry) (cell : Cell) → IsCell cell → PointsBack entry.batch → is_of domain workflow entry.batch ≡ true
    → IfSome entry.second (λ b. is_of domain workflow b ≡ true)
    → workflow_of domain workflow (writing.with_written entry cell) ≡ with_written (carrying entry.batch entry.second) (workflow_of domain workflow cell)
written_same domain workflow entry cell is back own second = λ i. record { arrived = written_arrives domain workflow entry cell is back own second i; waiting = (workflow_of domain workflow cell).waiting }
