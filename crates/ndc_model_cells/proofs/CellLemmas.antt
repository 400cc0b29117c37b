-- What happens to one workflow of a cell leaves the others.
use Rattle.std.proofs.Common.{◌≡◌, Bool, true, false, List, [], ◌∷◌, Option, None, Some, IfSome, if◌then◌else◌, refl, ap, ◌∙◌, cond}
use Rattle.std.specs.List.{filter}
use Rattle.ndc_event.specs.declared.batch.Batch.{Batch}
use Rattle.ndc_event.specs.declared.name.Name.{Name}
use Rattle.ndc_model_sets.specs.Learned.{learned}
use Rattle.ndc_model_cells.specs.declared.message.Message.{Message}
use Rattle.ndc_model_cells.specs.Arrival.{arrived_at, cell_with, has_arrived, placed_second}
use Rattle.ndc_model_cells.specs.Cells.{Cell, arrived_of, learned_of}
use Rattle.ndc_model_cells.specs.Places.{is_at, is_of, place_of, place_lt, placed}
use Rattle.ndc_model_cells.specs.Writing.{Entry, with_written}

-- a batch that the test does not pass changes no filter by the test
pub filter-placed : (p : Batch → Bool) (new : Batch) (batches : List Batch) → p new ≡ false → filter p (placed new batches) ≡ filter p batches
filter-placed p new [] n = ap (λ t. cond t (new ∷ []) []) n
filter-placed p new (b ∷ batches) n = by (place_lt (place_of new) (place_of b)) (is_at (place_of new) b) (filter-placed p new batches n)
  where
    by : (s t : Bool) → filter p (placed new batches) ≡ filter p batches
        → filter p (if s then new ∷ b ∷ batches else if t then b ∷ batches else b ∷ placed new batches) ≡ filter p (b ∷ batches)
    by true t rest = ap (λ u. cond u (new ∷ filter p (b ∷ batches)) (filter p (b ∷ batches))) n
    by false true rest = refl
    by false false rest = ap (λ l. cond (p b) (b ∷ l) l) rest

-- the batch that is carried, where there is one, changes no filter that it does not pass
filter-second : (p : Batch → Bool) (second : Option Batch) (batches : List Batch) → IfSome second (λ b. p b ≡ false) → filter p (placed_second second batches) ≡ filter p batches
filter-second p None batches n = refl
filter-second p (Some b) batches n = filter-placed p b batches n

-- a batch and the one that it carries, both of other workflows
pub filter-both : (p : Batch → Bool) (b : Batch) (second : Option Batch) (batches : List Batch) → p b ≡ false → IfSome second (λ x. p x ≡ false)
    → filter p (placed_second second (placed b batches)) ≡ filter p batches
filter-both p b second batches n m = filter-second p second (placed b batches) m ∙ filter-placed p b batches n

-- what is written to another workflow
pub others_arrived : (domain workflow : Name) (entry : Entry) (cell : Cell) → is_of domain workflow entry.batch ≡ false → IfSome entry.second (λ b. is_of domain workflow b ≡ false)
    → arrived_of domain workflow (with_written entry cell) ≡ arrived_of domain workflow cell
others_arrived domain workflow entry cell n m = filter-both (is_of domain workflow) entry.batch entry.second cell.arrived n m

pub others_learned : (domain workflow : Name) (entry : Entry) (cell : Cell) → is_of domain workflow entry.batch ≡ false → IfSome entry.second (λ b. is_of domain workflow b ≡ false)
    → learned_of domain workflow (with_written entry cell) ≡ learned_of domain workflow cell
others_learned domain workflow entry cell n m = ap learned (others_arrived domain workflow entry cell n m)

-- a message of another workflow
pub others_arrived_by : (domain workflow : Name) (sent : Message) (cell : Cell) → is_of domain workflow sent.batch ≡ false → IfSome sent.second (λ b. is_of domain workflow b ≡ false)
    → arrived_of domain workflow (arrived_at sent cell) ≡ arrived_of domain workflow cell
unfolding arrived_at
others_arrived_by domain workflow sent cell n m = by (has_arrived sent.batch cell)
  where
    by : (t : Bool) → arrived_of domain workflow (if t then cell else cell_with sent cell) ≡ arrived_of domain workflow cell
    by true = refl
    by false = filter-both (is_of domain workflow) sent.batch sent.second cell.arrived n m

pub others_learned_by : (domain workflow : Name) (sent : Message) (cell : Cell) → is_of domain workflow sent.batch ≡ false → IfSome sent.second (λ b. is_of domain workflow b ≡ false)
    → learned_of domain workflow (arrived_at sent cell) ≡ learned_of domain workflow cell
others_learned_by domain workflow sent cell n m = ap learned (others_arrived_by domain workflow sent cell n m)
