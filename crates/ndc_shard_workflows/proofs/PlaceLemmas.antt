-- The message at a place of a cell is that in the place's workflow.
use Rattle.std.proofs.Common.{◌≡◌, Bool, true, false, List, [], ◌∷◌, ◌++◌, Option, Some, None, if◌then◌else◌, refl, sym, ◌∙◌, ap}
use Rattle.std.specs.Prelude.{◌&&◌, find, is_some}
use Rattle.std.specs.List.{AllByRecursion, filter}
use Rattle.ndc_model_cells.specs.declared.message.Message.{Message}
use Rattle.ndc_model_cells.specs.declared.place.Place.{Place}
use Rattle.ndc_model_cells.specs.Cells.{Cell, arrived_of, carries, learned_of, message_at, message_found, own_message}
use Rattle.ndc_model_cells.specs.Places.{batch_there, is_of}
use Rattle.ndc_event.specs.Key.{key_eq}
use Rattle.ndc_event.specs.declared.batch.Batch.{Batch}
use Rattle.ndc_event.specs.declared.name.Name.{Name}
use Rattle.ndc_model_sets.specs.Learned.{has_key, learned, learned_behind}
use Rattle.ndc_model_sets.specs.Paths.{events_to, is_wanted, versions_of}
use Rattle.ndc_model_sets.specs.Sets.{batch_at, earlier}
use Rattle.ndc_model_sets.proofs.SetLemmas.{found-all}
use Rattle.ndc_model_cells.specs.Workflow.{WorkflowValue, workflow_of}
use Rattle.ndc_shard_workflows.proofs.SameLemmas.{names-of}
use Rattle.ndc_shard_workflows.specs.Messages.{own_message_of}

all-kept : (test : Batch → Bool) (xs : List Batch) → AllByRecursion (λ b. test b ≡ true) (filter test xs)
all-kept test [] = tt
all-kept test (x ∷ xs) = by (test x) refl (all-kept test xs)
  where
    by : (t : Bool) → test x ≡ t → AllByRecursion (λ b. test b ≡ true) (filter test xs) → AllByRecursion (λ b. test b ≡ true) (if t then x ∷ filter test xs else filter test xs)
    by true e rest = (e, rest)
    by false e rest = rest

pub all-learned : (P : Batch → Type 0) (known xs : List Batch) → AllByRecursion P xs → AllByRecursion P (learned_behind known xs)
all-learned P known [] all = tt
all-learned P known (x ∷ xs) all = by (has_key (earlier x) known) (all-learned P (known ++ x ∷ []) xs all.1) (all-learned P known xs all.1)
  where
    by : (t : Bool) → AllByRecursion P (learned_behind (known ++ x ∷ []) xs) → AllByRecursion P (learned_behind known xs)
        → AllByRecursion P (if t then x ∷ learned_behind (known ++ x ∷ []) xs else learned_behind known xs)
    by true one two = (all.0, one)
    by false one two = two

-- what is learned of a workflow is of it
learned-own : (domain workflow : Name) (cell : Cell) → AllByRecursion (λ b. is_of domain workflow b ≡ true) (learned_of domain workflow cell)
learned-own domain workflow cell = all-learned (λ b. is_of domain workflow b ≡ true) [] (arrived_of domain workflow cell) (all-kept (is_of domain workflow) cell.arrived)

there-is : (place : Place) (xs : List Batch) → AllByRecursion (λ b. is_of place.domain place.workflow b ≡ true) xs → batch_there xs place ≡ batch_at place.key xs
there-is place [] all = refl
there-is place (x ∷ xs) all =
    ap (λ t. if t && key_eq x.key place.key then Some x else batch_there xs place) all.0 ∙ ap (λ (o : Option Batch). if key_eq x.key place.key then Some x else o) (there-is place xs all.1)

-- what a batch carries is of its workflow
second-same : (b : Batch) (xs : List Batch) → find (carries b) xs ≡ find (carries b) (filter (is_of b.domain b.workflow) xs)
second-same b [] = refl
second-same b (x ∷ xs) = by (is_of b.domain b.workflow x) refl (second-same b xs)
  where
    kept : List Batch
    kept = filter (is_of b.domain b.workflow) xs

    by : (t : Bool) → is_of b.domain b.workflow x ≡ t → find (carries b) xs ≡ find (carries b) kept → find (carries b) (x ∷ xs) ≡ find (carries b) (if t then x ∷ kept else kept)
    by true e rest = ap (λ (o : Option Batch). if carries b x then Some x else o) rest
    by false e rest = ap (λ u. if u && is_wanted x.carrier b then Some x else find (carries b) xs) e ∙ rest

abbrev pub own_in : List Batch → Batch → Option Message
own_in arrived b = own_message (learned arrived) arrived b

pub own-same : (domain workflow : Name) (cell : Cell) (b : Batch) → is_of domain workflow b ≡ true → own_message (learned_of b.domain b.workflow cell) cell.arrived b ≡ own_in (arrived_of domain workflow cell) b
own-same domain workflow cell b own =
    ap (λ (s : Option Batch). if is_some b.carrier then None else Some (record { batch = b; history = versions_of (events_to b.key (learned_of b.domain b.workflow cell)); second = s })) (second-same b cell.arrived)
    ∙ ap (λ (n : Name). own_in (arrived_of n b.workflow cell) b) (names-of domain workflow b own).0 ∙ ap (λ (n : Name). own_in (arrived_of domain n cell) b) (names-of domain workflow b own).1

pub place-is : (cell : Cell) (place : Place) (w : WorkflowValue) → w ≡ workflow_of place.domain place.workflow cell → own_message_of w.arrived (batch_at place.key (learned w.arrived)) ≡ message_at cell place
place-is cell place w e =
    ap (λ (v : WorkflowValue). own_message_of v.arrived (batch_at place.key (learned v.arrived))) e
    ∙ sym (ap (message_found cell) (there-is place (learned_of place.domain place.workflow cell) (learned-own place.domain place.workflow cell))
    ∙ by (batch_at place.key (learned_of place.domain place.workflow cell)) refl)
  where
    by : (o : Option Batch) → batch_at place.key (learned_of place.domain place.workflow cell) ≡ o → message_found cell o ≡ own_message_of (arrived_of place.domain place.workflow cell) o
    by None h = refl
    by (Some b) h =
        own-same place.domain place.workflow cell b
        (found-all (λ x. is_of place.domain place.workflow x ≡ true) (learned_of place.domain place.workflow cell) place.key b (learned-own place.domain place.workflow cell) h)
