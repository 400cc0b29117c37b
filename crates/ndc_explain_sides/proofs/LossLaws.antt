-- Each event of a batch that does not stand is lost once, and nothing else is.
use Rattle.std.proofs.Common.{◌≡◌, Bool, true, false, not, ◌&&◌, List, [], ◌∷◌, ◌++◌, map, refl, sym, ap, ◌∙◌, Option, Some, None, if◌then◌else◌}
use Rattle.std.specs.List.{filter, flat_map, list_all}
use Rattle.std.proofs.lemmas.List.{map-append}
use Rattle.std.proofs.lemmas.List.Folds.{list_all-append}
use Rattle.ndc_event.specs.declared.batch.Batch.{Batch}
use Rattle.ndc_event.specs.declared.batch.Event.{Event}
use Rattle.ndc_event.specs.declared.key.BatchKey.{BatchKey}
use Rattle.ndc_dump_causes.specs.Keys.{is_listed}
use Rattle.ndc_explain_sides.specs.Partings.{Ends, Partings, end_of, parting_of}
use Rattle.ndc_explain_sides.specs.Sides.{Lost, Placed, alone_in, alone_of, events_beside, is_alone, is_no_signal, lost_in, lost_of, lost_with, placed_in, placed_of, twin_of}
use Rattle.ndc_explain_sides.specs.Subjects.{is_signal, sort_of}
use Rattle.ndc_explain_sides.specs.Traces.{Latest, Least, Traced, traced}
use Rattle.ndc_explain_sides.specs.declared.parting.Parting.{Parting}

-- with any twin it is the same event
same-place : (latest : Latest) (parting : Parting) (b : Batch) (event : Event) (twin : Option Traced) → placed_of (lost_with latest parting b event twin) ≡ placed_in b event
same-place latest parting b event None = refl
same-place latest parting b event (Some twin) = refl

-- an event that is a signal is left out, another one stands first
first-event : (loss : Lost) (b : Batch) (event : Event) (rest : List Lost) (others : List Event) (t : Bool) → placed_of loss ≡ placed_in b event
    → map placed_of rest ≡ map (placed_in b) others
    → map placed_of ((if t then [] else loss ∷ []) ++ rest) ≡ map (placed_in b) (if not t then event ∷ others else others)
first-event loss b event rest others true one more = more
first-event loss b event rest others false one more = ap (λ (x : Placed). x ∷ map placed_of rest) one ∙ ap (λ (xs : List Placed). placed_in b event ∷ xs) more

-- the lost events of a batch are its events
batch-events : (latest : Latest) (parting : Parting) (b : Batch) (events : List Event) → map placed_of (lost_in latest parting b events) ≡ map (placed_in b) (filter is_no_signal events)
batch-events latest parting b [] = refl
batch-events latest parting b (event ∷ events) =
    let twin = twin_of latest parting event in
    first-event (lost_with latest parting b event twin) b event (lost_in latest parting b events) (filter is_no_signal events) (is_signal (sort_of event.kind))
    (same-place latest parting b event twin) (batch-events latest parting b events)

-- the lost events of a batch stand first, where it does not stand
first-batch : (lost rest : List Lost) (events others : List Placed) (t : Bool) → map placed_of lost ≡ events → map placed_of rest ≡ others
    → map placed_of ((if t then [] else lost) ++ rest) ≡ (if t then [] else events) ++ others
first-batch lost rest events others true one more = more
first-batch lost rest events others false one more =
    map-append placed_of lost rest ∙ ap (λ (xs : List Placed). xs ++ map placed_of rest) one ∙ ap (λ (xs : List Placed). events ++ xs) more

pub lost_once : (keys : List BatchKey) (partings : Partings) (latest : Latest) (batches : List Batch) → map placed_of (lost_of keys partings latest batches) ≡ events_beside keys batches
lost_once keys partings latest [] = refl
lost_once keys partings latest (b ∷ batches) =
    let parting = parting_of keys partings b in
    first-batch (lost_in latest parting b b.events) (lost_of keys partings latest batches) (map (placed_in b) (filter is_no_signal b.events)) (events_beside keys batches)
    (is_listed b.key keys) (batch-events latest parting b b.events) (lost_once keys partings latest batches)

module _ (holds : BatchKey → Bool) where
  -- where each key of a list is such, and that of the first one is
  first-lost : (loss : Lost) (rest : List Lost) (t : Bool) → holds loss.key ≡ true → list_all (λ x. holds x.key) rest ≡ true
      → list_all (λ x. holds x.key) ((if t then [] else loss ∷ []) ++ rest) ≡ true
  first-lost loss rest true one more = more
  first-lost loss rest false one more = ap (λ (t : Bool). t && list_all (λ x. holds x.key) rest) one ∙ more

  first-alone : (trace : Traced) (rest : List Traced) (t : Bool) → holds trace.key ≡ true → list_all (λ x. holds x.key) rest ≡ true
      → list_all (λ x. holds x.key) ((if t then trace ∷ [] else []) ++ rest) ≡ true
  first-alone trace rest true one more = ap (λ (t : Bool). t && list_all (λ x. holds x.key) rest) one ∙ more
  first-alone trace rest false one more = more

  -- the events of a batch have its key
  key-of : (latest : Latest) (parting : Parting) (b : Batch) (event : Event) (twin : Option Traced) → holds b.key ≡ true → holds (lost_with latest parting b event twin).key ≡ true
  key-of latest parting b event None h = h
  key-of latest parting b event (Some twin) h = h

  all-lost : (latest : Latest) (parting : Parting) (b : Batch) (events : List Event) → holds b.key ≡ true → list_all (λ x. holds x.key) (lost_in latest parting b events) ≡ true
  all-lost latest parting b [] h = refl
  all-lost latest parting b (event ∷ events) h =
      let twin = twin_of latest parting event in
      first-lost (lost_with latest parting b event twin) (lost_in latest parting b events) (is_signal (sort_of event.kind)) (key-of latest parting b event twin h)
      (all-lost latest parting b events h)

  all-alone : (least : Least) (end : BatchKey) (b : Batch) (events : List Event) → holds b.key ≡ true → list_all (λ x. holds x.key) (alone_in least end b events) ≡ true
  all-alone least end b [] h = refl
  all-alone least end b (event ∷ events) h =
      first-alone (traced end b event) (alone_in least end b events) (not (is_signal (sort_of event.kind)) && is_alone least end b event) h (all-alone least end b events h)

  -- of a list that begins with those of a batch, where the batch gives some
  batch-lost : (lost rest : List Lost) → list_all (λ x. holds x.key) lost ≡ true → list_all (λ x. holds x.key) rest ≡ true → list_all (λ x. holds x.key) (lost ++ rest) ≡ true
  batch-lost lost rest one more = list_all-append (λ x. holds x.key) lost rest ∙ ap (λ (t : Bool). t && list_all (λ x. holds x.key) rest) one ∙ more

  batch-alone : (alone rest : List Traced) → list_all (λ x. holds x.key) alone ≡ true → list_all (λ x. holds x.key) rest ≡ true → list_all (λ x. holds x.key) (alone ++ rest) ≡ true
  batch-alone alone rest one more = list_all-append (λ x. holds x.key) alone rest ∙ ap (λ (t : Bool). t && list_all (λ x. holds x.key) rest) one ∙ more

-- nothing that stands is lost
pub none_stands : (keys : List BatchKey) (partings : Partings) (latest : Latest) (batches : List Batch)
    → list_all (λ loss. not (is_listed loss.key keys)) (lost_of keys partings latest batches) ≡ true
none_stands keys partings latest [] = refl
none_stands keys partings latest (b ∷ batches) = by (is_listed b.key keys) refl (none_stands keys partings latest batches)
  where
    holds : BatchKey → Bool
    holds key = not (is_listed key keys)

    lost : List Lost
    lost = lost_in latest (parting_of keys partings b) b b.events

    rest : List Lost
    rest = lost_of keys partings latest batches

    by : (t : Bool) → is_listed b.key keys ≡ t → list_all (λ x. holds x.key) rest ≡ true → list_all (λ x. holds x.key) ((if t then [] else lost) ++ rest) ≡ true
    by true e more = more
    by false e more = batch-lost holds lost rest (all-lost holds latest (parting_of keys partings b) b b.events (ap not e)) more

-- what happened on a current branch alone stands
pub all_stand : (keys : List BatchKey) (ends : Ends) (least : Least) (batches : List Batch) → list_all (λ trace. is_listed trace.key keys) (alone_of keys ends least batches) ≡ true
all_stand keys ends least [] = refl
all_stand keys ends least (b ∷ batches) = by (is_listed b.key keys) refl (all_stand keys ends least batches)
  where
    holds : BatchKey → Bool
    holds key = is_listed key keys

    alone : List Traced
    alone = alone_in least (end_of ends b) b b.events

    rest : List Traced
    rest = alone_of keys ends least batches

    by : (t : Bool) → is_listed b.key keys ≡ t → list_all (λ x. holds x.key) rest ≡ true → list_all (λ x. holds x.key) ((if t then alone else []) ++ rest) ≡ true
    by true e more = batch-alone holds alone rest (all-alone holds least (end_of ends b) b b.events e) more
    by false e more = more
