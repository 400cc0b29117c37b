-- The version history of a path ends with its last batch.
use Rattle.std.proofs.Common.{◌≡◌, ℕ, suc, Bool, true, false, ◌==◌, List, [], ◌∷◌, Some, length, slice_get, refl, sym, ◌∙◌, ap, subst}
use Rattle.std.specs.Prelude.{if◌then◌else◌}
use Rattle.std.proofs.lemmas.Bool.{and_parts, and_from, eqb-true, eq-eqb}
use Rattle.ndc_event.specs.Batch.{are_of_version}
use Rattle.ndc_event.specs.declared.batch.Batch.{Batch}
use Rattle.ndc_event.specs.declared.batch.Event.{Event}
use Rattle.ndc_history.specs.History.{is_last, last_item}
use Rattle.ndc_history.specs.declared.item.Item.{Item}
use Rattle.ndc_model_cells.specs.declared.message.Message.{Message}
use Rattle.ndc_model_cells.specs.Keeping.{IsMessageOf}
use Rattle.ndc_model_sets.specs.Paths.{before_items, events_to, item_of, last_event, last_from, last_id, id_or_zero, versions_of}
use Rattle.ndc_model_sets.specs.Sets.{Has}
use Rattle.ndc_model_sets.specs.Sound.{IsSound}
use Rattle.ndc_model_sets.proofs.EventLemmas.{before-suc}
use Rattle.ndc_model_sets.proofs.FaultLemmas.{Passes, passes}
use Rattle.ndc_model_sets.proofs.PathLaws.{ends_with_batch}
use Rattle.ndc_admission.specs.History.{history_ends, item_of_batch}

-- an item before others leaves the last one
last-behind : (item next : Item) (items : List Item) → last_item (item ∷ next ∷ items) ≡ last_item (next ∷ items)
last-behind item next items =
    ap (slice_get (item ∷ next ∷ items)) (before-suc (suc (length items))) ∙ ap (slice_get (next ∷ items)) (sym (before-suc (length items)))

last-before : (item next : Item) (items : List Item) → last_item (before_items item (next ∷ items)) ≡ last_item (next ∷ items)
last-before item next items = by (item.version == next.version)
  where
    by : (t : Bool) → last_item (if t then next ∷ items else item ∷ next ∷ items) ≡ last_item (next ∷ items)
    by true = refl
    by false = last-behind item next items

-- the history of events ends with the item of the last one
history-last : (event : Event) (events : List Event) → last_item (versions_of (event ∷ events)) ≡ Some (item_of (last_from event events))
history-last event [] = refl
history-last event (next ∷ events) = by (versions_of (next ∷ events)) refl (history-last next events)
  where
    by : (items : List Item) → versions_of (next ∷ events) ≡ items → last_item items ≡ Some (item_of (last_from next events))
        → last_item (before_items (item_of event) items) ≡ Some (item_of (last_from next events))
    by [] at h = absurd (cc)
    by (item ∷ items) at h = last-before (item_of event) item items ∙ h

ends-history : (events : List Event) (last : Event) → last_event events ≡ Some last → last_item (versions_of events) ≡ Some (item_of last)
ends-history [] last e = absurd (cc)
ends-history (event ∷ events) last e =
    let same : last_from event events ≡ last = cc in
    history-last event events ∙ ap (λ (x : Event). Some (item_of x)) same

-- the last of events of a version is of it
last-version : (version : ℕ) (event : Event) (events : List Event) → are_of_version version (event ∷ events) ≡ true → (last_from event events).version ≡ version
last-version version event [] t = eqb-true event.version version (and_parts (event.version == version) true t).0
last-version version event (next ∷ events) t = last-version version next events (and_parts (event.version == version) (are_of_version version (next ∷ events)) t).1

-- the item of a batch without a fault is that of its last event
pub batch-item : (b : Batch) → Passes b → (last : Event) × (last_event b.events ≡ Some last) × (item_of last ≡ item_of_batch b)
batch-item b p =
    let last = last_from p.event p.events in
    let is : last_event b.events ≡ Some last = ap last_event p.are in
    let version : last.version ≡ b.key.version = last-version b.key.version p.event p.events (subst (λ (l : List Event). are_of_version b.key.version l ≡ true) p.are p.versions) in
    let id : last.id ≡ last_id b.events = sym (ap id_or_zero is) in
    (last, is, ap (λ (i : ℕ). record { id = i; version = last.version }) id ∙ ap (λ (v : ℕ). record { id = last_id b.events; version = v }) version)

pub is-self : (item : Item) → is_last item (Some item) ≡ true
is-self item = and_from (item.id == item.id) (item.version == item.version) (eq-eqb item.id item.id refl) (eq-eqb item.version item.version refl)

-- the history of the path to a batch of a sound set ends with the item of the batch
pub path-ends : (all : List Batch) (b : Batch) → IsSound all → Has all b → last_item (versions_of (events_to b.key all)) ≡ Some (item_of_batch b)
path-ends all b sound has =
    let own = batch-item b (passes b (sound.faultless b has)) in
    let ends : last_event (events_to b.key all) ≡ Some own.0 = ends_with_batch all b sound.set sound.closed sound.faultless sound.parents has ∙ own.1 in
    ends-history (events_to b.key all) own.0 ends ∙ ap (λ (i : Item). Some i) own.2

pub set_history_ends : (all : List Batch) (sent : Message) → IsSound all → IsMessageOf all sent → history_ends sent ≡ true
set_history_ends all sent sound of =
    let b = sent.batch in
    let last : last_item sent.history ≡ Some (item_of_batch b) = ap last_item of.history ∙ path-ends all b sound of.has in
    ap (is_last (item_of_batch b)) last ∙ is-self (item_of_batch b)
