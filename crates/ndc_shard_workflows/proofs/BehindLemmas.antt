-- A cell of domains after a change to one of its workflows.
use Rattle.std.proofs.Common.{◌≡◌, Bool, true, false, ◌&&◌, not, List, [], ◌∷◌, Option, Some, None, map, refl, sym, ◌∙◌, subst, ap, true≢false}
use Rattle.std.specs.Prelude.{IfSome, option_to_list, if◌then◌else◌}
use Rattle.std.specs.List.{AllByRecursion, filter}
use Rattle.std.specs.Str.{bytes_eq}
use Rattle.std.proofs.lemmas.Bool.{and_parts}
use Rattle.std.proofs.lemmas.List.{map-id}
use Rattle.std.proofs.lemmas.Slice.Eq.{bytes_eq-Decides}
use Rattle.ndc_model_cells.specs.declared.message.Message.{Message}
use Rattle.ndc_model_cells.specs.Arrival.{arrived_at, cell_with, message_placed}
use Rattle.ndc_model_cells.specs.Arrival as cells
use Rattle.ndc_model_cells.specs.Cells.{Cell, is_learned_in}
use Rattle.ndc_model_cells.specs.Places.{AreBehind, AreInOrder, is_at, is_of, place_lt, place_of, placed}
use Rattle.ndc_model_cells.specs.Writing.{Entry, with_batches}
use Rattle.ndc_model_cells.proofs.CellLemmas.{others_arrived}
use Rattle.ndc_model_cells.proofs.PlaceLemmas.{arrival_keeps, placed-in-order, writing_keeps}
use Rattle.ndc_event.specs.declared.batch.Batch.{Batch}
use Rattle.ndc_event.specs.declared.name.Name.{Name}
use Rattle.ndc_model_sets.specs.Sets.{PointsBack}
use Rattle.ndc_model_sets.proofs.Lists.{filter-cases}
use Rattle.ndc_model_cells.specs.Messages.{IsMessage, carrying}
use Rattle.ndc_shard_waiting.proofs.KeptLemmas.{both-back}
use Rattle.ndc_model_cells.specs.Workflow.{WorkflowValue, workflow_of}
use Rattle.ndc_shard_workflows.specs.Workflow.{after_arrival, with_written}
use Rattle.ndc_shard_workflows.proofs.CellLemmas.{other_same, workflow-same, written_same, own-names}
use Rattle.ndc_shard_workflows.proofs.OneWriteLemmas.{together-back}
use Rattle.ndc_shard_workflows.proofs.PutOffLemmas.{all_wait}
use Rattle.ndc_shard_workflows.specs.Writing.{GoTogether}
use Rattle.ndc_shard_workflows.specs.Named.{under, IsPut}
use Rattle.ndc_shard_workflows.specs.Workflows.{DomainValue, cell_of, workflow_or_empty, workflows_in, found, IsOwn, AreOwn, AreDomains}
use Rattle.ndc_shard_workflows.proofs.NameLemmas.{put-there, put-holds}
use Rattle.ndc_shard_workflows.proofs.DomainLemmas.{own-there, workflow-there, arrived-ordered, waiting-ordered, is-cell}
use Rattle.ndc_shard_workflows.proofs.OwnLemmas.{own-or-empty}
use Rattle.ndc_shard_workflows.proofs.SameLemmas.{names-of, same_in_order}

-- a workflow is put into its domain, and the domain into the cell
module _ (domain workflow : Name) (w : WorkflowValue) (workflows : DomainValue) (domains after : List (Name × DomainValue)) (outer : IsPut domain workflows domains after)
    (inner : IsPut workflow w (workflows_in (under domain domains)) workflows) where
  pub found-there : found domain workflow after ≡ Some w
  found-there = ap (λ o. under workflow (workflows_in o)) (put-there domain workflows domains after outer) ∙ put-there workflow w (workflows_in (under domain domains)) workflows inner

  pub found-others : (d n : Name) → (bytes_eq domain d && bytes_eq workflow n) ≡ false → found d n after ≡ found d n domains
  found-others d n differ = ap (λ o. under n (workflows_in o)) (outer.found d) ∙ by (bytes_eq domain d) refl differ
    where
      other : (t : Bool) → bytes_eq workflow n ≡ t → t ≡ false → (if t then Some w else under n (workflows_in (under domain domains))) ≡ under n (workflows_in (under domain domains))
      other true e h = absurd (true≢false h)
      other false e h = refl

      by : (t : Bool) → bytes_eq domain d ≡ t → (t && bytes_eq workflow n) ≡ false → under n (workflows_in (if t then Some workflows else under d domains)) ≡ found d n domains
      by true e h =
          inner.found n ∙ other (bytes_eq workflow n) refl h ∙ ap (λ (k : Name). under n (workflows_in (under k domains))) ((bytes_eq-Decides domain d).0 e)
      by false e h = refl

  pub domains-after : AreDomains domains → IsOwn domain workflow w → AreDomains after
  domains-after are own =
      put-holds AreOwn domain workflows domains after outer
      (put-holds (IsOwn domain) workflow w (workflows_in (under domain domains)) workflows inner own (own-there domains are domain)) are

-- the cell is then another one in order that has this workflow, and otherwise the same ones
pub cell-behind : (domain workflow : Name) (w : WorkflowValue) (domains after : List (Name × DomainValue)) → AreDomains domains → AreDomains after → found domain workflow after ≡ Some w
    → ((d n : Name) → (bytes_eq domain d && bytes_eq workflow n) ≡ false → found d n after ≡ found d n domains)
    → (next : Cell) → next.written ≡ [] → AreInOrder next.arrived → AreInOrder (map (λ sent. sent.batch) next.waiting) → workflow_of domain workflow next ≡ w
    → ((d n : Name) → (bytes_eq domain d && bytes_eq workflow n) ≡ false → workflow_of d n next ≡ workflow_of d n (cell_of domains)) → cell_of after ≡ next
cell-behind domain workflow w domains after are later there others next none ordered waiting own rest = λ i. record {
  arrived = same_in_order (λ b. b) (cell_of after).arrived next.arrived (in-order-too (cell_of after).arrived (arrived-ordered after later)) (in-order-too next.arrived ordered)
      (λ d n. ap (λ (v : WorkflowValue). v.arrived) (alike d n)) i;
  written = sym none i;
  waiting = same_in_order (λ sent. sent.batch) (cell_of after).waiting next.waiting (waiting-ordered after later) waiting (λ d n. ap (λ (v : WorkflowValue). v.waiting) (alike d n)) i;
}
  where
    in-order-too : (batches : List Batch) → AreInOrder batches → AreInOrder (map (λ b. b) batches)
    in-order-too batches order = subst AreInOrder (sym (map-id batches)) order

    by : (d n : Name) (t : Bool) → (bytes_eq domain d && bytes_eq workflow n) ≡ t → workflow_of d n (cell_of after) ≡ workflow_of d n next
    by d n true e =
        let parts = and_parts (bytes_eq domain d) (bytes_eq workflow n) e in
        subst (λ (k : Name). workflow_of k n (cell_of after) ≡ workflow_of k n next) ((bytes_eq-Decides domain d).0 parts.0)
        (subst (λ (k : Name). workflow_of domain k (cell_of after) ≡ workflow_of domain k next) ((bytes_eq-Decides workflow n).0 parts.1)
        (workflow-there after later domain workflow ∙ ap workflow_or_empty there ∙ sym own))
    by d n false e = workflow-there after later d n ∙ ap workflow_or_empty (others d n e) ∙ sym (workflow-there domains are d n) ∙ sym (rest d n e)

    alike : (d n : Name) → workflow_of d n (cell_of after) ≡ workflow_of d n next
    alike d n = by d n (bytes_eq domain d && bytes_eq workflow n) refl

-- each workflow of the cell is one of its names
pub workflow-own : (domains : List (Name × DomainValue)) → AreDomains domains → (domain workflow : Name) → IsOwn domain workflow (workflow_of domain workflow (cell_of domains))
workflow-own domains are domain workflow =
    subst (IsOwn domain workflow) (sym (workflow-there domains are domain workflow)) (own-or-empty domain workflow (found domain workflow domains) (each (found domain workflow domains) refl))
  where
    each : (o : Option WorkflowValue) → found domain workflow domains ≡ o → IfSome o (IsOwn domain workflow)
    each None e = tt
    each (Some w) e = (own-there domains are domain).each workflow w e

-- batches carried by one of a workflow are of no other
pub second-other : (domain workflow : Name) (b : Batch) (second : Option Batch) → is_of domain workflow b ≡ false → IfSome second (λ x. is_of b.domain b.workflow x ≡ true)
    → IfSome second (λ x. is_of domain workflow x ≡ false)
second-other domain workflow b None other own = tt
second-other domain workflow b (Some x) other own =
    let names = names-of b.domain b.workflow x own in
    ap (λ (k : Name). bytes_eq k domain && bytes_eq x.workflow workflow) names.0 ∙ ap (λ (k : Name). bytes_eq b.domain domain && bytes_eq k workflow) names.1 ∙ other

second-back : (sent : Message) → IsMessage sent → IfSome sent.second PointsBack
second-back sent message = by sent.second (both-back sent message).1
  where
    by : (o : Option Batch) → AllByRecursion PointsBack (option_to_list o) → IfSome o PointsBack
    by None all = tt
    by (Some b) all = all.0

-- messages stay in order after one more, and where some go
placed-mapped : (new : Message) (messages : List Message) → map (λ sent. sent.batch) (message_placed new messages) ≡ placed new.batch (map (λ sent. sent.batch) messages)
placed-mapped new [] = refl
placed-mapped new (sent ∷ messages) = by (place_lt (place_of new.batch) (place_of sent.batch)) (is_at (place_of new.batch) sent.batch) (placed-mapped new messages)
  where
    by : (s t : Bool) → map (λ m. m.batch) (message_placed new messages) ≡ placed new.batch (map (λ m. m.batch) messages)
        → map (λ m. m.batch) (if s then new ∷ sent ∷ messages else if t then sent ∷ messages else sent ∷ message_placed new messages)
        ≡ (if s then new.batch ∷ sent.batch ∷ map (λ m. m.batch) messages else if t then sent.batch ∷ map (λ m. m.batch) messages else sent.batch ∷ placed new.batch (map (λ m. m.batch) messages))
    by true t rest = refl
    by false true rest = refl
    by false false rest = ap (λ l. sent.batch ∷ l) rest

filtered-ordered : (p : Message → Bool) (messages : List Message) → AreInOrder (map (λ sent. sent.batch) messages) → AreInOrder (map (λ sent. sent.batch) (filter p messages))
filtered-ordered p [] order = tt
filtered-ordered p (sent ∷ messages) order =
    filter-cases (λ l. AreInOrder (map (λ m. m.batch) l)) p sent messages
    (λ _. (behind messages order.0, filtered-ordered p messages order.1)) (λ _. filtered-ordered p messages order.1)
  where
    behind : (list : List Message) → AreBehind (place_of sent.batch) (map (λ m. m.batch) list) → AreBehind (place_of sent.batch) (map (λ m. m.batch) (filter p list))
    behind [] all = tt
    behind (m ∷ list) all = filter-cases (λ l. AreBehind (place_of sent.batch) (map (λ x. x.batch) l)) p m list (λ _. (all.0, behind list all.1)) (λ _. behind list all.1)

module _ (sent : Message) (cell : Cell) (waiting : AreInOrder (map (λ m. m.batch) cell.waiting)) where
  waiting-behind : AreInOrder (map (λ m. m.batch) (arrived_at sent cell).waiting)
  unfolding arrived_at
  waiting-behind = by (cells.has_arrived sent.batch cell)
    where
      by : (t : Bool) → AreInOrder (map (λ m. m.batch) (if t then cell else cell_with sent cell).waiting)
      by true = waiting
      by false =
          filtered-ordered (λ m. not (is_learned_in (record cell { arrived = (cell_with sent cell).arrived; waiting = message_placed sent cell.waiting }) m.batch)) (message_placed sent cell.waiting)
          (subst AreInOrder (sym (placed-mapped sent cell.waiting)) (placed-in-order sent.batch (map (λ m. m.batch) cell.waiting) waiting))

  written-behind : (arrived_at sent cell).written ≡ cell.written
  unfolding arrived_at
  written-behind = by (cells.has_arrived sent.batch cell)
    where
      by : (t : Bool) → (if t then cell else cell_with sent cell).written ≡ cell.written
      by true = refl
      by false = refl

-- a message arrives in its workflow
pub arrived-behind : (sent : Message) (domains after : List (Name × DomainValue)) → AreDomains domains → AreDomains after → IsMessage sent
    → IfSome sent.second (λ b. is_of sent.batch.domain sent.batch.workflow b ≡ true)
    → found sent.batch.domain sent.batch.workflow after ≡ Some (after_arrival sent (workflow_of sent.batch.domain sent.batch.workflow (cell_of domains)))
    → ((d n : Name) → is_of d n sent.batch ≡ false → found d n after ≡ found d n domains) → cell_of after ≡ arrived_at sent (cell_of domains)
arrived-behind sent domains after are later message own there others =
    cell-behind sent.batch.domain sent.batch.workflow (after_arrival sent (workflow_of sent.batch.domain sent.batch.workflow (cell_of domains))) domains after are later there others
    (arrived_at sent (cell_of domains)) (written-behind sent (cell_of domains) (waiting-ordered domains are))
    (arrival_keeps sent (cell_of domains) (is-cell domains are) message.back (second-back sent message)).ordered
    (waiting-behind sent (cell_of domains) (waiting-ordered domains are))
    (workflow-same sent (cell_of domains) (is-cell domains are) (waiting-ordered domains are) message.back own)
    (λ d n other. other_same d n sent (cell_of domains) other (second-other d n sent.batch sent.second other own)
    (all_wait (workflow_of d n (cell_of domains)) (workflow-own domains are d n).is))

-- what is written to its workflow
pub batches-behind : (entry : Entry) (domains after : List (Name × DomainValue)) → AreDomains domains → AreDomains after → GoTogether (carrying entry.batch entry.second)
    → IfSome entry.second (λ b. is_of entry.batch.domain entry.batch.workflow b ≡ true)
    → found entry.batch.domain entry.batch.workflow after ≡ Some (with_written (carrying entry.batch entry.second) (workflow_of entry.batch.domain entry.batch.workflow (cell_of domains)))
    → ((d n : Name) → is_of d n entry.batch ≡ false → found d n after ≡ found d n domains) → cell_of after ≡ with_batches entry (cell_of domains)
batches-behind entry domains after are later together own there others =
    cell-behind entry.batch.domain entry.batch.workflow (with_written (carrying entry.batch entry.second) (workflow_of entry.batch.domain entry.batch.workflow (cell_of domains))) domains after are later there others
    (with_batches entry (cell_of domains)) refl
    (writing_keeps entry (cell_of domains) (is-cell domains are) together.back (together-back (carrying entry.batch entry.second) together)).ordered
    (waiting-ordered domains are)
    (written_same entry.batch.domain entry.batch.workflow entry (cell_of domains) (is-cell domains are) together.back (own-names entry.batch) own)
    (λ d n other i. record {
      arrived = others_arrived d n entry (cell_of domains) other (second-other d n entry.batch entry.second other own) i;
      waiting = (workflow_of d n (cell_of domains)).waiting;
    })
