-- What is written at once to a workflow.
use Rattle.std.specs.Prelude.{◌≡◌, ℕ, ◌+◌, ◌^◌, ◌≤◌, true, false, is_some, length, List, [], ◌∷◌, Some, None, IfSome}
use Rattle.std.specs.List.{AllByRecursion, flat_map}
use Rattle.ndc_model_cells.specs.Writing.{Entry, goes_on}
use Rattle.ndc_event.specs.declared.batch.Batch.{Batch}
use Rattle.ndc_event.specs.declared.key.RunId.{RunId}
use Rattle.ndc_event.specs.declared.kind.EventKind.{EventKind}
use Rattle.ndc_event.specs.declared.kind.EventKind.TheVariants as kind
use Rattle.ndc_event.specs.declared.name.Name.{Name}
use Rattle.ndc_index.specs.Texts.{count_kinds, is_original}
use Rattle.ndc_model_sets.specs.Learned.{has_key}
use Rattle.ndc_model_sets.specs.Sets.{Has, arrived, earlier}
use Rattle.ndc_text.specs.Ranges.{InRange}
use Rattle.ndc_laws_cells.specs.Adding.{Added}

-- how many original signals batches hold
abbrev pub originals_in : List Batch → ℕ
originals_in batches = count_kinds is_original (flat_map (λ b. b.events) batches)

-- how much a batch holds: so many original signals at most, no more events than a history may have with what goes before and after a
-- command, a task up to this one, and numbers in the ranges of batch texts
pub record IsSmall (originals tasks : ℕ) (b : Batch) : Type 0 where
  pub originals_most : count_kinds is_original b.events ≤ originals
  pub events_most : length b.events ≤ 204803
  pub task_most : b.key.task ≤ tasks
  pub range : InRange b

-- the batch that another one carries: the first of its run, of the same workflow and version, which does not go on itself
pub record IsSecond (all : List Batch) (b second : Batch) : Type 0 where
  pub added : Added (arrived b all) second
  pub domain_is : second.domain ≡ b.domain
  pub workflow_is : second.workflow ≡ b.workflow
  pub version_is : second.key.version ≡ b.key.version
  pub carrier : second.carrier ≡ Some b.key
  pub parent : second.parent ≡ None
  pub stays : goes_on second ≡ false
  pub small : IsSmall 0 (length all + 2) second

-- the batch that another one carries: the first of its run, of the same workflow and version, which does not go on itself
pub record IsCarriedIn (all : List Batch) (b second : Batch) : Type 0 where
  pub added : Added (arrived b all) second
  pub domain_is : second.domain ≡ b.domain
  pub workflow_is : second.workflow ≡ b.workflow
  pub version_is : second.key.version ≡ b.key.version
  pub carrier : second.carrier ≡ Some b.key
  pub parent : second.parent ≡ None
  pub stays : goes_on second ≡ false

-- an entry that a writer with this version adds to a workflow, of which this was written and that part is learned: a batch that is not
-- carried, and the one that it carries where it goes on
pub record IsEntryOf (all part : List Batch) (domain workflow : Name) (version : ℕ) (entry : Entry) : Type 0 where
  pub domain_is : entry.batch.domain ≡ domain
  pub workflow_is : entry.batch.workflow ≡ workflow
  pub version_is : entry.batch.key.version ≡ version
  pub carrier : entry.batch.carrier ≡ None
  pub reached : has_key (earlier entry.batch) part ≡ true
  pub added : Added all entry.batch
  pub goes : goes_on entry.batch ≡ is_some entry.second
  pub second : IfSome entry.second (IsCarriedIn all entry.batch)

-- what a writer with this version adds at once: one entry, or a batch that closes a run and after it the first one of a new run, whatever
-- is learned then
pub record AddsOne (all part : List Batch) (domain workflow : Name) (version : ℕ) (entries : List Entry) : Type 0 where
  pub entry : Entry
  pub are : entries ≡ entry ∷ []
  pub may_be : IsEntryOf all part domain workflow version entry

pub record AddsTwo (all part : List Batch) (domain workflow : Name) (version : ℕ) (entries : List Entry) : Type 0 where
  pub closing : Entry
  pub entry : Entry
  pub are : entries ≡ closing ∷ entry ∷ []
  pub lone_closing : closing.second ≡ None
  pub lone : entry.second ≡ None
  pub may_close : IsEntryOf all part domain workflow version closing
  pub may_be : (other : List Batch) → IsEntryOf (arrived closing.batch all) other domain workflow version entry

-- an entry that may be written with this version to a workflow, of which this was written and that part is learned: a batch that is not
-- carried, and the one that it carries where it goes on
pub record IsWrite (all part : List Batch) (domain workflow : Name) (version originals : ℕ) (entry : Entry) : Type 0 where
  pub domain_is : entry.batch.domain ≡ domain
  pub workflow_is : entry.batch.workflow ≡ workflow
  pub version_is : entry.batch.key.version ≡ version
  pub carrier : entry.batch.carrier ≡ None
  pub reached : has_key (earlier entry.batch) part ≡ true
  pub added : Added all entry.batch
  pub small : IsSmall originals (length all + 1) entry.batch
  pub goes : goes_on entry.batch ≡ is_some entry.second
  pub second : IfSome entry.second (IsSecond all entry.batch)

-- what is known of all that was written of a workflow, and of a version: tasks and numbers are small, and all is in the ranges of batch texts
pub record AreFew (all : List Batch) (version : ℕ) : Type 0 where
  pub version_most : version ≤ 10 ^ 13
  pub tasks : (b : Batch) → Has all b → b.key.task ≤ length all
  pub batches_most : length all ≤ 200000
  pub originals_most : originals_in all ≤ 100000
  pub events_most : AllByRecursion (λ b. length b.events ≤ 204803) all
  pub range : (b : Batch) → Has all b → InRange b

-- one entry is written
pub record WritesOne (all part : List Batch) (domain workflow : Name) (version originals : ℕ) (entries : List Entry) : Type 0 where
  pub entry : Entry
  pub are : entries ≡ entry ∷ []
  pub may_be : IsWrite all part domain workflow version originals entry

-- a batch is written that carries none
pub record WritesAlone (all part : List Batch) (domain workflow : Name) (version : ℕ) (entries : List Entry) : Type 0 where
  pub entry : Entry
  pub are : entries ≡ entry ∷ []
  pub lone : entry.second ≡ None
  pub may_be : IsWrite all part domain workflow version 0 entry

-- a batch is written that closes a run, and after it the first one of a new run, whatever is learned then; neither carries another
pub record WritesBehind (all part : List Batch) (domain workflow : Name) (version : ℕ) (entries : List Entry) : Type 0 where
  pub closing : Entry
  pub entry : Entry
  pub are : entries ≡ closing ∷ entry ∷ []
  pub lone_closing : closing.second ≡ None
  pub lone : entry.second ≡ None
  pub may_close : IsWrite all part domain workflow version 1 closing
  pub may_be : (other : List Batch) → IsWrite (arrived closing.batch all) other domain workflow version 0 entry

-- the kind is not a copied signal, and where a run goes on by it, it does so as this one
abbrev pub IsPlain : RunId → EventKind → Type 0
IsPlain run (kind.WorkflowExecutionSignaled name input from) = from ≡ None
IsPlain run (kind.WorkflowExecutionContinuedAsNew next workflow_type) = next ≡ run
IsPlain run _ = Unit {0}
