-- Blocks of a picture: batches in a row, between two forks, that are drawn as one box.
use Rattle.std.specs.Prelude.{ℕ, Bool, true, false, not, ◌&&◌, ◌==◌, nat_lt, List, [], ◌∷◌, ◌++◌, take, length, Option, Some, None, if◌then◌else◌}
use Rattle.std.specs.List.{cons_option, flat_map}
use Rattle.ndc_event.specs.Key.{key_eq}
use Rattle.ndc_event.specs.Kind.{kind_name}
use Rattle.ndc_event.specs.declared.batch.Batch.{Batch}
use Rattle.ndc_event.specs.declared.batch.Event.{Event}
use Rattle.ndc_event.specs.declared.key.BatchKey.{BatchKey}
use Rattle.ndc_event.specs.declared.key.Origin.{Origin}
use Rattle.ndc_event.specs.declared.kind.EventKind.{EventKind}
use Rattle.ndc_event.specs.declared.kind.EventKind.TheVariants.{WorkflowExecutionSignaled}
use Rattle.ndc_dump_causes.specs.Keys.{is_listed}
use Rattle.ndc_explain.specs.declared.summary.Summary.{Summary}
use Rattle.ndc_explain.specs.Standing.{with_optional}

-- whether the key is this parent, where there is one
abbrev pub is_parent : Option BatchKey → BatchKey → Bool
is_parent None key = false
is_parent (Some parent) key = key_eq parent key

-- whether the parent is the batch before, where there is one
abbrev pub is_behind : Option BatchKey → Option BatchKey → Bool
is_behind parent None = false
is_behind parent (Some before) = is_parent parent before

-- the parents of batches that do not come directly after them
abbrev pub with_fork : Option BatchKey → Option BatchKey → List BatchKey → List BatchKey
with_fork parent before keys = if is_behind parent before then keys else with_optional parent keys

abbrev pub with_forks : Option BatchKey → List Batch → List BatchKey → List BatchKey
with_forks before [] keys = keys
with_forks before (b ∷ batches) keys = with_forks (Some b.key) batches (with_fork b.parent before keys)

abbrev pub forks : List Batch → List BatchKey
forks batches = with_forks None batches []

-- whether a batch goes on in the block of the one before: it is its only child, and of its version
abbrev pub goes_on : List BatchKey → Option BatchKey → Batch → Bool
goes_on keys None b = false
goes_on keys (Some before) b = is_parent b.parent before && (before.version == b.key.version) && not (is_listed before keys)

-- blocks that are done, the one that may go on, and its last key
pub record Blocked : Type 0 where
  pub done : List (List Batch)
  pub block : List Batch
  pub before : Option BatchKey

-- the block goes last, unless it is empty
abbrev pub with_block : List Batch → List (List Batch) → List (List Batch)
with_block [] done = done
with_block (b ∷ block) done = done ++ (b ∷ block) ∷ []

-- the block ends
abbrev pub ended : Blocked → Blocked
ended now = record { done = with_block now.block now.done; block = []; before = now.before }

-- the batch goes last in the block
abbrev pub with_last : Batch → Blocked → Blocked
with_last b now = record { done = now.done; block = now.block ++ b ∷ []; before = Some b.key }

-- the batch goes on in the block, or begins the next one
abbrev pub with_batch : List BatchKey → Batch → Blocked → Blocked
with_batch keys b now = with_last b (if goes_on keys now.before b then now else ended now)

abbrev pub with_batches : List BatchKey → List Batch → Blocked → Blocked
with_batches keys [] now = now
with_batches keys (b ∷ batches) now = with_batches keys batches (with_batch keys b now)

-- no batch was gone over
abbrev pub no_block : Blocked
no_block = record { done = []; block = []; before = None }

-- the blocks of batches
abbrev pub blocks_of : List Batch → List (List Batch)
blocks_of batches = (ended (with_batches (forks batches) batches no_block)).done

-- the names of the kinds of these events
abbrev pub kinds_in : List Event → List (List ℕ)
kinds_in events = flat_map (λ event. kind_name event.kind ∷ []) events

-- the names of the kinds of the events of a block
abbrev pub kinds_of : List Batch → List (List ℕ)
kinds_of block = flat_map (λ b. kinds_in b.events) block

-- how many of these are told
abbrev pub told_count : ℕ → ℕ
told_count count = if nat_lt 6 count then 6 else count

-- the kinds that are told: the first ones
abbrev pub kinds_told : List (List ℕ) → List (List ℕ)
kinds_told kinds = take (told_count (length kinds)) kinds

-- the events of a block, and those that are told: the first ones
abbrev pub events_of : List Batch → List Event
events_of block = flat_map (λ b. b.events) block

abbrev pub events_told : List Event → List Event
events_told events = take (told_count (length events)) events

-- the origin that an event of this kind copies
abbrev pub copied_by : EventKind → Option Origin
copied_by (WorkflowExecutionSignaled name input from) = from
copied_by _ = None

-- the origins that these events copy
abbrev pub copies_in : List Event → List Origin
copies_in events = flat_map (λ event. cons_option (copied_by event.kind) []) events

-- the origins that a block copies
abbrev pub copies_of : List Batch → List Origin
copies_of block = flat_map (λ b. copies_in b.events) block

-- the last of these keys
abbrev pub last_key : BatchKey → List Batch → BatchKey
last_key key [] = key
last_key key (b ∷ block) = last_key b.key block

-- what is told of a block beside its events
abbrev pub summary_of : List Batch → Option Summary
summary_of [] = None
summary_of (b ∷ block) = Some (record {
  first = b.key;
  last = last_key b.key block;
  count = length (b ∷ block);
  run = b.run;
  parent = b.parent;
  carrier = b.carrier;
})

-- the batches of blocks, one block after the other
abbrev pub batches_in : List (List Batch) → List Batch
batches_in blocks = flat_map (λ block. block) blocks

-- whether a block has a batch
abbrev pub is_filled : List Batch → Bool
is_filled [] = false
is_filled (b ∷ block) = true
