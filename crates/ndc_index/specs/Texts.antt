-- What the indexers `kinds`, `open` and `signals` show of the events that they were told.
use Rattle.std.specs.Prelude.{ℕ, ◌+◌, Bool, true, false, is_none, is_some, List, [], ◌∷◌, ◌++◌, map, codes, count_by, decimal}
use Rattle.std.specs.List.{flat_map, fold}
use Rattle.std.specs.Ordering.{match_ordering}
use Rattle.ndc_domain.specs.Records.{names_cmp}
use Rattle.ndc_event.specs.Kind.{kind_name}
use Rattle.ndc_event.specs.declared.batch.Event.{Event}
use Rattle.ndc_event.specs.declared.kind.EventKind.{EventKind}
use Rattle.ndc_event.specs.declared.kind.EventKind.TheVariants.{WorkflowExecutionSignaled, WorkflowExecutionCompleted, WorkflowExecutionFailed, WorkflowExecutionCanceled, WorkflowExecutionTerminated, WorkflowExecutionContinuedAsNew}
use Rattle.ndc_event.specs.declared.name.Name.{Name}
use Rattle.ndc_index.specs.declared.seen.Seen.{Seen}
use Rattle.ndc_state.specs.Table.{is_start}

-- all events of the batches that were told
abbrev pub events_told : List Seen → List Event
events_told seen = flat_map (λ told. told.batch.events) seen

-- how many of these events have a kind that passes
abbrev pub count_kinds : (EventKind → Bool) → List Event → ℕ
count_kinds test events = count_by (λ event. test event.kind) events

-- one more of a name, in counts in order of name
abbrev pub with_one_more : List (Name × ℕ) → Name → List (Name × ℕ)
with_one_more [] name = (name, 1) ∷ []
with_one_more (entry ∷ counts) name =
    match_ordering (names_cmp name entry.0) ((name, 1) ∷ entry ∷ counts) ((entry.0, entry.1 + 1) ∷ counts) (entry ∷ with_one_more counts name)

-- how many events there are of each kind, in order of the kinds' names
abbrev pub kind_counts : List Event → List (Name × ℕ)
kind_counts events = fold with_one_more [] (map (λ event. kind_name event.kind) events)

-- a name and its count
abbrev pub count_text : Name × ℕ → List ℕ
count_text entry = entry.0 ++ codes " " ++ decimal entry.1

-- counts with spaces between them, or a dash
abbrev pub counts_text : List (Name × ℕ) → List ℕ
counts_text [] = codes "-"
counts_text (entry ∷ counts) = count_text entry ++ flat_map (λ later. codes " " ++ count_text later) counts

-- `kinds`: how many events there are of each kind
abbrev pub kinds_text : List Event → List ℕ
kinds_text events = counts_text (kind_counts events)

-- whether the kind closes a run
abbrev pub is_close : EventKind → Bool
is_close (WorkflowExecutionCompleted _) = true
is_close (WorkflowExecutionFailed _) = true
is_close WorkflowExecutionCanceled = true
is_close (WorkflowExecutionTerminated _) = true
is_close (WorkflowExecutionContinuedAsNew _ _) = true
is_close _ = false

-- `open`: how many runs started and how many closed
abbrev pub open_text : List Event → List ℕ
open_text events = codes "started " ++ decimal (count_kinds is_start events) ++ codes " closed " ++ decimal (count_kinds is_close events)

-- whether the kind is a signal without an origin
abbrev pub is_original : EventKind → Bool
is_original (WorkflowExecutionSignaled name input origin) = is_none origin
is_original _ = false

-- whether the kind is a signal with an origin
abbrev pub is_copy : EventKind → Bool
is_copy (WorkflowExecutionSignaled name input origin) = is_some origin
is_copy _ = false

-- `signals`: how many signals are originals and how many are copies
abbrev pub signals_text : List Event → List ℕ
signals_text events = codes "originals " ++ decimal (count_kinds is_original events) ++ codes " copies " ++ decimal (count_kinds is_copy events)
