-- What an indexer does that is told of batches.
use Rattle.std.specs.Prelude.{ℕ, ◌+◌, Bool, nat_eq, List, [], length}
use Rattle.std.specs.List.{list_any}
use Rattle.ndc_event.specs.declared.kind.EventKind.{EventKind}
use Rattle.ndc_event.specs.declared.name.Name.{Name}
use Rattle.ndc_index.specs.Lines.{index_text}
use Rattle.ndc_index.specs.Texts.{count_kinds, events_told, is_close, is_copy, is_original}
use Rattle.ndc_index.specs.declared.indexer.Counted.{Counted}
use Rattle.ndc_index.specs.declared.indexer.Counted.TheVariants.{Closes, Copies, Originals, Starts}
use Rattle.ndc_index.specs.declared.seen.Seen.{Seen}
use Rattle.ndc_state.specs.Table.{is_start}

-- whether the next call fails, after these
abbrev pub fails_next : List ℕ → List Seen → Bool
fails_next failing list = list_any (nat_eq (length list + 1)) failing

-- what an indexer of this name and own text shows of what it was told
abbrev pub text_of : Name → List ℕ → List Seen → List ℕ
text_of title own list = index_text (record { name = title; failing = []; own = own }) (events_told list)

-- whether a kind is one of those that are counted
abbrev pub counts : Counted → EventKind → Bool
counts Starts kind = is_start kind
counts Closes kind = is_close kind
counts Originals kind = is_original kind
counts Copies kind = is_copy kind

-- how many events of what was told have such a kind
unfoldable pub count_told : Counted → List Seen → ℕ
count_told which list = count_kinds (counts which) (events_told list)

-- what was told, and the two sorts of events that are counted
pub record TallyValue : Type 0 where
  pub list : List Seen
  pub first : Counted
  pub second : Counted
