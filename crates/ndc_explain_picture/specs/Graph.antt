-- The picture of a dump in characters: the newest block first, and a column for each branch that goes on.
use Rattle.std.specs.Prelude.{ℕ, Bool, false, not, ◌||◌, ◌+◌, ◌-◌, nat_lt, is_none, is_some, slice_set, List, [], ◌∷◌, ◌++◌, codes, decimal, length, Option, Some, None, if◌then◌else◌}
use Rattle.std.specs.List.{concat, flat_map}
use Rattle.ndc_domain.specs.Clusters.{ClusterList}
use Rattle.ndc_event.specs.Key.{key_eq, run_text}
use Rattle.ndc_event.specs.declared.batch.Batch.{Batch}
use Rattle.ndc_event.specs.declared.key.BatchKey.{BatchKey}
use Rattle.ndc_event.specs.declared.key.Origin.{Origin}
use Rattle.ndc_dump.specs.declared.dump.Dump.{Dump}
use Rattle.ndc_dump_causes.specs.Keys.{is_listed}
use Rattle.ndc_text.specs.Views.{item_text}
use Rattle.ndc_explain_picture.specs.Blocks.{blocks_of, copies_of, kinds_of, kinds_told, summary_of}
use Rattle.ndc_explain.specs.Pieces.{by_text, carrier_text, span_text}
use Rattle.ndc_explain.specs.Signals.{item_named}
use Rattle.ndc_explain.specs.Standing.{standing}
use Rattle.ndc_explain.specs.Writers.{writer_name}
use Rattle.ndc_explain.specs.declared.summary.Summary.{Summary}

-- whether a column goes on with this batch; an empty column with none
abbrev pub is_column : BatchKey → Option BatchKey → Bool
is_column key None = false
is_column key (Some waited) = key_eq key waited

-- the place of the column that goes on with this batch, counted from here
abbrev pub column_from : BatchKey → ℕ → List (Option BatchKey) → Option ℕ
column_from key place [] = None
column_from key place (column ∷ columns) = if is_column key column then Some place else column_from key (place + 1) columns

abbrev pub column_of : BatchKey → List (Option BatchKey) → Option ℕ
column_of key columns = column_from key 0 columns

-- the place of the first empty column, counted from here
abbrev pub empty_from : ℕ → List (Option BatchKey) → Option ℕ
empty_from place [] = None
empty_from place (column ∷ columns) = if is_none column then Some place else empty_from (place + 1) columns

-- the column goes to its place, or last
abbrev pub put : Option ℕ → Option BatchKey → List (Option BatchKey) → List (Option BatchKey)
put None column columns = columns ++ column ∷ []
put (Some place) column columns = slice_set columns place column

-- the columns with one for this batch
abbrev pub with_column : BatchKey → List (Option BatchKey) → List (Option BatchKey)
with_column key columns = if is_some (column_of key columns) then columns else put (empty_from 0 columns) (Some key) columns

-- the batch with which a column goes on: the parent, unless another column goes on with it
abbrev pub next_of : Option BatchKey → List (Option BatchKey) → Option BatchKey
next_of None columns = None
next_of (Some parent) columns = if is_some (column_of parent columns) then None else Some parent

-- the columns after a block
abbrev pub columns_behind : Summary → List (Option BatchKey) → List (Option BatchKey)
columns_behind summary columns = put (column_of summary.last columns) (next_of summary.parent columns) columns

-- a column beside a block: a star or an o for the block itself
abbrev pub node_text : Bool → BatchKey → Option BatchKey → List ℕ
node_text stands key None = codes "  "
node_text stands key (Some waited) = if key_eq key waited then (if stands then codes "* " else codes "o ") else codes "| "

-- the mark of a column in a line that joins two of them
abbrev pub joint_text : BatchKey → BatchKey → Bool → Option BatchKey → List ℕ
joint_text key parent inside None = if inside then codes "-" else codes " "
joint_text key parent inside (Some waited) = if key_eq key waited then codes "'" else if key_eq parent waited then codes "+" else codes "|"

-- whether the line that joins two columns goes on after a column
abbrev pub is_inside : BatchKey → BatchKey → Bool → Option BatchKey → Bool
is_inside key parent inside column = if is_column key column || is_column parent column then not inside else inside

-- what stands between two columns
abbrev pub between_text : Bool → List ℕ
between_text inside = if inside then codes "-" else codes " "

-- the line that joins the columns of a block and of its parent
abbrev pub joint_line : BatchKey → BatchKey → Bool → List (Option BatchKey) → List ℕ
joint_line key parent inside [] = codes "\n"
joint_line key parent inside (column ∷ columns) =
    (joint_text key parent inside column ++ between_text (is_inside key parent inside column)) ++ joint_line key parent (is_inside key parent inside column) columns

-- that line, where another column goes on with the parent
abbrev pub joint_of : BatchKey → Option BatchKey → List (Option BatchKey) → List ℕ
joint_of key None columns = []
joint_of key (Some parent) columns = if is_some (column_of parent columns) then joint_line key parent false columns else []

-- whether a block stands on a current branch
abbrev pub fate_text : Bool → List ℕ
fate_text stands = if stands then [] else codes " lost"

-- the signal events that a block copies
abbrev pub copy_text : Origin → List ℕ
copy_text origin = codes " copies " ++ item_text (item_named origin)

-- a kind of event
abbrev pub kind_word : List ℕ → List ℕ
kind_word kind = codes " " ++ kind

-- how many events are not told, where there are such
abbrev pub more_words : ℕ → List ℕ
more_words events = if nat_lt 6 events then codes " and " ++ decimal (events - 6) ++ codes " more" else []

-- a block without its events
abbrev pub block_head : Option ClusterList → Bool → Summary → List ℕ
block_head clusters stands summary =
    concat (
    span_text summary ∷ by_text (writer_name clusters summary.first.version) ∷ codes " run " ∷ run_text summary.run ∷ fate_text stands ∷ carrier_text summary.carrier ∷ [])

-- its events
abbrev pub block_events : List (List ℕ) → List Origin → List ℕ
block_events kinds copies = flat_map copy_text copies ++ (codes ":" ++ (flat_map kind_word (kinds_told kinds) ++ (more_words (length kinds) ++ codes "\n")))

-- a block in its columns
abbrev pub row_text : Option ClusterList → Bool → List Batch → Summary → List (Option BatchKey) → List ℕ
row_text clusters stands block summary columns =
    flat_map (node_text stands summary.last) columns
    ++ (block_head clusters stands summary ++ (block_events (kinds_of block) (copies_of block) ++ joint_of summary.last summary.parent columns))

-- the columns, and the text so far
pub record Graphed : Type 0 where
  pub columns : List (Option BatchKey)
  pub text : List ℕ

-- with a block, which has a column
abbrev pub with_row : Option ClusterList → List BatchKey → List Batch → Summary → Graphed → Graphed
with_row clusters keys block summary now = record {
  columns = columns_behind summary now.columns;
  text = now.text ++ row_text clusters (is_listed summary.first keys) block summary now.columns;
}

-- a column for a block
abbrev pub widened : BatchKey → Graphed → Graphed
widened key now = record { columns = with_column key now.columns; text = now.text }

abbrev pub with_block : Option ClusterList → List BatchKey → List Batch → Option Summary → Graphed → Graphed
with_block clusters keys block None now = now
with_block clusters keys block (Some summary) now = with_row clusters keys block summary (widened summary.last now)

-- with blocks, the last one first
abbrev pub with_blocks : Option ClusterList → List BatchKey → List (List Batch) → Graphed → Graphed
with_blocks clusters keys [] now = now
with_blocks clusters keys (block ∷ blocks) now = with_block clusters keys block (summary_of block) (with_blocks clusters keys blocks now)

-- the picture in characters of a dump
abbrev pub tree_picture_of : Option ClusterList → Dump → List ℕ
tree_picture_of clusters dump =
    (codes "workflow " ++ dump.domain ++ codes " " ++ dump.workflow ++ codes "\n")
    ++ (with_blocks clusters (standing dump.view) (blocks_of dump.view.batches) (record { columns = []; text = [] })).text
