-- The picture of a dump: an SVG document.
use Rattle.std.specs.Prelude.{ℕ, Bool, false, ◌==◌, ◌&&◌, ◌-◌, ◌+◌, ◌*◌, ◌/◌, ◌%◌, ◌^◌, nat_lt, List, [], ◌∷◌, ◌++◌, codes, decimal, length, take, unwrap_or, Option, Some, None, if◌then◌else◌}
use Rattle.std.specs.List.{concat, flat_map}
use Rattle.ndc_domain.specs.Clusters.{ClusterList}
use Rattle.ndc_event.specs.Attributes.{first_name, second_name}
use Rattle.ndc_event.specs.Key.{run_text}
use Rattle.ndc_event.specs.Kind.{kind_name}
use Rattle.ndc_event.specs.declared.batch.Event.{Event}
use Rattle.ndc_event.specs.declared.key.RunId.{RunId}
use Rattle.ndc_text.specs.Views.{key_text}
use Rattle.ndc_event.specs.declared.batch.Batch.{Batch}
use Rattle.ndc_event.specs.declared.key.BatchKey.{BatchKey}
use Rattle.ndc_event.specs.declared.key.Origin.{Origin}
use Rattle.ndc_event.specs.declared.name.Name.{Name}
use Rattle.ndc_model_sets.specs.declared.view.View.{View}
use Rattle.ndc_dump.specs.declared.dump.Dump.{Dump}
use Rattle.ndc_dump_causes.specs.Keys.{is_listed}
use Rattle.ndc_explain_picture.specs.Blocks.{blocks_of, copies_of, events_of, events_told, summary_of}
use Rattle.ndc_explain_picture.specs.Layout.{Layouted, depth_of, layout_of, plus, width_of}
use Rattle.ndc_explain.specs.Pieces.{behind_space, escaped_text, span_text}
use Rattle.ndc_explain_picture.specs.Places.{Placed, home_of, place_at}
use Rattle.ndc_explain.specs.Standing.{standing}
use Rattle.ndc_explain.specs.Writers.{writer_name}
use Rattle.ndc_explain_picture.specs.declared.layout.Head.{Head}
use Rattle.ndc_explain_picture.specs.declared.places.Place.{Place}
use Rattle.ndc_explain.specs.declared.summary.Summary.{Summary}

-- the beginning of the document, for this width and height
unfoldable pub size_text : ℕ → ℕ → List ℕ
size_text width depth =
    concat (
    codes "<svg xmlns='http://www.w3.org/2000/svg' viewBox='0 0 " ∷ decimal width ∷ codes " " ∷ decimal depth ∷ codes "' width='" ∷ decimal width ∷ codes "' height='" ∷ decimal depth ∷ codes "'>\n" ∷ [])

-- how lines and boxes look, in light and in dark: by width and dashes, not by colour alone
unfoldable pub style_text : List ℕ
style_text =
    concat (
    codes "<style>text{font:11px monospace;fill:#222}.head{font-weight:bold}.back{fill:#fff}path{fill:none}\n"
    ∷ codes "rect{fill:#fff}.current{stroke:#0072b2;stroke-width:3}.lost{stroke:#777;stroke-width:1;stroke-dasharray:6 4}\n"
    ∷ codes ".carrier{stroke:#0072b2;stroke-width:2;stroke-dasharray:2 4}.copy{stroke:#d55e00;stroke-width:2;stroke-dasharray:12 3}\n"
    ∷ codes "#arrow path{fill:#d55e00}@media(prefers-color-scheme:dark){text{fill:#eee}.back{fill:#111}rect{fill:#111}\n"
    ∷ codes ".current,.carrier{stroke:#56b4e9}.lost{stroke:#999}.copy{stroke:#e69f00}#arrow path{fill:#e69f00}}</style>\n"
    ∷ codes "<defs><marker id='arrow' viewBox='0 0 8 8' refX='8' refY='4' markerWidth='4' markerHeight='4' orient='auto'>"
    ∷ codes "<path d='M0 0L8 4L0 8z'/></marker></defs>\n" ∷ [])

-- what the picture is of
unfoldable pub title_text : List ℕ → List ℕ → List ℕ
title_text domain workflow =
    concat (
    codes "<title>" ∷ escaped_text domain ∷ codes " " ∷ escaped_text workflow ∷ codes "</title>\n<rect class='back' width='100%' height='100%'/>\n<text class='head' x='20' y='28'>"
    ∷ escaped_text domain ∷ codes " " ∷ escaped_text workflow ∷ codes "</text>\n" ∷ [])

-- what its lines say
unfoldable pub legend_text : List ℕ
legend_text =
    concat (
    codes "<path class='current' d='M20 64H70'/><text x='80' y='68'>on a current branch</text>\n"
    ∷ codes "<path class='lost' d='M20 88H70'/><text x='80' y='92'>on a branch that lost, or in a zombie</text>\n"
    ∷ codes "<path class='carrier' d='M20 112H70'/><text x='80' y='116'>a run continues as the next</text>\n"
    ∷ codes "<path class='copy' marker-end='url(#arrow)' d='M20 136H70'/><text x='80' y='140'>a signal is copied</text>\n" ∷ [])

-- the head of a lane: the cluster that writes with the version, where it is known, or the version
unfoldable pub lane_text : List ℕ → ℕ → ℕ → List ℕ
lane_text [] version left = concat (codes "<text class='head' x='" ∷ decimal left ∷ codes "' y='28'>version " ∷ decimal version ∷ codes "</text>\n" ∷ [])
lane_text (byte ∷ name) version left = concat (codes "<text class='head' x='" ∷ decimal left ∷ codes "' y='28'>" ∷ escaped_text (byte ∷ name) ∷ codes "</text>\n" ∷ [])

abbrev pub head_text : Option ClusterList → Head → List ℕ
head_text clusters head = lane_text (writer_name clusters head.version) head.version head.left

-- the class of what belongs to a batch: whether it stands on a current branch
abbrev pub class_of : List BatchKey → BatchKey → List ℕ
class_of keys key = if is_listed key keys then codes "current" else codes "lost"

-- whether one place is directly below the other
abbrev pub is_next : Place → Place → Bool
is_next from to = (from.left == to.left) && (plus from.bottom 28 == to.top)

-- a line straight down
unfoldable pub straight_text : List ℕ → Place → Place → List ℕ
straight_text class from to =
    concat (codes "<path class='" ∷ class ∷ codes "' d='M" ∷ decimal (plus from.left 20) ∷ codes " " ∷ decimal from.bottom ∷ codes "V" ∷ decimal to.top ∷ codes "'/>\n" ∷ [])

-- a line that goes down on the left of the lane where it ends
unfoldable pub bent_text : List ℕ → Place → Place → List ℕ
bent_text class from to =
    concat (
    codes "<path class='" ∷ class ∷ codes "' d='M" ∷ decimal (plus from.left 20) ∷ codes " " ∷ decimal from.bottom ∷ codes "V" ∷ decimal (plus from.bottom 14) ∷ codes "H" ∷ decimal (to.left - 16)
    ∷ codes "V" ∷ decimal (plus to.top 16) ∷ codes "H" ∷ decimal to.left ∷ codes "'/>\n" ∷ [])

-- a line from one block to another, where the first one has a place
abbrev pub line_text : List ℕ → Option Place → Place → List ℕ
line_text class None to = []
line_text class (Some from) to = if is_next from to then straight_text class from to else bent_text class from to

-- where an arrow ends: on the near side of the block
abbrev pub side_of : Place → Place → ℕ
side_of from to = if nat_lt from.left to.left then to.left else plus to.left 290

-- an arrow from here to the right, then down or up, and then to here
unfoldable pub arrow_path : ℕ → ℕ → ℕ → ℕ → ℕ → List ℕ
arrow_path left top turn depth side =
    concat (
    codes "<path class='copy' marker-end='url(#arrow)' d='M" ∷ decimal left ∷ codes " " ∷ decimal top ∷ codes "H" ∷ decimal turn ∷ codes "V" ∷ decimal depth ∷ codes "H" ∷ decimal side ∷ codes "'/>\n" ∷ [])

-- how far the arrow of a signal is moved, so that arrows of signals that stand near each other have lines of their own
abbrev pub shift_of : Origin → ℕ
shift_of origin = (origin.event % 9) * 3

-- an arrow from one block to another, where the first one has a place: it goes down on the right of the first one's lane
abbrev pub arrow_text : ℕ → Option Place → Place → List ℕ
arrow_text shift None to = []
arrow_text shift (Some from) to =
    arrow_path (plus from.left 290) (plus from.top (8 + shift)) (plus from.left (294 + shift)) (plus to.top (8 + shift)) (side_of from to)

-- whether an arrow leads from the same place as the one before
abbrev pub is_same_home : Option Place → Option Place → Bool
is_same_home None from = false
is_same_home (Some last) None = false
is_same_home (Some last) (Some from) = (last.left == from.left) && (last.top == from.top)

-- the arrow of a signal, unless one leads from the same place already
abbrev pub arrow_for : Option Place → Placed → Place → Origin → List ℕ
arrow_for last places to origin = if is_same_home last (home_of origin places) then [] else arrow_text (shift_of origin) (home_of origin places) to

-- the arrows from where each of these signals was first written, one from each place of several in a row
abbrev pub arrows_behind : Option Place → Placed → Place → List Origin → List ℕ
arrows_behind last places to [] = []
arrows_behind last places to (origin ∷ origins) = arrow_for last places to origin ++ arrows_behind (home_of origin places) places to origins

abbrev pub arrows_text : Placed → Place → List Origin → List ℕ
arrows_text places to origins = arrows_behind None places to origins

-- the box of a block
unfoldable pub rect_text : List ℕ → ℕ → ℕ → ℕ → List ℕ
rect_text class left top height =
    concat (
    codes "<rect class='" ∷ class ∷ codes "' x='" ∷ decimal left ∷ codes "' y='" ∷ decimal top ∷ codes "' width='290' height='" ∷ decimal height ∷ codes "'/>" ∷ [])

-- the key of a run's first batch, by which the run is named
unfoldable pub key_of_run : RunId → BatchKey
key_of_run run = record { version = run.value / 2 ^ 64; task = run.value % 2 ^ 64 }

-- the keys of a block, where its text begins
unfoldable pub name_text : Summary → ℕ → ℕ → List ℕ
name_text summary left base =
    concat (codes "<text x='" ∷ decimal left ∷ codes "' y='" ∷ decimal base ∷ codes "'><tspan class='head'>" ∷ span_text summary ∷ codes "</tspan>" ∷ [])

-- a run by its first batch, with its whole id as a title
unfoldable pub run_named : ℕ → RunId → List ℕ
run_named left run =
    concat (codes "<tspan x='" ∷ decimal left ∷ codes "' dy='15'>run " ∷ key_text (key_of_run run) ∷ codes "<title>" ∷ run_text run ∷ codes "</title></tspan>" ∷ [])

-- the box of a block, with its key and its run
abbrev pub box_text : List ℕ → Summary → Place → List ℕ
box_text class summary place =
    rect_text class place.left place.top (place.bottom - place.top)
    ++ (name_text summary (plus place.left 10) (plus place.top 20) ++ run_named (plus place.left 10) summary.run)

-- a text cut to what fits into a box
abbrev pub fitted : List ℕ → List ℕ
fitted text = if nat_lt 40 (length text) then take 38 text ++ codes ".." else text

-- an event by its kind and its names, which are an id, a type, a result or a reason
unfoldable pub event_label : Event → List ℕ
event_label event =
    concat (kind_name event.kind ∷ behind_space (unwrap_or (first_name event.kind) []) ∷ behind_space (unwrap_or (second_name event.kind) []) ∷ [])

-- a line for an event
unfoldable pub event_line : ℕ → Event → List ℕ
event_line left event =
    concat (codes "<tspan x='" ∷ decimal left ∷ codes "' dy='15'>" ∷ escaped_text (fitted (event_label event)) ∷ codes "</tspan>" ∷ [])

-- how many events are not told, where there are such
unfoldable pub more_text : ℕ → ℕ → List ℕ
more_text left events =
    if nat_lt 6 events then concat (codes "<tspan x='" ∷ decimal left ∷ codes "' dy='15'>and " ∷ decimal (events - 6) ∷ codes " more</tspan>" ∷ []) else []

-- the lines for the events of a block
abbrev pub events_text : ℕ → List Event → List ℕ
events_text left events = flat_map (event_line left) (events_told events) ++ (more_text left (length events) ++ codes "</text>\n")

-- what is drawn: the blocks, where, and which batches stand on current branches
pub record Drawn : Type 0 where
  pub blocks : List (List Batch)
  pub layout : Layouted
  pub keys : List BatchKey

abbrev pub drawn : Option ClusterList → View → Drawn
drawn clusters view = record { blocks = blocks_of view.batches; layout = layout_of clusters (blocks_of view.batches); keys = standing view }

-- the lines to a block at this place: from its parent's, from its carrier's, and from where its copied signals were written
abbrev pub lines_to : Drawn → List Batch → Summary → Option Place → List ℕ
lines_to it block summary None = []
lines_to it block summary (Some place) =
    line_text (class_of it.keys summary.first) (place_at summary.parent it.layout.places) place
    ++ (line_text (codes "carrier") (place_at summary.carrier it.layout.places) place ++ arrows_text it.layout.places place (copies_of block))

abbrev pub lines_of : Drawn → List Batch → Option Summary → List ℕ
lines_of it block None = []
lines_of it block (Some summary) = lines_to it block summary (place_at (Some summary.first) it.layout.places)

-- the box of a block at this place, with its text
abbrev pub box_at : Drawn → List Batch → Summary → Option Place → List ℕ
box_at it block summary None = []
box_at it block summary (Some place) = box_text (class_of it.keys summary.first) summary place ++ events_text (plus place.left 10) (events_of block)

abbrev pub box_of : Drawn → List Batch → Option Summary → List ℕ
box_of it block None = []
box_of it block (Some summary) = box_at it block summary (place_at (Some summary.first) it.layout.places)

-- the picture before its lanes
abbrev pub frame_text : Name → Name → Layouted → List ℕ
frame_text domain workflow layout = size_text (width_of layout) (depth_of layout) ++ (style_text ++ (title_text domain workflow ++ legend_text))

-- the lanes: their heads, the lines, and the boxes over them
abbrev pub lanes_text : Option ClusterList → Drawn → List ℕ
lanes_text clusters it =
    flat_map (head_text clusters) it.layout.heads
    ++ (flat_map (λ block. lines_of it block (summary_of block)) it.blocks ++ flat_map (λ block. box_of it block (summary_of block)) it.blocks)

-- the picture: its frame, and the lanes with all blocks
abbrev pub picture_with : Option ClusterList → Dump → Drawn → List ℕ
picture_with clusters dump it = frame_text dump.domain dump.workflow it.layout ++ (lanes_text clusters it ++ codes "</svg>\n")

abbrev pub picture_of : Option ClusterList → Dump → List ℕ
picture_of clusters dump = picture_with clusters dump (drawn clusters dump.view)
