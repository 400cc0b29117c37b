-- Frames: the text of a frame, and the frame that a text is.
use Rattle.std.specs.Prelude.{ℕ, List, [], ◌∷◌, codes, Bool, is_some, Option, Some, None, Result, Ok, if◌then◌else◌}
use Rattle.std.specs.Str.{bytes_eq}
use Rattle.ndc_event.specs.Outcome.{◌>>=◌}
use Rattle.ndc_node_frames.specs.Parts.{header_shape, header_value, poll_shape, poll_value, entries_shape, entries_value, records_shape, records_value, offer_shape, offer_value, gap_shape, gap_value, served_shape, served_value, bootstrap_shape, bootstrap_value, recall_shape, recall_value, recalled_shape, recalled_value, held_shape, held_value}
use Rattle.ndc_node_frames.specs.declared.frame.Body.{Body}
use Rattle.ndc_node_frames.specs.declared.frame.Body.TheVariants as body
use Rattle.ndc_node_frames.specs.declared.frame.Frame.{Frame}
use Rattle.ndc_node_frames.specs.declared.text.Tail.{Tail}
use Rattle.ndc_node_frames.specs.declared.kind.Kind.{Kind}
use Rattle.ndc_node_frames.specs.declared.kind.Kind.TheVariants.{Poll, Entries, Records, Handover, Gap, Served, Bootstrap, Recall, Recalled, Progress}
use Rattle.ndc_node_shapes.specs.Bytes.{expect, wanted, first_key, fault_at}
use Rattle.ndc_node_shapes.specs.Fits.{Fits}
use Rattle.ndc_node_shapes.specs.Objects.{skipped}
use Rattle.ndc_node_shapes.specs.Read.{read_of}
use Rattle.ndc_node_shapes.specs.Shapes.{Shape, number, name, word, object, next, end, Value}
use Rattle.ndc_node_shapes.specs.Text.{onto, text_of}
use Rattle.ndc_node_shapes.specs.declared.fault.Cause.TheVariants.{Unexpected, Range}
use Rattle.ndc_node_shapes.specs.declared.fault.Fault.{Fault}

-- ---- kinds

-- how a kind is named
abbrev pub kind_word : Kind → List ℕ
kind_word Poll = codes "poll"
kind_word Entries = codes "entries"
kind_word Records = codes "records"
kind_word Handover = codes "handover"
kind_word Gap = codes "gap"
kind_word Served = codes "served"
kind_word Bootstrap = codes "bootstrap"
kind_word Recall = codes "recall"
kind_word Recalled = codes "recalled"
kind_word Progress = codes "progress"

-- the kind of this name
unfoldable pub kind_in : List ℕ → Option Kind
kind_in w =
    if bytes_eq w (codes "poll") then Some Poll
    else if bytes_eq w (codes "entries") then Some Entries
    else if bytes_eq w (codes "records") then Some Records
    else if bytes_eq w (codes "handover") then Some Handover
    else if bytes_eq w (codes "gap") then Some Gap
    else if bytes_eq w (codes "served") then Some Served
    else if bytes_eq w (codes "bootstrap") then Some Bootstrap
    else if bytes_eq w (codes "recall") then Some Recall
    else if bytes_eq w (codes "recalled") then Some Recalled
    else if bytes_eq w (codes "progress") then Some Progress
    else None

-- whether a name is that of a kind
abbrev pub is_kind : List ℕ → Bool
is_kind w = is_some (kind_in w)

-- the shape of a kind's body
abbrev pub body_shape : Kind → Shape
body_shape Poll = poll_shape
body_shape Entries = entries_shape
body_shape Records = records_shape
body_shape Handover = offer_shape
body_shape Gap = gap_shape
body_shape Served = served_shape
body_shape Bootstrap = bootstrap_shape
body_shape Recall = recall_shape
body_shape Recalled = recalled_shape
body_shape Progress = held_shape

-- the kind of a body, and what it is as a value of its shape
abbrev pub kind_of : Body → Kind
kind_of (body.Poll poll) = Poll
kind_of (body.Entries entries) = Entries
kind_of (body.Records records) = Records
kind_of (body.Handover offer) = Handover
kind_of (body.Gap gap) = Gap
kind_of (body.Served served) = Served
kind_of (body.Bootstrap piece) = Bootstrap
kind_of (body.Recall recall) = Recall
kind_of (body.Recalled piece) = Recalled
kind_of (body.Progress held) = Progress

abbrev pub body_value : (b : Body) → Value (body_shape (kind_of b))
body_value (body.Poll poll) = poll_value poll
body_value (body.Entries entries) = entries_value entries
body_value (body.Records records) = records_value records
body_value (body.Handover offer) = offer_value offer
body_value (body.Gap gap) = gap_value gap
body_value (body.Served served) = served_value served
body_value (body.Bootstrap piece) = bootstrap_value piece
body_value (body.Recall recall) = recall_value recall
body_value (body.Recalled piece) = recalled_value piece
body_value (body.Progress held) = held_value held

-- a body with its kind
abbrev pub Content : Type 0
Content = (kind : Kind) × Value (body_shape kind)

-- bytes with the text of a body after them
abbrev pub body_onto : List ℕ → Body → List ℕ
body_onto old (body.Poll poll) = onto poll_shape old (poll_value poll)
body_onto old (body.Entries entries) = onto entries_shape old (entries_value entries)
body_onto old (body.Records records) = onto records_shape old (records_value records)
body_onto old (body.Handover offer) = onto offer_shape old (offer_value offer)
body_onto old (body.Gap gap) = onto gap_shape old (gap_value gap)
body_onto old (body.Served served) = onto served_shape old (served_value served)
body_onto old (body.Bootstrap piece) = onto bootstrap_shape old (bootstrap_value piece)
body_onto old (body.Recall recall) = onto recall_shape old (recall_value recall)
body_onto old (body.Recalled piece) = onto recalled_shape old (recalled_value piece)
body_onto old (body.Progress held) = onto held_shape old (held_value held)

abbrev pub content_of : Body → Content
content_of b = (kind_of b, body_value b)

-- ---- frames

-- a name of a kind
abbrev pub kind_shape : Shape
kind_shape = word is_kind

-- what follows the body
abbrev pub tail_shape : Shape
tail_shape = next (codes "format") (number 1 1) (next (codes "from") name (next (codes "header") header_shape (next (codes "kind") kind_shape (next (codes "to") name end))))

-- a frame of a kind
abbrev pub frame_shape : Kind → Shape
frame_shape kind = object (codes "body") (body_shape kind) tail_shape

-- what follows the body, as a value
abbrev pub tail_value : Frame → Value tail_shape
tail_value frame = (1, (frame.from, (header_value frame.header, (kind_word (kind_of frame.body), (frame.to, tt)))))

-- a frame as a value
abbrev pub frame_value : (frame : Frame) → Value (frame_shape (kind_of frame.body))
frame_value frame = (body_value frame.body, tail_value frame)

-- the text of a frame
abbrev pub frame_text : Frame → List ℕ
frame_text frame = text_of (frame_shape (kind_of frame.body)) (frame_value frame)

-- the numbers of a frame are in their ranges, its names are names, and its texts have the bytes from space to `~` alone
abbrev pub FrameFits : Frame → Type 0
FrameFits frame = Fits (frame_shape (kind_of frame.body)) (frame_value frame)

-- ---- what is read

-- what is known of a frame that was read: its body with its kind, and what follows the body
abbrev pub Seen : Type 0
Seen = Content × Value tail_shape

abbrev pub seen_of : Frame → Seen
seen_of frame = (content_of frame.body, tail_value frame)

-- what follows a body, as it was taken
abbrev pub tail_seen : Tail → Value tail_shape
tail_seen tail = (1, (tail.from, (header_value tail.header, (kind_word tail.kind, (tail.to, tt)))))

-- the kind that what follows a body names
abbrev pub named_kind : Value tail_shape → List ℕ
named_kind tail = tail.1.1.1.0

-- a body of this kind
abbrev pub content_at : Kind → List ℕ → Result Content Fault
content_at Poll left = do
  value ← read_of poll_shape left
  Ok (Poll, value.0)
content_at Entries left = do
  value ← read_of entries_shape left
  Ok (Entries, value.0)
content_at Records left = do
  value ← read_of records_shape left
  Ok (Records, value.0)
content_at Handover left = do
  value ← read_of offer_shape left
  Ok (Handover, value.0)
content_at Gap left = do
  value ← read_of gap_shape left
  Ok (Gap, value.0)
content_at Served left = do
  value ← read_of served_shape left
  Ok (Served, value.0)
content_at Bootstrap left = do
  value ← read_of bootstrap_shape left
  Ok (Bootstrap, value.0)
content_at Recall left = do
  value ← read_of recall_shape left
  Ok (Recall, value.0)
content_at Recalled left = do
  value ← read_of recalled_shape left
  Ok (Recalled, value.0)
content_at Progress left = do
  value ← read_of held_shape left
  Ok (Progress, value.0)

-- nothing is left
abbrev pub at_end : List ℕ → Result (Unit {0}) Fault
at_end [] = Ok tt
at_end (b ∷ bytes) = fault_at Unexpected (b ∷ bytes)

-- what follows the body, up to the end
abbrev pub tail_at : List ℕ → Result (Value tail_shape) Fault
tail_at left = do
  tail ← read_of tail_shape left
  _ ← at_end tail.1
  Ok tail.0

-- the frame that a text is: the body is passed over, and read once the kind is known
unfoldable pub frame_at : List ℕ → Result Seen Fault
frame_at bytes = do
  left ← expect (first_key (codes "body")) bytes
  rest ← skipped left
  tail ← tail_at rest
  kind ← wanted Range rest (kind_in (named_kind tail))
  content ← content_at kind left
  Ok (content, tail)
