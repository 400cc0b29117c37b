-- How it is told what both sides had: what stands on no current branch, what happened on a current branch as well, and what happened there alone.
use Rattle.std.specs.Prelude.{ℕ, suc, Bool, true, false, not, ◌&&◌, ◌||◌, ◌++◌, List, [], ◌∷◌, codes, unwrap_or, Option, Some, None, if◌then◌else◌}
use Rattle.std.specs.List.{concat, flat_map}
use Rattle.ndc_domain.specs.Clusters.{ClusterList}
use Rattle.ndc_event.specs.Attributes.{first_name, second_name}
use Rattle.ndc_event.specs.Kind.{kind_name}
use Rattle.ndc_event.specs.declared.batch.Event.{Event}
use Rattle.ndc_event.specs.declared.key.BatchKey.{BatchKey}
use Rattle.ndc_model_sets.specs.Paths.{item_of}
use Rattle.ndc_text.specs.Views.{item_text, key_text}
use Rattle.ndc_explain_sides.specs.Sides.{Lost, Sided}
use Rattle.ndc_explain_sides.specs.Subjects.{is_decision, sort_of}
use Rattle.ndc_explain_sides.specs.Traces.{Traced}
use Rattle.ndc_explain.specs.Pieces.{behind_space, by_text}
use Rattle.ndc_explain.specs.Writers.{writer_name}

-- an event with its kind and its names, which are an id, a type, a result or a reason
unfoldable pub event_named : Event → List ℕ
event_named event =
    concat (
    codes "event " ∷ item_text (item_of event) ∷ codes " " ∷ kind_name event.kind ∷ behind_space (unwrap_or (first_name event.kind) [])
    ∷ behind_space (unwrap_or (second_name event.kind) []) ∷ [])

-- a batch with the cluster that wrote it
unfoldable pub batch_named : Option ClusterList → BatchKey → List ℕ
batch_named clusters key = concat (codes "batch " ∷ key_text key ∷ by_text (writer_name clusters key.version) ∷ [])

-- an event with its kind, its names and its batch
unfoldable pub event_text : Option ClusterList → BatchKey → Event → List ℕ
event_text clusters key event = event_named event ++ (codes " in " ++ batch_named clusters key)

-- the event of a current branch that stands beside
abbrev pub beside_text : Option ClusterList → Option Traced → List ℕ
beside_text clusters None = codes "nothing"
beside_text clusters (Some trace) = event_text clusters trace.key trace.event

-- whether an event is told: decisions only where all are
abbrev pub is_told : Bool → Event → Bool
is_told all event = all || not (is_decision (sort_of event.kind))

-- whether a lost event is told among those that happened on both sides, or among the others
abbrev pub is_told_as : Bool → Bool → Lost → Bool
is_told_as all both loss = is_told all loss.event && (if both then loss.is_both else not loss.is_both)

abbrev pub loss_head : Bool → List ℕ
loss_head both = if both then codes "on both: " else codes "re-drive: "

-- the end of a line, with the event that stands beside
unfoldable pub beside_end : Option ClusterList → Option Traced → List ℕ
beside_end clusters beside = codes "; beside it: " ++ (beside_text clusters beside ++ codes "\n")

-- the line of a lost event, with what stands beside it
unfoldable pub loss_line : Option ClusterList → Bool → Lost → List ℕ
loss_line clusters both loss = loss_head both ++ (event_text clusters loss.key loss.event ++ beside_end clusters loss.beside)

-- its line, where it is told so
abbrev pub loss_told : Option ClusterList → Bool → Bool → Lost → List ℕ
loss_told clusters all both loss = if is_told_as all both loss then loss_line clusters both loss else []

-- the line of an event that happened on a current branch alone
unfoldable pub alone_line : Option ClusterList → Traced → List ℕ
alone_line clusters trace = codes "only current: " ++ (event_text clusters trace.key trace.event ++ codes "\n")

-- its line, where it is told
abbrev pub alone_told : Option ClusterList → Bool → Traced → List ℕ
alone_told clusters all trace = if is_told all trace.event then alone_line clusters trace else []

-- the lines of what both sides had: what is to be driven again, what happened on both, and what happened on a current branch alone
unfoldable pub sides_told : Option ClusterList → Bool → Sided → List ℕ
sides_told clusters all sides =
    flat_map (loss_told clusters all false) sides.lost ++ (flat_map (loss_told clusters all true) sides.lost ++ flat_map (alone_told clusters all) sides.alone)

-- how many lost events are told so
abbrev pub loss_count : Bool → Bool → List Lost → ℕ
loss_count all both [] = 0
loss_count all both (loss ∷ lost) = if is_told_as all both loss then suc (loss_count all both lost) else loss_count all both lost

-- how many events that happened on a current branch alone are told
abbrev pub alone_count : Bool → List Traced → ℕ
alone_count all [] = 0
alone_count all (trace ∷ alone) = if is_told all trace.event then suc (alone_count all alone) else alone_count all alone
