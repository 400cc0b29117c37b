-- What keeps the level `done` of a reader below the end of a queue.
use Rattle.std.specs.Prelude.{ℕ, Bool, ◌&&◌, nat_lt, List, [], ◌∷◌, ◌++◌, codes, decimal, length, slice_get, Option, Some, None, if◌then◌else◌}
use Rattle.std.specs.List.{concat, list_any}
use Rattle.std.specs.Str.{bytes_eq}
use Rattle.ndc_domain.specs.Clusters.{name_of}
use Rattle.ndc_domain.specs.declared.clusters.ClusterNo.{ClusterNo}
use Rattle.ndc_event.specs.Key.{key_eq}
use Rattle.ndc_event.specs.declared.batch.Batch.{Batch}
use Rattle.ndc_event.specs.declared.key.BatchKey.{BatchKey}
use Rattle.ndc_letters.specs.Letters.{place_of_letter}
use Rattle.ndc_letters.specs.declared.letter.Letter.{Letter}
use Rattle.ndc_model_cells.specs.Places.{is_at, place_of}
use Rattle.ndc_model_cells.specs.Writing.{same_cluster}
use Rattle.ndc_model_cells.specs.declared.message.Message.{Message}
use Rattle.ndc_model.specs.Queues.{needs_nothing}
use Rattle.ndc_model.specs.World.{World, cell_at, cluster_at, flight_at, lane_at, queue_at}
use Rattle.ndc_resend.specs.PutOff.{gaps_of}
use Rattle.ndc_resend.specs.declared.asking.GapOf.{GapOf}
use Rattle.ndc_script_types.specs.declared.script.Header.{Header}
use Rattle.ndc_text.specs.Views.{key_text}
use Rattle.ndc_probe.specs.Sent.{entry_line}
use Rattle.ndc_probe.specs.declared.reason.Reason.{Reason}
use Rattle.ndc_probe.specs.declared.reason.Reason.TheVariants.{Letter as AsLetter, InFlight, Lost, Needless, PutOff, Unread}

-- whether a gap is that before a batch
abbrev pub is_gap_of : Batch → GapOf → Bool
is_gap_of b gap = bytes_eq gap.domain b.domain && (bytes_eq gap.workflow b.workflow && key_eq gap.key b.key)

-- the nearest ancestor that a batch lacks, where it is among those that are put off
abbrev pub lacked_by : Batch → List GapOf → Option BatchKey
lacked_by b [] = None
lacked_by b (gap ∷ gaps) = if is_gap_of b gap then Some gap.missing else lacked_by b gaps

-- whether the message of a batch is in flight
abbrev pub is_in_flight : Batch → List Message → Bool
is_in_flight b flight = list_any (λ sent. is_at (place_of b) sent.batch) flight

-- whether a letter is that of a batch of a source
abbrev pub is_letter_of : ClusterNo → Batch → Letter → Bool
is_letter_of source b letter = same_cluster letter.source source && is_at (place_of_letter letter) b

-- whether the message of a batch of a source was set aside
abbrev pub has_letter : ClusterNo → Batch → List Letter → Bool
has_letter source b letters = list_any (is_letter_of source b) letters

-- why an entry of which something is still to be done is not done: what it lacks, where it is put off; what is in flight; the letters; whether it was read
abbrev pub reason_behind : Option BatchKey → Bool → Bool → Bool → Reason
reason_behind (Some missing) flies is_set_aside is_read = PutOff missing
reason_behind None flies is_set_aside is_read = if flies then InFlight else if is_set_aside then AsLetter else if is_read then Lost else Unread

-- what an operator is told of a reason
abbrev pub reason_text : List ℕ → List ℕ → Reason → List ℕ
reason_text reader source Needless = concat (codes "nothing is to be done for it: work " ∷ reader ∷ codes "\n" ∷ [])
reason_text reader source (PutOff missing) = concat (codes "put off, since " ∷ key_text missing ∷ codes " has not come: resend " ∷ reader ∷ codes "\n" ∷ [])
reason_text reader source InFlight = concat (codes "in flight: work " ∷ reader ∷ codes "\n" ∷ [])
reason_text reader source AsLetter = concat (codes "a letter: mergeletters " ∷ reader ∷ codes "\n" ∷ [])
reason_text reader source Unread = concat (codes "not read: pull " ∷ reader ∷ codes " " ∷ source ∷ codes "\n" ∷ [])
reason_text reader source Lost =
    concat (codes "lost: rewind " ∷ reader ∷ codes " " ∷ source ∷ codes ", pull " ∷ reader ∷ codes " " ∷ source ∷ codes ", work " ∷ reader ∷ codes "\n" ∷ [])

-- how much of a queue is done
abbrev pub done_text : ℕ → ℕ → List ℕ
done_text done count = decimal done ++ codes " of " ++ decimal count ++ codes " done"

-- why an entry of the queue of a source is not done at a reader
unfoldable pub reason_of : ClusterNo → ClusterNo → ℕ → World → Message → Reason
reason_of reader source shard w sent =
    if needs_nothing reader (cluster_at source w).table (cell_at reader shard w) sent then Needless
    else reason_behind (lacked_by sent.batch (gaps_of (cell_at reader shard w))) (is_in_flight sent.batch (flight_at reader source shard w))
    (has_letter source sent.batch (cluster_at reader w).letters)
    (nat_lt (lane_at reader source shard w).levels.done (lane_at reader source shard w).levels.read)

-- the entry that keeps the level `done` where it is, and why; the level is so many
abbrev pub held_text : Header → ClusterNo → ClusterNo → ℕ → World → ℕ → Option Message → List ℕ
held_text header reader source shard w done None = codes ", nothing holds it\n"
held_text header reader source shard w done (Some sent) =
    codes ", the next is held\n" ++ (entry_line done sent
    ++ reason_text (name_of header.clusters reader) (name_of header.clusters source) (reason_of reader source shard w sent))

-- how much of a queue is done at a reader, and what keeps it from more
unfoldable pub holds_text : Header → ClusterNo → ClusterNo → ℕ → World → List ℕ
holds_text header reader source shard w =
    done_text (lane_at reader source shard w).levels.done (length (queue_at source shard w))
    ++ held_text header reader source shard w (lane_at reader source shard w).levels.done
    (slice_get (queue_at source shard w) (lane_at reader source shard w).levels.done)
