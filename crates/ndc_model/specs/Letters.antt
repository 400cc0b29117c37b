-- Letters: messages that came damaged and were set aside.
use Rattle.std.specs.Prelude.{ℕ, List, [], ◌∷◌, ◌++◌, length, codes, decimal, slice_get, option_map, Option, Some, None, if◌then◌else◌, remove}
use Rattle.std.specs.List.{filter_map, flat_map}
use Rattle.ndc_domain.specs.Clusters.{name_of}
use Rattle.ndc_domain.specs.declared.clusters.ClusterNo.{ClusterNo}
use Rattle.ndc_script_types.specs.declared.script.Header.{Header}
use Rattle.ndc_text.specs.Views.{key_text}
use Rattle.ndc_model_cells.specs.declared.job.ShardJob.{ShardJob}
use Rattle.ndc_model_cells.specs.declared.message.Message.{Message}
use Rattle.ndc_model_cells.specs.Cells.{message_at}
use Rattle.ndc_model_cells.specs.Shards.{shard_of}
use Rattle.ndc_letters.specs.declared.letter.Letter.{Letter}
use Rattle.ndc_letters.specs.Letters.{is_whole, letter_of, place_of_letter}
use Rattle.ndc_model.specs.Moves.{Trace, arrives, from_world, jobs_done, quietly, renewed}
use Rattle.ndc_model.specs.Sending.{arrived_words}
use Rattle.ndc_model.specs.Steps.{Stepped, answered, moved}
use Rattle.ndc_model.specs.Texts.{ok, refused}
use Rattle.ndc_model.specs.World.{World, cell_of, cluster_at, flight_at, with_cluster, with_flight}

-- the letters of a cluster become others
abbrev pub with_letters : ClusterNo → List Letter → World → World
with_letters cluster letters w = with_cluster cluster (record (cluster_at cluster w) { letters = letters }) w

-- a message that comes damaged leaves the flight and is set aside, where its bytes are not read as the batch that it was
abbrev pub damaged : ClusterNo → ClusterNo → ℕ → ℕ → World → Letter → Stepped
damaged reader source shard place w letter =
    if is_whole letter then answered w (ok (codes "whole" ∷ []))
    else answered
    (with_letters reader ((cluster_at reader w).letters ++ letter ∷ [])
    (with_flight reader source shard (remove (flight_at reader source shard w) place) w))
    (ok (codes "aside" ∷ []))

-- so many bytes of the message at a place arrive, where there is one
abbrev pub damage_at : ClusterNo → ClusterNo → ℕ → ℕ → ℕ → World → Option Message → Stepped
damage_at reader source shard place cut w None = answered w (refused (codes "NoSuchPlace" ∷ []))
damage_at reader source shard place cut w (Some sent) = damaged reader source shard place w (letter_of source cut sent.batch)

-- `damage`
abbrev pub damage_step : ClusterNo → ClusterNo → ℕ → ℕ → ℕ → World → Stepped
damage_step reader source shard place cut w =
    damage_at reader source shard place cut w (slice_get (flight_at reader source shard w) place)

-- `letter SOURCE DOMAIN WORKFLOW KEY LENGTH`
abbrev pub letter_line : Header → Letter → List ℕ
letter_line header letter =
    codes "letter " ++ name_of header.clusters letter.source ++ codes " " ++ letter.domain ++ codes " " ++ letter.workflow ++ codes " " ++ key_text letter.key
    ++ codes " " ++ decimal (length letter.bytes) ++ codes "\n"

-- `letters`
abbrev pub letters_answer : Header → List Letter → List ℕ
letters_answer header letters = ok (decimal (length letters) ∷ []) ++ flat_map (letter_line header) letters

-- `purge`
abbrev pub purge_step : ClusterNo → World → Stepped
purge_step reader w = answered (with_letters reader [] w) (ok (decimal (length (cluster_at reader w).letters) ∷ []))

-- the job in which the message of a letter arrives, where its source has it
abbrev pub letter_job : Header → World → Letter → Option ShardJob
letter_job header w letter =
    option_map (arrives (shard_of letter.domain letter.workflow header.shards))
    (message_at (cell_of header letter.source letter.domain letter.workflow w) (place_of_letter letter))

-- the messages of all letters arrive in order, the list is emptied, and the levels are renewed
unfoldable pub letters_merged : Header → ClusterNo → World → Trace
letters_merged header reader w =
    quietly (λ v. renewed v reader)
    (quietly (with_letters reader []) (jobs_done header reader (filter_map (letter_job header w) (cluster_at reader w).letters) (from_world w)))

-- `mergeletters`
abbrev pub mergeletters_step : Header → ClusterNo → World → Stepped
mergeletters_step header reader w = moved (letters_merged header reader w) (arrived_words (letters_merged header reader w).notes)
