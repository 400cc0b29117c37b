-- Lines on queues, and on what is put off.
use Rattle.std.specs.Prelude.{ℕ, ◌-◌, List, [], ◌∷◌, ◌++◌, map, length, sum, codes, decimal, Option, Some, None}
use Rattle.std.specs.List.{filter, flat_map}
use Rattle.ndc_domain.specs.declared.clusters.ClusterNo.{ClusterNo}
use Rattle.ndc_event.specs.declared.batch.Batch.{Batch}
use Rattle.ndc_event.specs.declared.key.BatchKey.{BatchKey}
use Rattle.ndc_history.specs.declared.item.Item.{Item}
use Rattle.ndc_script_types.specs.declared.script.Header.{Header}
use Rattle.ndc_model_sets.specs.Paths.{first_id, last_item_of, path_to}
use Rattle.ndc_state.specs.Replay.{history_of}
use Rattle.ndc_text.specs.Views.{item_text, key_text}
use Rattle.ndc_model_cells.specs.declared.message.Message.{Message}
use Rattle.ndc_model_cells.specs.Cells.{Cell, arrived_of, is_learned_in, missing_of, put_off_in}
use Rattle.ndc_model_cells.specs.Places.{is_of}
use Rattle.ndc_model.specs.Moves.{Note, after_settlement, all_written, bootstrapped, from_world, map_from, pulled_all, pulled_shard, resent, trimmed_all, trimmed_level, worked}
use Rattle.ndc_queue.specs.Lists.{after_loss, after_move, after_repeat}
use Rattle.ndc_history.specs.Common.{item_or_zero}
use Rattle.ndc_model.specs.Queues.{Lane, put_in_flight}
use Rattle.ndc_model.specs.Steps.{Stepped, answered, applied_by, arrived_by, known_by, learned_by, moved, put_off_by, total}
use Rattle.ndc_model.specs.Texts.{ok, refused}
use Rattle.ndc_model.specs.World.{Link, World, cell_at, cluster_at, flight_at, lane_at, link_at, queue_at, shards_of, trimmed_at, with_flight}

-- how many entries of a lane a pull puts in flight: of all, or of at most so many
abbrev pub pull_count : World → Option ℕ → Link → ℕ → Lane → ℕ
pull_count w count link shard lane = length (put_in_flight link.reader (cluster_at link.source w).table count (queue_at link.source shard w) lane)

-- `pull` for every shard
abbrev pub pull_step : ClusterNo → ClusterNo → World → Stepped
pull_step reader source w =
    answered (pulled_all reader source w) (ok (decimal (sum (map_from (pull_count w None (link_at reader source w)) 0 (link_at reader source w).lanes)) ∷ []))

-- `pull` for one shard, at most so many
abbrev pub pull_some_step : ClusterNo → ClusterNo → ℕ → ℕ → World → Stepped
pull_some_step reader source shard count w =
    answered (pulled_shard reader source shard count w) (ok (decimal (pull_count w (Some count) (link_at reader source w) shard (lane_at reader source shard w)) ∷ []))

-- a change of a list in flight, where its places are there
abbrev pub flight_step : ClusterNo → ClusterNo → ℕ → World → Option (List Message) → Stepped
flight_step reader source shard w None = answered w (refused (codes "NoSuchPlace" ∷ []))
flight_step reader source shard w (Some flight) =
    answered (with_flight reader source shard flight w) (ok [])

-- `lose`
abbrev pub lose_step : ClusterNo → ClusterNo → ℕ → ℕ → World → Stepped
lose_step reader source shard place w = flight_step reader source shard w (after_loss place (flight_at reader source shard w))

-- `repeat`
abbrev pub repeat_step : ClusterNo → ClusterNo → ℕ → ℕ → World → Stepped
repeat_step reader source shard place w = flight_step reader source shard w (after_repeat place (flight_at reader source shard w))

-- `move`
abbrev pub move_step : ClusterNo → ClusterNo → ℕ → ℕ → ℕ → World → Stepped
move_step reader source shard place to w = flight_step reader source shard w (after_move place to (flight_at reader source shard w))

-- how many batches became learned, how many messages were known and put off, and how many batches were applied again
abbrev pub work_words : List Note → List (List ℕ)
work_words notes =
    codes "learned" ∷ total learned_by notes ∷ codes "known" ∷ total known_by notes ∷ codes "putoff" ∷ total put_off_by notes ∷ codes "reapplied" ∷ total applied_by notes ∷ []

-- `work`
abbrev pub work_step : Header → ClusterNo → World → Stepped
work_step header cluster w = moved (worked header cluster w) (work_words (worked header cluster w).notes)

-- `trim`: how many entries are dropped now
abbrev pub trim_step : Header → ClusterNo → World → Stepped
trim_step header source w =
    answered (trimmed_all header source w) (ok (decimal (sum (map (λ shard. trimmed_level source w shard - trimmed_at source w shard) (shards_of header))) ∷ []))

-- `levels`
abbrev pub levels_answer : ClusterNo → ClusterNo → ℕ → World → List ℕ
levels_answer reader source shard w =
    ok (codes "queue" ∷ decimal (length (queue_at source shard w)) ∷ codes "trimmed" ∷ decimal (trimmed_at source w shard)
    ∷ codes "read" ∷ decimal (lane_at reader source shard w).levels.read ∷ codes "done" ∷ decimal (lane_at reader source shard w).levels.done
    ∷ codes "flight" ∷ decimal (length (flight_at reader source shard w)) ∷ [])

-- where the gap of a batch that is put off begins: the last event of its last learned ancestor in its own run
abbrev pub gap_after : Header → ℕ → World → Cell → Batch → Item
gap_after header shard w cell b =
    item_or_zero (last_item_of (history_of (filter (is_learned_in cell) (path_to b.key (filter (is_of b.domain b.workflow) (all_written header shard w))))))

-- the key of what is missing
abbrev pub missing_text : Option BatchKey → List ℕ
missing_text None = []
missing_text (Some key) = key_text key

-- `gap DOMAIN WORKFLOW KEY after ID@VERSION before ID@VERSION missing KEY`
abbrev pub gap_line : Header → ℕ → World → Cell → Batch → List ℕ
gap_line header shard w cell b =
    codes "gap " ++ b.domain ++ codes " " ++ b.workflow ++ codes " " ++ key_text b.key ++ codes " after " ++ item_text (gap_after header shard w cell b)
    ++ codes " before " ++ item_text (record { id = first_id b.events; version = b.key.version })
    ++ codes " missing " ++ missing_text (missing_of b (arrived_of b.domain b.workflow cell)) ++ codes "\n"

-- a line for each batch that is put off in a shard, by place
abbrev pub gap_lines : Header → ClusterNo → World → ℕ → List ℕ
gap_lines header cluster w shard = flat_map (gap_line header shard w (cell_at cluster shard w)) (put_off_in (cell_at cluster shard w))

-- `gaps`: how many batches are put off, and their lines by shard
abbrev pub gaps_answer : Header → ClusterNo → World → List ℕ
gaps_answer header cluster w =
    ok (decimal (sum (map (λ shard. length (put_off_in (cell_at cluster shard w))) (shards_of header))) ∷ []) ++ flat_map (gap_lines header cluster w) (shards_of header)

-- how many batches arrived and how many became learned
abbrev pub arrived_words : List Note → List (List ℕ)
arrived_words notes = codes "arrived" ∷ total arrived_by notes ∷ codes "learned" ∷ total learned_by notes ∷ []

-- `resend`
abbrev pub resend_step : Header → ClusterNo → World → Stepped
resend_step header cluster w = moved (resent header cluster w) (arrived_words (resent header cluster w).notes)

-- `bootstrap`
abbrev pub bootstrap_step : Header → ClusterNo → ClusterNo → World → Stepped
bootstrap_step header reader source w =
    moved (bootstrapped header reader (from_world w) source)
    (codes "domains" ∷ decimal (length (link_at reader source w).late) ∷ arrived_words (bootstrapped header reader (from_world w) source).notes)

-- `settle`
abbrev pub settle_step : Header → World → Stepped
settle_step header w =
    moved (after_settlement header w) (codes "learned" ∷ total learned_by (after_settlement header w).notes ∷ codes "reapplied" ∷ total applied_by (after_settlement header w).notes ∷ [])
