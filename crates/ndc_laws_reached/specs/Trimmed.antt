-- What the queues of sources have trimmed.
use Rattle.std.specs.Prelude.{◌≡◌, ℕ, ◌⊎◌, true, List, take}
use Rattle.ndc_model_cells.specs.declared.message.Message.{Message}
use Rattle.ndc_model_cells.specs.Cells.{is_message_learned}
use Rattle.ndc_domain.specs.declared.clusters.ClusterNo.{ClusterNo}
use Rattle.ndc_model.specs.Queues.{is_addressed}
use Rattle.ndc_model.specs.World.{World, cell_at, cluster_at, is_late_in, link_at, queue_at, trimmed_at}

-- the messages that a source has trimmed for a shard
abbrev pub trimmed_of : ClusterNo → ℕ → World → List Message
trimmed_of source shard w = take (trimmed_at source w shard) (queue_at source shard w)

-- where a message is addressed to a reader, the reader has learned it
abbrev pub IsLearnedWhereAddressed : ClusterNo → ClusterNo → ℕ → World → Message → Type 0
IsLearnedWhereAddressed reader source shard w sent = is_addressed reader (cluster_at source w).table sent ≡ true → is_message_learned (cell_at reader shard w) sent ≡ true

-- where a message is addressed to a reader, the reader has learned it, or is late in its domain
abbrev pub IsLearnedOrLate : ClusterNo → ClusterNo → ℕ → World → Message → Type 0
IsLearnedOrLate reader source shard w sent =
    is_addressed reader (cluster_at source w).table sent ≡ true → (is_message_learned (cell_at reader shard w) sent ≡ true) ⊎ (is_late_in sent.batch.domain (link_at reader source w) ≡ true)
