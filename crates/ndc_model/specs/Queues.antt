-- Lanes: what readers have of queues.
use Rattle.std.specs.Prelude.{ℕ, ◌+◌, Bool, false, not, ◌||◌, List, [], ◌++◌, length, drop, Option, Some, None}
use Rattle.std.specs.List.{filter, prefix_len}
use Rattle.ndc_model_cells.specs.declared.message.Message.{Message}
use Rattle.ndc_model_cells.specs.Cells.{Cell, is_message_learned}
use Rattle.ndc_domain.specs.Members.{has_member}
use Rattle.ndc_domain.specs.Records.{record_of}
use Rattle.ndc_domain.specs.declared.clusters.ClusterNo.{ClusterNo}
use Rattle.ndc_domain.specs.declared.record.DomainRecord.{DomainRecord}
use Rattle.ndc_queue.specs.Levels.{LevelPair, advanced, new_levels, rewound}
use Rattle.ndc_queue.specs.Lists.{entries_from}

-- whether a record names a cluster
abbrev pub names_cluster : ClusterNo → Option DomainRecord → Bool
names_cluster reader None = false
names_cluster reader (Some one) = has_member one.members reader.number

-- whether a message is addressed to a reader: the source's record of its domain names the reader
abbrev pub is_addressed : ClusterNo → List DomainRecord → Message → Bool
is_addressed reader table sent = names_cluster reader (record_of table sent.batch.domain)

-- what a reader has of the queue of one source and shard: its levels, and what is in flight
pub record Lane : Type 0 where
  pub levels : LevelPair
  pub flight : List Message

-- a lane before anything was pulled
abbrev pub new_lane : Lane
new_lane = record { levels = new_levels; flight = [] }

-- the entries that a pull takes: all from `read` on, or at most so many
abbrev pub taken : Option ℕ → List Message → Lane → List Message
taken count queue lane = entries_from count lane.levels.read queue

-- those of them that are put in flight: the addressed ones
abbrev pub put_in_flight : ClusterNo → List DomainRecord → Option ℕ → List Message → Lane → List Message
put_in_flight reader table count queue lane = filter (is_addressed reader table) (taken count queue lane)

-- a pull: `read` rises past all that is taken, and the addressed ones go last in flight
abbrev pub after_pull : ClusterNo → List DomainRecord → Option ℕ → List Message → Lane → Lane
after_pull reader table count queue lane = record {
  levels = record lane.levels { read = lane.levels.read + length (taken count queue lane) };
  flight = lane.flight ++ put_in_flight reader table count queue lane;
}

-- whether nothing is to be done for a message: it is learned by the reader, or not addressed to it
abbrev pub needs_nothing : ClusterNo → List DomainRecord → Cell → Message → Bool
needs_nothing reader table cell sent = is_message_learned cell sent || not (is_addressed reader table sent)

-- `done` rises over the entries for which nothing is to be done, up to the first for which something is
abbrev pub renewed_done : ClusterNo → List DomainRecord → Cell → List Message → Lane → ℕ
renewed_done reader table cell queue lane = lane.levels.done + prefix_len (needs_nothing reader table cell) (drop lane.levels.done queue)

-- renewing: `done` rises, and `read` is not below it
abbrev pub after_renewal : ClusterNo → List DomainRecord → Cell → List Message → Lane → Lane
after_renewal reader table cell queue lane = record lane { levels = advanced (renewed_done reader table cell queue lane) lane.levels }

-- rewinding: what was read and is not done is read again
abbrev pub after_rewind : Lane → Lane
after_rewind lane = record lane { levels = rewound lane.levels }
