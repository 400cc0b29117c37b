-- The lines of a store: their shapes, and what they are as values of them.
use Rattle.std.specs.Prelude.{codes, map, option_map}
use Rattle.ndc_node_frames.specs.Parts.{header_shape, header_value, late_shape, late_value, level, spot_shape, spot_value}
use Rattle.ndc_node_shapes.specs.Common.{version, key_shape, key_value}
use Rattle.ndc_node_shapes.specs.Shapes.{Shape, number, flag, name, text, list, nullable, object, next, end, Value}
use Rattle.ndc_node_store.specs.declared.ends.NodeLine.{NodeLine}
use Rattle.ndc_node_store.specs.declared.ends.WholeLine.{WholeLine}
use Rattle.ndc_node_store.specs.declared.peers.LaneLine.{LaneLine}
use Rattle.ndc_node_store.specs.declared.peers.LastTold.{LastTold}
use Rattle.ndc_node_store.specs.declared.peers.PeerLine.{PeerLine}
use Rattle.ndc_node_store.specs.declared.peers.ToldEntry.{ToldEntry}
use Rattle.ndc_node_store.specs.declared.places.BatchPlace.{BatchPlace}
use Rattle.ndc_node_store.specs.declared.places.LetterLine.{LetterLine}
use Rattle.ndc_node_store.specs.declared.places.OpenHandover.{OpenHandover}
use Rattle.ndc_node_store.specs.declared.places.UsedVersion.{UsedVersion}
use Rattle.ndc_node_store.specs.declared.shards.Level.{Level}
use Rattle.ndc_node_store.specs.declared.shards.ShardLine.{ShardLine}

-- the number of a cluster
abbrev pub cluster : Shape
cluster = number 0 7

-- ---- the first line and the last

abbrev pub node_shape : Shape
node_shape =
    object (codes "behind") flag (next (codes "format") (number 1 1) (next (codes "header") header_shape (next (codes "name") name (next (codes "newest") level (next (codes "recalling") flag end)))))

abbrev pub node_value : NodeLine → Value node_shape
node_value line = (line.behind, (1, (header_value line.header, (line.name, (line.newest, (line.recalling, tt))))))

abbrev pub whole_shape : Shape
whole_shape = object (codes "lines") level end

abbrev pub whole_value : WholeLine → Value whole_shape
whole_value line = (line.lines, tt)

-- ---- queues

abbrev pub level_value : Level → Value level
level_value one = one.level

abbrev pub shard_shape : Shape
shard_shape = object (codes "epoch") level (next (codes "first") level (next (codes "told") (list level) end))

abbrev pub shard_value : ShardLine → Value shard_shape
shard_value line = (line.epoch, (line.first, (map level_value line.told, tt)))

abbrev pub batch_place_shape : Shape
batch_place_shape = object (codes "domain") name (next (codes "key") key_shape (next (codes "workflow") name end))

abbrev pub batch_place_value : BatchPlace → Value batch_place_shape
batch_place_value place = (place.domain, (key_value place.key, (place.workflow, tt)))

-- ---- handovers, versions and letters

abbrev pub used_shape : Shape
used_shape = object (codes "domain") name (next (codes "version") version end)

abbrev pub used_value : UsedVersion → Value used_shape
used_value used = (used.domain, (used.version, tt))

abbrev pub handover_shape : Shape
handover_shape =
    object (codes "domain") name (next (codes "new") version (next (codes "old") version (next (codes "places") (list level) (next (codes "to") cluster end))))

abbrev pub handover_value : OpenHandover → Value handover_shape
handover_value handover = (handover.domain, (handover.new, (handover.old, (map level_value handover.places, (handover.to, tt)))))

abbrev pub letter_shape : Shape
letter_shape = object (codes "at") (nullable batch_place_shape) (next (codes "cause") text (next (codes "source") cluster (next (codes "text") text end)))

abbrev pub letter_value : LetterLine → Value letter_shape
letter_value letter = (option_map batch_place_value letter.at, (letter.cause, (letter.source, (letter.text, tt))))

-- ---- other nodes

abbrev pub peer_shape : Shape
peer_shape =
    object (codes "all") (list name) (next (codes "awaited") flag (next (codes "follows") flag (next (codes "largest") level (next (codes "late") (list late_shape) (next (codes "owes") (list name) (next (codes "recalled") flag (next (codes "records") flag (next (codes "reports") flag (next (codes "spot") (nullable spot_shape) end)))))))))

abbrev pub peer_value : PeerLine → Value peer_shape
peer_value line =
    (map (λ domain. domain) line.all, (line.awaited, (line.follows, (line.largest, (map late_value line.late, (map (λ domain. domain) line.owes, (line.recalled, (line.records, (line.reports, (option_map spot_value line.spot, tt))))))))))

abbrev pub last_shape : Shape
last_shape = object (codes "key") key_shape (next (codes "place") level end)

abbrev pub last_value : LastTold → Value last_shape
last_value last = (key_value last.key, (last.place, tt))

abbrev pub told_shape : Shape
told_shape = object (codes "domain") name (next (codes "key") key_shape (next (codes "place") level (next (codes "workflow") name end)))

abbrev pub told_value : ToldEntry → Value told_shape
told_value told = (told.domain, (key_value told.key, (told.place, (told.workflow, tt))))

abbrev pub lane_shape : Shape
lane_shape = object (codes "epoch") level (next (codes "held") (list told_shape) (next (codes "last") (nullable last_shape) (next (codes "read") level end)))

abbrev pub lane_value : LaneLine → Value lane_shape
lane_value line = (line.epoch, (map told_value line.held, (option_map last_value line.last, (line.read, tt))))
