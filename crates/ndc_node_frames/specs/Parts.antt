-- The parts of frames: their shapes, and what they are as values of them.
use Rattle.std.specs.Prelude.{ℕ, ◌^◌, Bool, List, codes, map, option_map}
use Rattle.std.specs.Str.{bytes_eq}
use Rattle.ndc_domain.specs.Members.{has_member, numbers_where}
use Rattle.ndc_domain.specs.declared.clusters.ClusterNo.{ClusterNo}
use Rattle.ndc_history.specs.declared.item.Item.{Item}
use Rattle.ndc_node_shapes.specs.Common.{id, version, key_shape, key_value}
use Rattle.ndc_node_shapes.specs.Shapes.{Shape, number, flag, name, text, run, numbers, list, nullable, object, next, end, Value}
use Rattle.ndc_node_frames.specs.declared.header.Header.{Header}
use Rattle.ndc_node_frames.specs.declared.header.Seat.{Seat}
use Rattle.ndc_node_frames.specs.declared.place.Late.{Late}
use Rattle.ndc_node_frames.specs.declared.place.Place.{Place}
use Rattle.ndc_node_frames.specs.declared.body.Entries.{Entries}
use Rattle.ndc_node_frames.specs.declared.body.Entry.{Entry}
use Rattle.ndc_node_frames.specs.declared.body.Poll.{Poll}
use Rattle.ndc_node_frames.specs.declared.body.Polled.{Polled}
use Rattle.ndc_node_frames.specs.declared.body.Served.{Served}
use Rattle.ndc_node_frames.specs.declared.gap.AskedGap.{AskedGap}
use Rattle.ndc_node_frames.specs.declared.gap.End.{End}
use Rattle.ndc_node_frames.specs.declared.record.Member.{Member}
use Rattle.ndc_node_frames.specs.declared.record.ToldRecord.{ToldRecord}
use Rattle.ndc_node_frames.specs.declared.handover.Promised.{Promised}
use Rattle.ndc_node_frames.specs.declared.handover.Offer.{Offer}
use Rattle.ndc_node_frames.specs.declared.sending.Records.{Records}
use Rattle.ndc_node_frames.specs.declared.sending.Bootstrap.{Bootstrap}
use Rattle.ndc_node_frames.specs.declared.sending.Spot.{Spot}
use Rattle.ndc_node_frames.specs.declared.sending.Recall.{Recall}
use Rattle.ndc_node_frames.specs.declared.sending.Recalled.{Recalled}
use Rattle.ndc_node_frames.specs.declared.progress.ToldReport.{ToldReport}
use Rattle.ndc_node_frames.specs.declared.progress.Held.{Held}
use Rattle.ndc_progress.specs.declared.report.ActivityRef.{ActivityRef}

-- ---- ranges

-- a level, a place, an epoch or a count
abbrev pub level : Shape
level = number 0 (10 ^ 12)

-- a number of 32 bits
abbrev pub small : Shape
small = number 0 4294967295

-- ---- the header

abbrev pub seat_shape : Shape
seat_shape = object (codes "initial") level (next (codes "name") name end)

abbrev pub seat_value : Seat → Value seat_shape
seat_value seat = (seat.initial, (seat.name, tt))

abbrev pub header_shape : Shape
header_shape = object (codes "clusters") (list seat_shape) (next (codes "increment") level (next (codes "limit") level (next (codes "shards") small end)))

abbrev pub header_value : Header → Value header_shape
header_value header = (map seat_value header.clusters, (header.increment, (header.limit, (header.shards, tt))))

-- ---- places

abbrev pub place_shape : Shape
place_shape = object (codes "key") key_shape (next (codes "shard") small (next (codes "workflow") name end))

abbrev pub place_value : Place → Value place_shape
place_value place = (key_value place.key, (place.shard, (place.workflow, tt)))

abbrev pub late_shape : Shape
late_shape = object (codes "domain") name (next (codes "place") (nullable place_shape) end)

abbrev pub late_value : Late → Value late_shape
late_value late = (late.domain, (option_map place_value late.place, tt))

-- ---- bodies

abbrev pub polled_shape : Shape
polled_shape = object (codes "done") level (next (codes "epoch") level (next (codes "key") (nullable key_shape) (next (codes "read") level end)))

abbrev pub polled_value : Polled → Value polled_shape
polled_value polled = (polled.done, (polled.epoch, (option_map key_value polled.key, (polled.read, tt))))

abbrev pub poll_shape : Shape
poll_shape = object (codes "all") (list name) (next (codes "largest") level (next (codes "late") (list late_shape) (next (codes "shards") (list polled_shape) end)))

abbrev pub poll_value : Poll → Value poll_shape
poll_value poll = (map (λ domain. domain) poll.all, (poll.largest, (map late_value poll.late, (map polled_value poll.shards, tt))))

abbrev pub entry_shape : Shape
entry_shape = object (codes "message") text (next (codes "place") level end)

abbrev pub entry_value : Entry → Value entry_shape
entry_value entry = (entry.message, (entry.place, tt))

abbrev pub entries_shape : Shape
entries_shape = object (codes "entries") (list entry_shape) (next (codes "epoch") level (next (codes "from") level (next (codes "late") (list name) (next (codes "next") level (next (codes "shard") small end)))))

abbrev pub entries_value : Entries → Value entries_shape
entries_value entries = (map entry_value entries.entries, (entries.epoch, (entries.from, (map (λ domain. domain) entries.late, (entries.next, (entries.shard, tt))))))

abbrev pub served_shape : Shape
served_shape = object (codes "messages") (list text) end

abbrev pub served_value : Served → Value served_shape
served_value served = (map (λ message. message) served.messages, tt)

-- an end of a gap; 0 and 0 before the first event of a run
abbrev pub end_shape : Shape
end_shape = object (codes "id") level (next (codes "version") version end)

abbrev pub end_of : Item → Value end_shape
end_of item = (item.id, (item.version, tt))

abbrev pub end_value : End → Value end_shape
end_value one = end_of one.item

abbrev pub gap_shape : Shape
gap_shape = object (codes "after") end_shape (next (codes "before") end_shape (next (codes "domain") name (next (codes "key") key_shape (next (codes "missing") key_shape (next (codes "run") run (next (codes "workflow") name end))))))

abbrev pub gap_value : AskedGap → Value gap_shape
gap_value asked =
    (end_of asked.gap.gap.after, (end_of asked.gap.gap.before, (asked.gap.domain, (key_value asked.gap.key, (key_value asked.gap.missing, (asked.gap.run, (asked.gap.workflow, tt)))))))

-- ---- records

-- a member of a domain, by its number
abbrev pub member_shape : Shape
member_shape = number 0 7

abbrev pub member_value : Member → Value member_shape
member_value member = member.number

abbrev pub cluster_of : Member → ClusterNo
cluster_of member = record { number = member.number }

abbrev pub number_of : ClusterNo → ℕ
number_of cluster = cluster.number

-- the numbers are members of a domain: in order, each once
abbrev pub are_members : List ℕ → Bool
are_members ns = bytes_eq (numbers_where (has_member ns)) ns

abbrev pub members_shape : Shape
members_shape = numbers 7 are_members

abbrev pub record_shape : Shape
record_shape = object (codes "config") level (next (codes "days") small (next (codes "members") members_shape (next (codes "name") name (next (codes "version") version end))))

abbrev pub record_value : ToldRecord → Value record_shape
record_value told = (told.record.config, (told.record.days, (told.record.members, (told.record.name, (told.record.version, tt)))))

abbrev pub records_shape : Shape
records_shape = object (codes "records") (list record_shape) end

abbrev pub records_value : Records → Value records_shape
records_value told = (map record_value told.records, tt)

-- ---- handovers

abbrev pub promised_shape : Shape
promised_shape = object (codes "epoch") level (next (codes "place") level end)

abbrev pub promised_value : Promised → Value promised_shape
promised_value promised = (promised.epoch, (promised.place, tt))

abbrev pub offer_shape : Shape
offer_shape =
    object (codes "domain") name (next (codes "late") flag (next (codes "new") version (next (codes "old") version (next (codes "places") (list promised_shape) (next (codes "record") record_shape end)))))

abbrev pub offer_value : Offer → Value offer_shape
offer_value offer = (offer.domain, (offer.late, (offer.new, (offer.old, (map promised_value offer.places, (record_value offer.record, tt))))))

-- ---- all of a domain, and what a node had given out

abbrev pub bootstrap_shape : Shape
bootstrap_shape = object (codes "domain") name (next (codes "from") (nullable place_shape) (next (codes "last") flag (next (codes "messages") (list text) end)))

abbrev pub bootstrap_value : Bootstrap → Value bootstrap_shape
bootstrap_value piece = (piece.domain, (option_map place_value piece.from, (piece.last, (map (λ message. message) piece.messages, tt))))

abbrev pub spot_shape : Shape
spot_shape = object (codes "domain") name (next (codes "place") place_shape end)

abbrev pub spot_value : Spot → Value spot_shape
spot_value spot = (spot.domain, (place_value spot.place, tt))

abbrev pub recall_shape : Shape
recall_shape = object (codes "after") (nullable spot_shape) (next (codes "largest") level end)

abbrev pub recall_value : Recall → Value recall_shape
recall_value recall = (option_map spot_value recall.after, (recall.largest, tt))

abbrev pub recalled_shape : Shape
recalled_shape =
    object (codes "after") (nullable spot_shape) (next (codes "handovers") (list offer_shape) (next (codes "last") flag (next (codes "messages") (list text) (next (codes "records") (list record_shape) end))))

abbrev pub recalled_value : Recalled → Value recalled_shape
recalled_value piece =
    (option_map spot_value piece.after, (map offer_value piece.handovers, (piece.last, (map (λ message. message) piece.messages, (map record_value piece.records, tt)))))

-- ---- progress

abbrev pub activity_shape : Shape
activity_shape = object (codes "domain") name (next (codes "run") run (next (codes "scheduled") id (next (codes "version") version (next (codes "workflow") name end))))

abbrev pub activity_value : ActivityRef → Value activity_shape
activity_value activity = (activity.domain, (activity.run, (activity.scheduled, (activity.version, (activity.workflow, tt)))))

abbrev pub report_shape : Shape
report_shape = object (codes "activity") activity_shape (next (codes "beat") level (next (codes "details") name (next (codes "version") version end)))

abbrev pub report_value : ToldReport → Value report_shape
report_value told = (activity_value told.report.activity, (told.report.beat, (told.report.details, (told.report.version, tt))))

abbrev pub held_shape : Shape
held_shape = object (codes "reports") (list report_shape) end

abbrev pub held_value : Held → Value held_shape
held_value held = (map report_value held.reports, tt)
