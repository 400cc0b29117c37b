-- From the values of frames back to frames: no two frames are one value.
use Rattle.std.proofs.Common.{◌≡◌, ℕ, List, [], ◌∷◌, map, Option, Some, None, Result, Ok, Err, refl, sym, ap, ◌∙◌}
use Rattle.std.specs.Prelude.{option_map}
use Rattle.ndc_event.specs.Outcome.{Gives}
use Rattle.ndc_event.specs.declared.key.BatchKey.{BatchKey}
use Rattle.ndc_node_shapes.specs.declared.fault.Fault.TheVariants.{Memory}
use Rattle.ndc_history.specs.declared.item.Item.{Item}
use Rattle.ndc_progress.specs.declared.report.ActivityRef.{ActivityRef}
use Rattle.ndc_node_shapes.specs.Common.{key_shape, key_value}
use Rattle.ndc_node_shapes.specs.Shapes.{Value}
use Rattle.ndc_node_shapes.specs.declared.fault.Fault.{Fault}
use Rattle.ndc_node_frames.specs.declared.header.Seat.{Seat}
use Rattle.ndc_node_frames.specs.declared.header.Header.{Header}
use Rattle.ndc_node_frames.specs.declared.place.Place.{Place}
use Rattle.ndc_node_frames.specs.declared.place.Late.{Late}
use Rattle.ndc_node_frames.specs.declared.body.Polled.{Polled}
use Rattle.ndc_node_frames.specs.declared.body.Poll.{Poll}
use Rattle.ndc_node_frames.specs.declared.body.Entry.{Entry}
use Rattle.ndc_node_frames.specs.declared.body.Entries.{Entries}
use Rattle.ndc_node_frames.specs.declared.body.Served.{Served}
use Rattle.ndc_node_frames.specs.declared.gap.AskedGap.{AskedGap}
use Rattle.ndc_node_frames.specs.declared.record.ToldRecord.{ToldRecord}
use Rattle.ndc_node_frames.specs.declared.handover.Promised.{Promised}
use Rattle.ndc_node_frames.specs.declared.handover.Offer.{Offer}
use Rattle.ndc_node_frames.specs.declared.sending.Records.{Records}
use Rattle.ndc_node_frames.specs.declared.sending.Bootstrap.{Bootstrap}
use Rattle.ndc_node_frames.specs.declared.sending.Spot.{Spot}
use Rattle.ndc_node_frames.specs.declared.sending.Recall.{Recall}
use Rattle.ndc_node_frames.specs.declared.sending.Recalled.{Recalled}
use Rattle.ndc_node_frames.specs.declared.progress.ToldReport.{ToldReport}
use Rattle.ndc_node_frames.specs.declared.progress.Held.{Held}
use Rattle.ndc_node_frames.specs.Parts.{activity_shape, bootstrap_shape, bootstrap_value, entries_shape, entries_value, entry_shape, entry_value, gap_shape, gap_value, header_shape, header_value, held_shape, held_value, late_shape, late_value, offer_shape, offer_value, place_shape, place_value, poll_shape, poll_value, polled_shape, polled_value, promised_shape, promised_value, recall_shape, recall_value, recalled_shape, recalled_value, record_shape, record_value, records_shape, records_value, report_shape, report_value, seat_shape, seat_value, served_shape, served_value, spot_shape, spot_value, end_shape}
use Rattle.ndc_node_frames.specs.Frames.{Content, Seen, body_shape, content_of, frame_at, frame_text, seen_of, FrameFits}
use Rattle.ndc_node_frames.specs.declared.frame.Body.{Body}
use Rattle.ndc_node_frames.specs.declared.frame.Body.TheVariants as body
use Rattle.ndc_node_frames.specs.declared.frame.Frame.{Frame}
use Rattle.ndc_node_frames.specs.declared.kind.Kind.{Kind}
use Rattle.ndc_node_frames.specs.declared.kind.Kind.TheVariants.{Poll as poll, Entries as entries, Records as records, Handover as handover, Gap as gap, Served as served, Bootstrap as bootstrap, Recall as recall, Recalled as recalled, Progress as progress}
use Rattle.ndc_node_frames.proofs.FrameLaws.{frame_again}

-- ---- lists, and what may be missing

items_back : {X A : Type 0} (f : X → A) (g : A → X) → ((x : X) → g (f x) ≡ x) → (xs : List X) → map g (map f xs) ≡ xs
items_back f g h [] = refl
items_back f g h (x ∷ xs) = ap (λ y. y ∷ map g (map f xs)) (h x) ∙ ap (λ ys. x ∷ ys) (items_back f g h xs)

option_back : {X A : Type 0} (f : X → A) (g : A → X) → ((x : X) → g (f x) ≡ x) → (o : Option X) → option_map g (option_map f o) ≡ o
option_back f g h None = refl
option_back f g h (Some x) = ap (λ y. Some y) (h x)

same : {X : Type 0} (xs : List X) → map (λ x. x) xs ≡ xs
same [] = refl
same (x ∷ xs) = ap (λ ys. x ∷ ys) (same xs)

same_twice : {X : Type 0} (xs : List X) → map (λ x. x) (map (λ x. x) xs) ≡ xs
same_twice xs = items_back (λ x. x) (λ x. x) (λ x. refl) xs

-- ---- parts

key_back : Value key_shape → BatchKey
key_back v = record { version = v.1.0; task = v.0 }

seat_back : Value seat_shape → Seat
seat_back v = record { name = v.1.0; initial = v.0 }

header_back : Value header_shape → Header
header_back v = record { clusters = map seat_back v.0; increment = v.1.0; limit = v.1.1.0; shards = v.1.1.1.0 }

header_is : (x : Header) → header_back (header_value x) ≡ x
unfolding seat_back header_back
header_is x = ap (λ clusters. record x { clusters = clusters }) (items_back seat_value seat_back (λ x. refl) x.clusters)

place_back : Value place_shape → Place
place_back v = record { shard = v.1.0; workflow = v.1.1.0; key = key_back v.0 }

late_back : Value late_shape → Late
late_back v = record { domain = v.0; place = option_map place_back v.1.0 }

late_is : (x : Late) → late_back (late_value x) ≡ x
unfolding key_back place_back late_back
late_is x = ap (λ place. record x { place = place }) (option_back place_value place_back (λ x. refl) x.place)

polled_back : Value polled_shape → Polled
polled_back v = record { epoch = v.1.0; read = v.1.1.1.0; done = v.0; key = option_map key_back v.1.1.0 }

polled_is : (x : Polled) → polled_back (polled_value x) ≡ x
unfolding key_back polled_back
polled_is x = ap (λ key. record x { key = key }) (option_back key_value key_back (λ x. refl) x.key)

poll_back : Value poll_shape → Poll
poll_back v = record { largest = v.1.0; shards = map polled_back v.1.1.1.0; late = map late_back v.1.1.0; all = map (λ x. x) v.0 }

poll_is : (x : Poll) → poll_back (poll_value x) ≡ x
unfolding poll_back
poll_is x =
    ap (λ shards. record { largest = x.largest; shards = shards; late = map late_back (map late_value x.late); all = map (λ x. x) (map (λ x. x) x.all) }) (items_back polled_value polled_back polled_is x.shards)
    ∙ ap (λ late. record { largest = x.largest; shards = x.shards; late = late; all = map (λ x. x) (map (λ x. x) x.all) }) (items_back late_value late_back late_is x.late)
    ∙ ap (λ all. record x { all = all }) (same_twice x.all)

entry_back : Value entry_shape → Entry
entry_back v = record { place = v.1.0; message = v.0 }

entries_back : Value entries_shape → Entries
entries_back v = record { shard = v.1.1.1.1.1.0; epoch = v.1.0; from = v.1.1.0; next = v.1.1.1.1.0; late = map (λ x. x) v.1.1.1.0; entries = map entry_back v.0 }

entries_is : (x : Entries) → entries_back (entries_value x) ≡ x
unfolding entry_back entries_back
entries_is x =
    ap (λ late. record x { late = late; entries = map entry_back (map entry_value x.entries) }) (same_twice x.late)
    ∙ ap (λ list. record x { entries = list }) (items_back entry_value entry_back (λ x. refl) x.entries)

served_back : Value served_shape → Served
served_back v = record { messages = map (λ x. x) v.0 }

served_is : (x : Served) → served_back (served_value x) ≡ x
unfolding served_back
served_is x = ap (λ messages. record x { messages = messages }) (same_twice x.messages)

end_back : Value end_shape → Item
end_back v = record { id = v.0; version = v.1.0 }

gap_back : Value gap_shape → AskedGap
gap_back v =
    record { gap = record { domain = v.1.1.0; workflow = v.1.1.1.1.1.1.0; run = v.1.1.1.1.1.0; key = key_back v.1.1.1.0; gap = record { after = end_back v.0; before = end_back v.1.0 }; missing = key_back v.1.1.1.1.0 } }

gap_is : (x : AskedGap) → gap_back (gap_value x) ≡ x
unfolding key_back end_back gap_back
gap_is x = refl

record_back : Value record_shape → ToldRecord
record_back v = record { «record» = record { name = v.1.1.1.0; version = v.1.1.1.1.0; config = v.0; days = v.1.0; members = v.1.1.0 } }

record_is : (x : ToldRecord) → record_back (record_value x) ≡ x
unfolding record_back
record_is x = refl

records_back : Value records_shape → Records
records_back v = record { records = map record_back v.0 }

records_is : (x : Records) → records_back (records_value x) ≡ x
unfolding records_back
records_is x = ap (λ list. record x { records = list }) (items_back record_value record_back record_is x.records)

promised_back : Value promised_shape → Promised
promised_back v = record { epoch = v.0; place = v.1.0 }

offer_back : Value offer_shape → Offer
offer_back v = record { domain = v.0; old = v.1.1.1.0; new = v.1.1.0; places = map promised_back v.1.1.1.1.0; late = v.1.0; «record» = record_back v.1.1.1.1.1.0 }

offer_is : (x : Offer) → offer_back (offer_value x) ≡ x
unfolding promised_back record_back offer_back
offer_is x = ap (λ places. record x { places = places }) (items_back promised_value promised_back (λ x. refl) x.places)

bootstrap_back : Value bootstrap_shape → Bootstrap
bootstrap_back v = record { domain = v.0; from = option_map place_back v.1.0; messages = map (λ x. x) v.1.1.1.0; last = v.1.1.0 }

bootstrap_is : (x : Bootstrap) → bootstrap_back (bootstrap_value x) ≡ x
unfolding key_back place_back bootstrap_back
bootstrap_is x =
    ap (λ from. record x { from = from; messages = map (λ x. x) (map (λ x. x) x.messages) }) (option_back place_value place_back (λ x. refl) x.from)
    ∙ ap (λ messages. record x { messages = messages }) (same_twice x.messages)

spot_back : Value spot_shape → Spot
spot_back v = record { domain = v.0; place = place_back v.1.0 }

spot_is : (x : Spot) → spot_back (spot_value x) ≡ x
unfolding key_back place_back spot_back
spot_is x = refl

recall_back : Value recall_shape → Recall
recall_back v = record { largest = v.1.0; after = option_map spot_back v.0 }

recall_is : (x : Recall) → recall_back (recall_value x) ≡ x
unfolding recall_back
recall_is x = ap (λ after. record x { after = after }) (option_back spot_value spot_back spot_is x.after)

recalled_back : Value recalled_shape → Recalled
recalled_back v =
    record { after = option_map spot_back v.0; messages = map (λ x. x) v.1.1.1.0; last = v.1.1.0; records = map record_back v.1.1.1.1.0; handovers = map offer_back v.1.0 }

recalled_is : (x : Recalled) → recalled_back (recalled_value x) ≡ x
unfolding recalled_back
recalled_is x =
    let v = recalled_value x in
    let before = recalled_back v in
    ap (λ after. record before { after = after }) (option_back spot_value spot_back spot_is x.after)
    ∙ ap (λ messages. record before { after = x.after; messages = messages }) (same_twice x.messages)
    ∙ ap (λ list. record before { after = x.after; messages = x.messages; records = list }) (items_back record_value record_back record_is x.records)
    ∙ ap (λ list. record x { handovers = list }) (items_back offer_value offer_back offer_is x.handovers)

activity_back : Value activity_shape → ActivityRef
activity_back v = record { domain = v.0; workflow = v.1.1.1.1.0; run = v.1.0; scheduled = v.1.1.0; version = v.1.1.1.0 }

report_back : Value report_shape → ToldReport
report_back v = record { report = record { activity = activity_back v.0; version = v.1.1.1.0; beat = v.1.0; details = v.1.1.0 } }

report_is : (x : ToldReport) → report_back (report_value x) ≡ x
unfolding activity_back report_back
report_is x = refl

held_back : Value held_shape → Held
held_back v = record { reports = map report_back v.0 }

held_is : (x : Held) → held_back (held_value x) ≡ x
unfolding held_back
held_is x = ap (λ list. record x { reports = list }) (items_back report_value report_back report_is x.reports)

-- ---- frames

body_back : (kind : Kind) → Value (body_shape kind) → Body
body_back poll v = body.Poll (poll_back v)
body_back entries v = body.Entries (entries_back v)
body_back records v = body.Records (records_back v)
body_back handover v = body.Handover (offer_back v)
body_back gap v = body.Gap (gap_back v)
body_back served v = body.Served (served_back v)
body_back bootstrap v = body.Bootstrap (bootstrap_back v)
body_back recall v = body.Recall (recall_back v)
body_back recalled v = body.Recalled (recalled_back v)
body_back progress v = body.Progress (held_back v)

content_back : Content → Body
content_back c = body_back c.0 c.1

body_is : (b : Body) → content_back (content_of b) ≡ b
unfolding body_back content_back
body_is (body.Poll x) = ap (λ y. body.Poll y) (poll_is x)
body_is (body.Entries x) = ap (λ y. body.Entries y) (entries_is x)
body_is (body.Records x) = ap (λ y. body.Records y) (records_is x)
body_is (body.Handover x) = ap (λ y. body.Handover y) (offer_is x)
body_is (body.Gap x) = ap (λ y. body.Gap y) (gap_is x)
body_is (body.Served x) = ap (λ y. body.Served y) (served_is x)
body_is (body.Bootstrap x) = ap (λ y. body.Bootstrap y) (bootstrap_is x)
body_is (body.Recall x) = ap (λ y. body.Recall y) (recall_is x)
body_is (body.Recalled x) = ap (λ y. body.Recalled y) (recalled_is x)
body_is (body.Progress x) = ap (λ y. body.Progress y) (held_is x)

frame_back : Seen → Frame
frame_back seen = record { from = seen.1.1.0; to = seen.1.1.1.1.1.0; header = header_back seen.1.1.1.0; body = content_back seen.0 }

frame_is : (x : Frame) → frame_back (seen_of x) ≡ x
unfolding frame_back
frame_is x =
    ap (λ header. record { from = x.from; to = x.to; header = header; body = content_back (content_of x.body) }) (header_is x.header)
    ∙ ap (λ b. record x { body = b }) (body_is x.body)

seen_is : (one other : Seen) → ◌≡◌ {A = Result Seen Fault} (Ok one) (Ok other) → one ≡ other
seen_is one other h = cc

no_err : (y : Fault) (seen : Seen) → ◌≡◌ {A = Result Seen Fault} (Err y) (Ok seen) → ⊥
no_err y seen h = absurd (cc)

pub one_frame : (one other : Frame) → FrameFits one → FrameFits other → frame_text one ≡ frame_text other → one ≡ other
one_frame one other h k e =
    let seen = seen_is (seen_of one) (seen_of other) (sym (frame_again one h) ∙ ap frame_at e ∙ frame_again other k) in
    sym (frame_is one) ∙ ap frame_back seen ∙ frame_is other

-- what is read of the text of a frame is the frame
pub only_frame : (r : Result Frame Fault) (frame : Frame) (bytes : List ℕ) → Gives Memory seen_of r (frame_at bytes) → FrameFits frame → bytes ≡ frame_text frame → Gives Memory (λ read. read) r (Ok frame)
only_frame (Ok x) frame bytes h fits e =
    let seen = seen_is (seen_of frame) (seen_of x) (sym (ap frame_at e ∙ frame_again frame fits) ∙ h) in
    ap (λ f. Ok f) (sym (frame_is frame) ∙ ap frame_back seen ∙ frame_is x)
only_frame (Err y) frame bytes h fits e = λ n. absurd (let both = sym (h n) ∙ ap frame_at e ∙ frame_again frame fits in no_err y (seen_of frame) both)
