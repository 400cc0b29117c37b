-- Links over which nothing is due.
use Rattle.std.proofs.Common.{◌≡◌, ◌<◌, ◌+◌, ℕ, Bool, true, false, [], ◌∷◌, List, ◌++◌, Option, append_assoc, map, take, drop, length, get_or, slice_get, slice_index_or, refl, ap, sym, ◌∙◌, arith}
use Rattle.std.specs.List.{cons_option, filter, flat_map}
use Rattle.std.proofs.lemmas.Grind.{flat_map-append}
use Rattle.std.proofs.lemmas.List.{append-nil, at_drop_more, drop_all, map-append, map-id, take-append-drop}
use Rattle.std.proofs.lemmas.List.Elements.{filter_map-append}
use Rattle.std.proofs.lemmas.Option.{slice_get_read}
use Rattle.ndc_script_types.specs.declared.script.Header.{Header}
use Rattle.ndc_model_cells.specs.Jobs.{cell_for}
use Rattle.ndc_model_cells.specs.Writing.{same_cluster}
use Rattle.ndc_model_cells.specs.declared.job.ShardJob.{ShardJob}
use Rattle.ndc_model_cells.specs.declared.message.Message.{Message}
use Rattle.ndc_domain.specs.declared.clusters.ClusterNo.{ClusterNo}
use Rattle.ndc_domain.specs.declared.record.DomainRecord.{DomainRecord}
use Rattle.ndc_world_replication.specs.Publishers.{PublisherValue}
use Rattle.ndc_cluster_links.proofs.RestLemmas.{len_kept}
use Rattle.ndc_cluster_links.specs.Rest.{AreRests, queue_at}
use Rattle.ndc_graceful.specs.declared.handover.Handover.{Handover}
use Rattle.ndc_model.specs.Moves.{arrives, by_link, due}
use Rattle.ndc_model.specs.Queues.{is_addressed}
use Rattle.ndc_model.specs.World.{Cluster, Link, World, cluster_at, lane_in}
use Rattle.ndc_model.specs.World as world
use Rattle.ndc_queue.specs.Queues.{QueueValue, queue_len}
use Rattle.ndc_world_replication.proofs.LinkLemmas.{Holds, held_there, lanes_alike, lanes_many}
use Rattle.ndc_world_replication.proofs.TakeLemmas.{own_part, part_own}
use Rattle.ndc_world_replication.specs.Replications.{world_of}
use Rattle.ndc_world_replication.specs.Orderly.{IsOrderly}
use Rattle.ndc_world_replication.specs.Places.{links_at}

-- a link of a world that is as it should be, at its place
pub holds_here : (header : Header) (w : World) (publishers : List PublisherValue) (handovers : List Handover) (place : ℕ) (link : Link) (publisher : PublisherValue) (queues : List QueueValue)
    → world_of publishers w.links handovers ≡ w → IsOrderly header w → place < length w.links → link ≡ get_or w.links place link
    → publisher ≡ get_or publishers link.source.number publisher → length queues ≡ length publisher.cluster.cells → AreRests queues (λ shard. (cell_for shard publisher.cluster.cells).written)
    → map (λ (queue : QueueValue). queue.first) queues ≡ publisher.trimmed → Holds header w place link publisher queues
holds_here header w publishers handovers place link publisher queues same orderly below at here alike rests firsts =
    held_there header w publishers handovers (λ (l : Link). l) w.links place link publisher queues same orderly.shaped orderly.lanes
    (sym (ap (λ (ls : List Link). ls ++ drop place w.links) (map-id (take place w.links)) ∙ take-append-drop place w.links)) below at here alike rests firsts

-- the same, by the clusters and links as they are held
pub held_here : (header : Header) (w : World) (publishers : List PublisherValue) (links : List Link) (handovers : List Handover) (place : ℕ) (link : Link) (source : ClusterNo) (publisher : PublisherValue) (queues : List QueueValue)
    → world_of publishers links handovers ≡ w → IsOrderly header w → place < length links → link ≡ get_or links place link → source ≡ link.source
    → publisher ≡ get_or publishers source.number publisher → length queues ≡ length publisher.cluster.cells → AreRests queues (λ shard. (cell_for shard publisher.cluster.cells).written)
    → map (λ (queue : QueueValue). queue.first) queues ≡ publisher.trimmed → Holds header w place link publisher queues
held_here header w publishers links handovers place link source publisher queues same orderly below at is here alike rests firsts =
    holds_here header w publishers handovers place link publisher queues (ap (λ (v : World). world_of publishers v.links handovers) (sym same) ∙ same) orderly
    (omega (arith, below, ap (λ (v : World). length v.links) same)) (at ∙ ap (λ (v : World). get_or v.links place link) same)
    (here ∙ ap (λ (number : ClusterNo). get_or publishers number.number publisher) is) alike rests firsts

-- what is due over a link for a shard of which all entries are done
pub none_due_for : (header : Header) (w : World) (place : ℕ) (link : Link) (publisher : PublisherValue) (queues : List QueueValue) → Holds header w place link publisher queues
    → (shard : ℕ) → shard < header.shards → (lane_in link shard).levels.done ≡ queue_len (queue_at queues shard) → due w shard link ≡ []
none_due_for header w place link publisher queues it shard below done =
    let many : length link.lanes ≡ header.shards = lanes_many header w place link publisher queues it in
    let alike : length queues ≡ length link.lanes = lanes_alike header w place link publisher queues it in
    let len : queue_len (queue_at queues shard) ≡ length (world.queue_at link.source shard w) =
    len_kept (queue_at queues shard) (cell_for shard publisher.cluster.cells).written (it.rests shard (omega (arith, below, alike, many)))
    ∙ ap (λ (cluster : Cluster). length (cell_for shard cluster.cells).written) (sym it.own.cluster_is) in
    ap (filter (is_addressed link.reader (cluster_at link.source w).table)) (drop_all (lane_in link shard).levels.done (world.queue_at link.source shard w) (omega (arith, len, done)))

-- what is brought over a link whose source has written no more than is done
pub none_due : (header : Header) (w : World) (place : ℕ) (link : Link) (publisher : PublisherValue) (queues : List QueueValue) → Holds header w place link publisher queues
    → ((shard : ℕ) → shard < length link.lanes → (lane_in link shard).levels.done ≡ queue_len (queue_at queues shard))
    → (reader : ClusterNo) (shard : ℕ) → shard < header.shards → own_part (due w) reader shard link ≡ []
none_due header w place link publisher queues it done reader shard below = by (same_cluster link.reader reader) refl
  where
    by : (b : Bool) → same_cluster link.reader reader ≡ b → own_part (due w) reader shard link ≡ []
    by true own = rw own (none_due_for header w place link publisher queues it shard below (done shard (omega (arith, below, lanes_many header w place link publisher queues it))))
    by false other = rw other refl

-- what is due over a link, by the source's own table and queues
pub due_there : (header : Header) (w : World) (place : ℕ) (link : Link) (publisher : PublisherValue) (queues : List QueueValue) → Holds header w place link publisher queues
    → (shard : ℕ) (table : List DomainRecord) → table ≡ publisher.cluster.table → filter (is_addressed link.reader table) (drop (lane_in link shard).levels.done (cell_for shard publisher.cluster.cells).written) ≡ due w shard link
due_there header w place link publisher queues it shard table same =
    ap (λ (t : List DomainRecord). filter (is_addressed link.reader t) (drop (lane_in link shard).levels.done (cell_for shard publisher.cluster.cells).written)) same
    ∙ ap (λ (cluster : Cluster). filter (is_addressed link.reader cluster.table) (drop (lane_in link shard).levels.done (cell_for shard cluster.cells).written)) (sym it.own.cluster_is)

-- over another reader's link nothing is brought
pub none_other : (w : World) (reader : ClusterNo) (link : Link) (shard : ℕ) → same_cluster link.reader reader ≡ false → own_part (due w) reader shard link ≡ []
none_other w reader link shard other = rw other refl

-- what is brought over the next link, and over those after it
next-part : (w : World) (reader : ClusterNo) (shard : ℕ) (links : List Link) (i : ℕ) (link : Link) → i < length links → link ≡ get_or links i link
    → by_link reader (due w) (drop i links) shard ≡ own_part (due w) reader shard link ++ by_link reader (due w) (drop (i + 1) links) shard
next-part w reader shard links i link below is =
    at_drop_more (λ (ls : List Link). by_link reader (due w) ls shard) links i link below
    ∙ ap (λ (l : Link). own_part (due w) reader shard l ++ by_link reader (due w) (drop (i + 1) links) shard) (sym is)

-- the link at the next place
next-link : (places : List ℕ) (links : List Link) (i place : ℕ) (link : Link) → i < length places → place ≡ slice_index_or places i 0 → place < length links → link ≡ get_or links place link
    → links_at (drop i places) links ≡ link ∷ links_at (drop (i + 1) places) links
next-link places links i place link inside is below at =
    at_drop_more (λ (ps : List ℕ). links_at ps links) places i 0 inside ∙ ap (λ (p : ℕ). links_at (p ∷ drop (i + 1) places) links) (sym is)
    ∙ ap (λ (o : Option Link). cons_option o (links_at (drop (i + 1) places) links)) (slice_get_read links (length links) place link refl below at)

-- the links at places and at one more
links-more : (places : List ℕ) (links : List Link) (place : ℕ) (link : Link) → place < length links → link ≡ get_or links place link → links_at (places ++ place ∷ []) links ≡ links_at places links ++ link ∷ []
links-more places links place link below at =
    filter_map-append (slice_get links) places (place ∷ []) ∙ ap (λ (o : Option Link). links_at places links ++ cons_option o []) (slice_get_read links (length links) place link refl below at)

-- what is due over the links at the places so far, and over those from a link on, is all: the link is passed by, or its place is listed
module _ (w : World) (reader : ClusterNo) (shard : ℕ) (places : List ℕ) (links : List Link) (i : ℕ) (link : Link) (below : i < length links) (is : link ≡ get_or links i link) where
  pub due_passed : (all : List Message) → own_part (due w) reader shard link ≡ [] → flat_map (due w shard) (links_at places links) ++ by_link reader (due w) (drop i links) shard ≡ all
      → flat_map (due w shard) (links_at places links) ++ by_link reader (due w) (drop (i + 1) links) shard ≡ all
  due_passed all none kept =
      ap (λ (ms : List Message). flat_map (due w shard) (links_at places links) ++ ms)
      (sym (next-part w reader shard links i link below is ∙ ap (λ (ms : List Message). ms ++ by_link reader (due w) (drop (i + 1) links) shard) none)) ∙ kept

  pub due_listed : (all : List Message) → same_cluster link.reader reader ≡ true → flat_map (due w shard) (links_at places links) ++ by_link reader (due w) (drop i links) shard ≡ all
      → flat_map (due w shard) (links_at (places ++ i ∷ []) links) ++ by_link reader (due w) (drop (i + 1) links) shard ≡ all
  due_listed all own kept =
      let rest : List Message = by_link reader (due w) (drop (i + 1) links) shard in
      let sofar : List Message = flat_map (due w shard) (links_at places links) in
      ap (λ (ls : List Link). flat_map (due w shard) ls ++ rest) (links-more places links i link below is)
      ∙ ap (λ (ms : List Message). ms ++ rest)
      (flat_map-append (due w shard) (links_at places links) (link ∷ []) ∙ ap (λ (ms : List Message). sofar ++ ms) (append-nil (due w shard link)))
      ∙ append_assoc sofar (due w shard link) rest
      ∙ ap (λ (ms : List Message). sofar ++ ms) (sym (next-part w reader shard links i link below is ∙ ap (λ (ms : List Message). ms ++ rest) (sym (part_own (due w) reader shard link own)))) ∙ kept

-- with what is due over the link at the next place, the jobs so far and those to come are all jobs
pub due_more : (w : World) (shard : ℕ) (places : List ℕ) (links : List Link) (i place : ℕ) (link : Link) (jobs all : List ShardJob) (messages : List Message) → i < length places → place ≡ slice_index_or places i 0
    → place < length links → link ≡ get_or links place link → messages ≡ due w shard link → jobs ++ map (arrives shard) (flat_map (due w shard) (links_at (drop i places) links)) ≡ all
    → (jobs ++ map (arrives shard) messages) ++ map (arrives shard) (flat_map (due w shard) (links_at (drop (i + 1) places) links)) ≡ all
due_more w shard places links i place link jobs all messages inside is below at own kept =
    let rest : List Message = flat_map (due w shard) (links_at (drop (i + 1) places) links) in
    let next : flat_map (due w shard) (links_at (drop i places) links) ≡ messages ++ rest =
    ap (flat_map (due w shard)) (next-link places links i place link inside is below at) ∙ ap (λ (ms : List Message). ms ++ rest) (sym own) in
    append_assoc jobs (map (arrives shard) messages) (map (arrives shard) rest)
    ∙ ap (λ (js : List ShardJob). jobs ++ js) (sym (ap (map (arrives shard)) next ∙ map-append (arrives shard) messages rest)) ∙ kept
