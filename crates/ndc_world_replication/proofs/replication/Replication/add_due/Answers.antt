use Rattle.std.proofs.Common.{◌≡◌, ◌<◌, ◌+◌, ◌++◌, ℕ, [], List, length, slice_index_or, map, ap, drop, refl, sym, ◌∙◌, arith}
use Rattle.std.proofs.lemmas.List.{append-nil, drop_all}
use Rattle.std.specs.List.{flat_map}
use Rattle.ndc_cluster.proofs.EachLemmas.{all_there}
use Rattle.ndc_model.specs.Moves.{arrives, due}
use Rattle.ndc_model.specs.World.{World}
use Rattle.ndc_model_cells.specs.Jobs.{cell_for}
use Rattle.ndc_model_cells.specs.declared.job.ShardJob.{ShardJob}
use Rattle.ndc_cluster_links.proofs.RestLemmas.{queue_there}
use Rattle.ndc_cluster_links.specs.Rest.{queue_at}
use Rattle.ndc_queue.specs.Queues.{QueueValue, queue_len}
use Rattle.ndc_world_replication.proofs.DueLemmas.{due_more, due_there, held_here, none_due_for}
use Rattle.ndc_world_replication.proofs.LinkLemmas.{lanes_alike, lanes_many, rest_there, within_there}
use Rattle.ndc_world_replication.specs.Places.{links_at}
use Rattle.ndc_world_replication.proofs.replication.Replication.add_due.Goals as goal

pub index-link-requires : goal.index-link-requires
index-link-requires g c = omega (
  arith,
  all_there (λ (place : ℕ). place < length c.args.self.now.links) c.args.places.now c.loop-place.place-index 0 c.loop-place-test.true c.requires.places,
  ap (λ (v : World). length v.links) c.self.view_is,
)

pub bounds-queues-shard : goal.bounds-queues-shard
bounds-queues-shard g c =
    let inside : slice_index_or c.args.places.now c.loop-place.place-index 0 < length c.args.self.now.links =
    all_there (λ (place : ℕ). place < length c.args.self.now.links) c.args.places.now c.loop-place.place-index 0 c.loop-place-test.true c.requires.places in
    let it = held_here c.args.header.now c.args.self.now c.self.inside.publishers.items c.self.inside.links.items c.self.inside.handovers.items (slice_index_or c.args.places.now c.loop-place.place-index 0) c.index-link.result.now c.source.result c.index-source.result.now c.queues.result.now
    c.self.view_is c.requires.orderly (omega (arith, inside, ap (λ (v : World). length v.links) c.self.view_is)) c.index-link.ensures c.source.ensures c.index-source.ensures c.queues.ensures.alike c.queues.ensures.rests c.queues.ensures.trimmed in
    omega (
      arith,
      c.requires.shard,
      ap length c.as_slice-queues.ensures,
      lanes_alike c.args.header.now c.args.self.now _ c.index-link.result.now c.index-source.result.now c.queues.result.now it,
      lanes_many c.args.header.now c.args.self.now _ c.index-link.result.now c.index-source.result.now c.queues.result.now it,
    )

pub due-requires-clause-shard : goal.due-requires-clause-shard
due-requires-clause-shard g c =
    let inside : slice_index_or c.args.places.now c.loop-place.place-index 0 < length c.args.self.now.links =
    all_there (λ (place : ℕ). place < length c.args.self.now.links) c.args.places.now c.loop-place.place-index 0 c.loop-place-test.true c.requires.places in
    let it = held_here c.args.header.now c.args.self.now c.self.inside.publishers.items c.self.inside.links.items c.self.inside.handovers.items (slice_index_or c.args.places.now c.loop-place.place-index 0) c.index-link.result.now c.source.result c.index-source.result.now c.queues.result.now
    c.self.view_is c.requires.orderly (omega (arith, inside, ap (λ (v : World). length v.links) c.self.view_is)) c.index-link.ensures c.source.ensures c.index-source.ensures c.queues.ensures.alike c.queues.ensures.rests c.queues.ensures.trimmed in
    omega (arith, c.requires.shard, lanes_many c.args.header.now c.args.self.now _ c.index-link.result.now c.index-source.result.now c.queues.result.now it)

pub due-requires-clause-within : goal.due-requires-clause-within
due-requires-clause-within g c =
    let inside : slice_index_or c.args.places.now c.loop-place.place-index 0 < length c.args.self.now.links =
    all_there (λ (place : ℕ). place < length c.args.self.now.links) c.args.places.now c.loop-place.place-index 0 c.loop-place-test.true c.requires.places in
    let it = held_here c.args.header.now c.args.self.now c.self.inside.publishers.items c.self.inside.links.items c.self.inside.handovers.items (slice_index_or c.args.places.now c.loop-place.place-index 0) c.index-link.result.now c.source.result c.index-source.result.now c.queues.result.now
    c.self.view_is c.requires.orderly (omega (arith, inside, ap (λ (v : World). length v.links) c.self.view_is)) c.index-link.ensures c.source.ensures c.index-source.ensures c.queues.ensures.alike c.queues.ensures.rests c.queues.ensures.trimmed in
    within_there c.args.header.now c.args.self.now _ c.index-link.result.now c.index-source.result.now c.queues.result.now it c.args.shard c.as_slice-queues.result.now c.index-queues-shard.result c.requires.shard
    c.as_slice-queues.ensures c.index-queues-shard.is

pub is_done_for-requires : goal.is_done_for-requires
is_done_for-requires g c =
    let inside : slice_index_or c.args.places.now c.loop-place.place-index 0 < length c.args.self.now.links =
    all_there (λ (place : ℕ). place < length c.args.self.now.links) c.args.places.now c.loop-place.place-index 0 c.loop-place-test.true c.requires.places in
    let it = held_here c.args.header.now c.args.self.now c.self.inside.publishers.items c.self.inside.links.items c.self.inside.handovers.items (slice_index_or c.args.places.now c.loop-place.place-index 0) c.index-link.result.now c.source.result c.index-source.result.now c.queues.result.now
    c.self.view_is c.requires.orderly (omega (arith, inside, ap (λ (v : World). length v.links) c.self.view_is)) c.index-link.ensures c.source.ensures c.index-source.ensures c.queues.ensures.alike c.queues.ensures.rests c.queues.ensures.trimmed in
    omega (arith, c.requires.shard, lanes_many c.args.header.now c.args.self.now _ c.index-link.result.now c.index-source.result.now c.queues.result.now it)

-- where all entries of the queue are done, the link is passed by
pub loop-place-preserved-then-is_done_for : goal.loop-place-preserved-then-is_done_for
loop-place-preserved-then-is_done_for g c =
    let inside : slice_index_or c.args.places.now c.loop-place.place-index 0 < length c.args.self.now.links =
    all_there (λ (place : ℕ). place < length c.args.self.now.links) c.args.places.now c.loop-place.place-index 0 c.loop-place-test.true c.requires.places in
    let it = held_here c.args.header.now c.args.self.now c.self.inside.publishers.items c.self.inside.links.items c.self.inside.handovers.items (slice_index_or c.args.places.now c.loop-place.place-index 0) c.index-link.result.now c.source.result c.index-source.result.now c.queues.result.now
    c.self.view_is c.requires.orderly (omega (arith, inside, ap (λ (v : World). length v.links) c.self.view_is)) c.index-link.ensures c.source.ensures c.index-source.ensures c.queues.ensures.alike c.queues.ensures.rests c.queues.ensures.trimmed in
    let within : c.args.shard < length c.as_slice-queues.result.now =
    omega (
      arith,
      c.requires.shard,
      ap length c.as_slice-queues.ensures,
      lanes_alike c.args.header.now c.args.self.now _ c.index-link.result.now c.index-source.result.now c.queues.result.now it,
      lanes_many c.args.header.now c.args.self.now _ c.index-link.result.now c.index-source.result.now c.queues.result.now it,
    ) in
    let at : c.index-queues-shard.result ≡ queue_at c.queues.result.now c.args.shard =
    queue_there c.as_slice-queues.result.now c.args.shard c.index-queues-shard.result within c.index-queues-shard.is ∙ ap (λ (queues : List QueueValue). queue_at queues c.args.shard) c.as_slice-queues.ensures in
    let none : due c.args.self.now c.args.shard c.index-link.result.now ≡ [] =
    none_due_for c.args.header.now c.args.self.now _ c.index-link.result.now c.index-source.result.now c.queues.result.now it c.args.shard c.requires.shard (c.if-is_done_for.ensures refl ∙ ap queue_len at) in
    ap (λ (jobs : List ShardJob). jobs ++ map (arrives c.args.shard) (flat_map (due c.args.self.now c.args.shard) (links_at (drop (c.loop-place.place-index + 1) c.args.places.now) c.args.self.now.links))) (sym (append-nil c.loop-place.jobs.items))
    ∙ due_more c.args.self.now c.args.shard c.args.places.now c.args.self.now.links c.loop-place.place-index (slice_index_or c.args.places.now c.loop-place.place-index 0) c.index-link.result.now c.loop-place.jobs.items _
    [] c.loop-place-test.true refl inside it.at (sym none) c.loop-place.invariant

pub loop-place-preserved : goal.loop-place-preserved
loop-place-preserved g c =
    let inside : slice_index_or c.args.places.now c.loop-place.place-index 0 < length c.args.self.now.links =
    all_there (λ (place : ℕ). place < length c.args.self.now.links) c.args.places.now c.loop-place.place-index 0 c.loop-place-test.true c.requires.places in
    let it = held_here c.args.header.now c.args.self.now c.self.inside.publishers.items c.self.inside.links.items c.self.inside.handovers.items (slice_index_or c.args.places.now c.loop-place.place-index 0) c.index-link.result.now c.source.result c.index-source.result.now c.queues.result.now
    c.self.view_is c.requires.orderly (omega (arith, inside, ap (λ (v : World). length v.links) c.self.view_is)) c.index-link.ensures c.source.ensures c.index-source.ensures c.queues.ensures.alike c.queues.ensures.rests c.queues.ensures.trimmed in
    let brought : c.in_ok-messages.messages.items ≡ due c.args.self.now c.args.shard c.index-link.result.now =
    c.in_ok-messages.ensures (cell_for c.args.shard c.index-source.result.now.cluster.cells).written
    (rest_there c.args.header.now c.args.self.now _ c.index-link.result.now c.index-source.result.now c.queues.result.now it c.args.shard c.as_slice-queues.result.now c.index-queues-shard.result c.requires.shard
    c.as_slice-queues.ensures c.index-queues-shard.is)
    ∙ due_there c.args.header.now c.args.self.now _ c.index-link.result.now c.index-source.result.now c.queues.result.now it c.args.shard c.table.result.now c.table.ensures in
    ap (λ (jobs : List ShardJob). jobs ++ map (arrives c.args.shard) (flat_map (due c.args.self.now c.args.shard) (links_at (drop (c.loop-place.place-index + 1) c.args.places.now) c.args.self.now.links))) c.in_ok-add_jobs.ensures
    ∙ due_more c.args.self.now c.args.shard c.args.places.now c.args.self.now.links c.loop-place.place-index (slice_index_or c.args.places.now c.loop-place.place-index 0) c.index-link.result.now c.loop-place.jobs.items _
    c.in_ok-messages.messages.items c.loop-place-test.true refl inside it.at brought c.loop-place.invariant

pub returns : goal.returns
returns g c =
    sym (append-nil c.loop-place.jobs.items)
    ∙ ap (λ (ps : List ℕ). c.loop-place.jobs.items ++ map (arrives c.args.shard) (flat_map (due c.args.self.now c.args.shard) (links_at ps c.args.self.now.links)))
    (sym (drop_all c.loop-place.place-index c.args.places.now (omega (arith, c.loop-place-test.false)))) ∙ c.loop-place.invariant
