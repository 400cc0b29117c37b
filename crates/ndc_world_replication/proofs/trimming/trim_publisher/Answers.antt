use Rattle.std.proofs.Common.{◌≡◌, ◌<◌, ℕ, ◌+◌, List, get_or, length, min, ap, ◌∙◌, arith}
use Rattle.std.proofs.lemmas.List.{length-map}
use Rattle.std.specs.List.{fold}
use Rattle.ndc_model_cells.specs.Jobs.{cell_for}
use Rattle.ndc_model.specs.Moves.{done_levels}
use Rattle.ndc_queue.specs.Queues.{QueueValue}
use Rattle.ndc_world_replication.specs.Publishers.{PublisherValue}
use Rattle.ndc_world_replication.proofs.TrimLemmas.{drop_step, len_there, trim_step}
use Rattle.ndc_world_replication.proofs.trimming.trim_publisher.Goals as goal

pub loop-shard-preserved : goal.loop-shard-preserved
loop-shard-preserved g c =
    let kept = c.loop-shard.invariant.publisher in
    let shard : ℕ = c.loop-shard.shard in
    let inside : shard < length c.queues-in-loop-shard.result.now =
    omega (arith, c.loop-shard-test.true, c.len-shard-end.ensures.len, c.queues.ensures.alike, c.queues-in-loop-shard.ensures.alike, ap (λ (s : PublisherValue). length s.cluster.cells) kept) in
    let below : shard < length c.args.publisher.now.trimmed =
    omega (arith, c.loop-shard-test.true, c.len-shard-end.ensures.len, ap length c.queues.ensures.trimmed, length-map c.queues.result.now (λ (queue : QueueValue). queue.first)) in
    let at : c.index-as_slice-shard.result ≡ get_or c.queues-in-loop-shard.result.now shard c.index-as_slice-shard.result =
    c.index-as_slice-shard.is ∙ ap (λ (queues : List QueueValue). get_or queues shard c.index-as_slice-shard.result) c.as_slice.ensures in
    let least : c.done_level-level.result ≡ fold min (length (cell_for shard c.args.publisher.now.cluster.cells).written) (done_levels c.args.source shard c.args.links.now) =
    c.done_level-level.ensures.least
    ∙ ap (λ (n : ℕ). fold min n (done_levels c.args.source shard c.args.links.now))
    (c.len-len.ensures.len ∙ len_there c.loop-shard.publisher.cluster.cells c.queues-in-loop-shard.result.now shard c.index-as_slice-shard.result c.queues-in-loop-shard.ensures.rests inside at
    ∙ ap (λ (s : PublisherValue). length (cell_for shard s.cluster.cells).written) kept) in
    record {
      publisher = c.trim-count.ensures.trimmed ∙ trim_step c.args.source c.args.links.now c.args.publisher.now c.loop-shard.publisher shard c.done_level-level.result kept below least;
      count = ap (λ (n : ℕ). c.loop-shard.count + n) c.trim-count.ensures.count
          ∙ drop_step c.args.source c.args.links.now c.args.publisher.now c.loop-shard.publisher shard c.done_level-level.result kept below least c.loop-shard.count c.loop-shard.invariant.count;
      most = omega (arith, c.loop-shard.invariant.most, c.trim-count.ensures.count, c.done_level-level.ensures.most, c.len-len.ensures.most);
    }
