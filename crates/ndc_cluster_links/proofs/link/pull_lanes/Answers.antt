use Rattle.std.proofs.Common.{◌≡◌, ◌+◌, List, None, length, refl, ap, sym, ◌∙◌, arith, sum}
use Rattle.std.proofs.lemmas.List.{length-set, take_all}
use Rattle.ndc_model.specs.Moves.{map_from}
use Rattle.ndc_model.specs.Queues.{Lane, put_in_flight}
use Rattle.ndc_queue.specs.Queues.{queue_len}
use Rattle.ndc_cluster_links.proofs.DoneLemmas.{done_still}
use Rattle.ndc_cluster_links.proofs.IdleLemmas.{idle-pull, idle-put}
use Rattle.ndc_cluster_links.proofs.PlaceLemmas.{changed_all, changed_more, counted_more, rest_more}
use Rattle.ndc_cluster_links.proofs.RestLemmas.{rest_there}
use Rattle.ndc_cluster_links.proofs.link.pull_lanes.Goals as goal

-- a lane that has read its queue up to the end stays
pub loop-shard-preserved-then-has_read : goal.loop-shard-preserved-then-has_read
loop-shard-preserved-then-has_read c =
    let lane : Lane = c.index_mut-lane.result.now in
    let read : lane.levels.read ≡ queue_len c.index-queues-shard.result = c.has_read.ensures c.if-has_read.true in
    let none : c.loop-shard.count + 0 ≡ c.loop-shard.count = omega arith in
    record {
      len = length-set c.loop-shard.lanes.items c.loop-shard.shard lane ∙ c.loop-shard.invariant.len;
      rest = rest_more c.loop-shard.lanes.items c.args.lanes.now.items c.loop-shard.shard lane c.loop-shard.invariant.rest;
      done = done_still c.loop-shard.lanes.items c.loop-shard.shard lane lane c.index_mut-lane.ensures.value refl ∙ c.loop-shard.invariant.done;
      most = omega (arith, c.loop-shard.invariant.most);
      pulled = λ whole rests.
          changed_more _ c.loop-shard.shard c.args.lanes.now.items c.loop-shard.lanes.items lane lane (omega arith)
          (c.loop-shard.invariant.pulled whole rests) c.index_mut-lane.ensures.value
          (idle-pull c.args.reader c.args.table.now None c.index-queues-shard.result lane (whole c.loop-shard.shard)
          (rest_there c.args.queues.now whole c.loop-shard.shard c.index-queues-shard.result rests (omega arith) c.index-queues-shard.is) read);
      counted = λ whole rests.
          sym none
          ∙ counted_more _ c.loop-shard.shard c.args.lanes.now.items c.loop-shard.lanes.items lane c.loop-shard.count 0 (omega arith)
          c.loop-shard.invariant.rest c.index_mut-lane.ensures.value (c.loop-shard.invariant.counted whole rests)
          (idle-put c.args.reader c.args.table.now None c.index-queues-shard.result lane (whole c.loop-shard.shard)
          (rest_there c.args.queues.now whole c.loop-shard.shard c.index-queues-shard.result rests (omega arith) c.index-queues-shard.is) read);
    }

pub loop-shard-preserved : goal.loop-shard-preserved
loop-shard-preserved c = record {
  len = length-set c.loop-shard.lanes.items c.loop-shard.shard c.pull.new.self ∙ c.loop-shard.invariant.len;
  rest = rest_more c.loop-shard.lanes.items c.args.lanes.now.items c.loop-shard.shard c.pull.new.self c.loop-shard.invariant.rest;
  done = done_still c.loop-shard.lanes.items c.loop-shard.shard c.index_mut-lane.result.now c.pull.new.self c.index_mut-lane.ensures.value c.pull.ensures.done ∙ c.loop-shard.invariant.done;
  most = omega (arith, c.in_ok-count.ensures.most, c.loop-shard.invariant.most);
  pulled = λ whole rests.
      changed_more _ c.loop-shard.shard c.args.lanes.now.items c.loop-shard.lanes.items c.index_mut-lane.result.now c.pull.new.self (omega arith)
      (c.loop-shard.invariant.pulled whole rests) c.index_mut-lane.ensures.value
      (c.in_ok-count.ensures.pulled (whole c.loop-shard.shard) (rest_there c.args.queues.now whole c.loop-shard.shard c.index-queues-shard.result rests (omega arith) c.index-queues-shard.is));
  counted = λ whole rests.
      counted_more _ c.loop-shard.shard c.args.lanes.now.items c.loop-shard.lanes.items c.index_mut-lane.result.now c.loop-shard.count c.in_ok-count.field-0 (omega arith)
      c.loop-shard.invariant.rest c.index_mut-lane.ensures.value (c.loop-shard.invariant.counted whole rests)
      (c.in_ok-count.ensures.count (whole c.loop-shard.shard) (rest_there c.args.queues.now whole c.loop-shard.shard c.index-queues-shard.result rests (omega arith) c.index-queues-shard.is));
}

pub returns-in_err-count-clause-done : goal.returns-in_err-count-clause-done
returns-in_err-count-clause-done c =
    done_still c.loop-shard.lanes.items c.loop-shard.shard c.index_mut-lane.result.now c.pull.new.self c.index_mut-lane.ensures.value c.pull.ensures.done ∙ c.loop-shard.invariant.done

pub returns-clause-pulled : goal.returns-clause-pulled
returns-clause-pulled c = λ whole rests. c.loop-shard.invariant.pulled whole rests ∙ changed_all _ c.loop-shard.shard c.args.lanes.now.items (omega arith)

pub returns-clause-count : goal.returns-clause-count
returns-clause-count c = λ whole rests. c.loop-shard.invariant.counted whole rests ∙ ap (λ (lanes : List Lane). sum (map_from (λ shard lane. length (put_in_flight c.args.reader c.args.table.now None (whole shard) lane)) 0 lanes)) (take_all c.loop-shard.shard c.args.lanes.now.items (omega arith))
