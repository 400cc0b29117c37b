use Rattle.std.proofs.Common.{◌≡◌, map, refl, sym, ap, ◌∙◌, arith}
use Rattle.std.proofs.lemmas.List.{length-set, take_all}
use Rattle.ndc_model_cells.specs.Cells.{Cell}
use Rattle.ndc_model_cells.specs.Jobs.{cell_for}
use Rattle.ndc_model.specs.Queues.{Lane, after_renewal}
use Rattle.ndc_queue.specs.Queues.{queue_len}
use Rattle.ndc_cluster_links.proofs.IdleLemmas.{idle-lane}
use Rattle.ndc_cluster_links.specs.Links.{done_of}
use Rattle.ndc_cluster_links.proofs.DoneLemmas.{done_more}
use Rattle.ndc_cluster_links.proofs.QuietLemmas.{flights_still}
use Rattle.ndc_cluster_links.proofs.PlaceLemmas.{changed_all, changed_more, rest_more}
use Rattle.ndc_cluster_links.proofs.RestLemmas.{cell_there, len_kept, rest_there, within_there}
use Rattle.ndc_cluster_links.proofs.link.renew_lanes.Goals as goal

pub renew-done-requires-clause-first : goal.renew-done-requires-clause-first
renew-done-requires-clause-first g c =
    (within_there c.args.queues.now c.loop-shard.lanes.items c.args.lanes.now.items c.loop-shard.shard c.index-queues-shard.result c.index_mut-lane.result.now
    c.requires.within c.requires.alike (omega arith) c.loop-shard.invariant.rest c.index_mut-lane.ensures.value c.index-queues-shard.is).first_most

pub renew-done-requires-clause-last : goal.renew-done-requires-clause-last
renew-done-requires-clause-last g c =
    let it = within_there c.args.queues.now c.loop-shard.lanes.items c.args.lanes.now.items c.loop-shard.shard c.index-queues-shard.result c.index_mut-lane.result.now
    c.requires.within c.requires.alike (omega arith) c.loop-shard.invariant.rest c.index_mut-lane.ensures.value c.index-queues-shard.is in
    omega (arith, it.done_most, it.read_most)

-- a lane that is done up to the end of its queue stays
pub loop-shard-preserved-then-is_done : goal.loop-shard-preserved-then-is_done
loop-shard-preserved-then-is_done g c =
    let lane : Lane = c.index_mut-lane.result.now in
    let done : lane.levels.done ≡ queue_len c.index-queues-shard.result = c.is_done.ensures c.if-is_done.true in
    let it = within_there c.args.queues.now c.loop-shard.lanes.items c.args.lanes.now.items c.loop-shard.shard c.index-queues-shard.result lane
    c.requires.within c.requires.alike (omega arith) c.loop-shard.invariant.rest c.index_mut-lane.ensures.value c.index-queues-shard.is in
    record {
      len = length-set c.loop-shard.lanes.items c.loop-shard.shard lane ∙ c.loop-shard.invariant.len;
      rest = rest_more c.loop-shard.lanes.items c.args.lanes.now.items c.loop-shard.shard lane c.loop-shard.invariant.rest;
      flights = flights_still c.loop-shard.lanes.items c.loop-shard.shard lane lane c.index_mut-lane.ensures.value refl ∙ c.loop-shard.invariant.flights;
      done = done_more c.loop-shard.lanes.items c.loop-shard.shard c.loop-shard.done c.len-done.result lane (omega arith) c.loop-shard.invariant.done (c.len-done.ensures.len ∙ sym done);
      most = omega (arith, c.len-done.ensures.most, c.len-done.ensures.len, c.loop-shard.invariant.most);
      renewed = λ whole rests.
          changed_more _ c.loop-shard.shard c.args.lanes.now.items c.loop-shard.lanes.items lane lane (omega arith)
          (c.loop-shard.invariant.renewed whole rests) c.index_mut-lane.ensures.value
          (sym (idle-lane c.args.reader c.args.table.now (cell_for c.loop-shard.shard (map g.C.Cell.cell c.args.cells.now)) (whole c.loop-shard.shard) lane it.done_most
          (done ∙ len_kept c.index-queues-shard.result (whole c.loop-shard.shard)
          (rest_there c.args.queues.now whole c.loop-shard.shard c.index-queues-shard.result rests (omega arith) c.index-queues-shard.is))));
    }

pub loop-shard-preserved : goal.loop-shard-preserved
loop-shard-preserved g c = record {
  len = length-set c.loop-shard.lanes.items c.loop-shard.shard c.renew-done.new.self ∙ c.loop-shard.invariant.len;
  rest = rest_more c.loop-shard.lanes.items c.args.lanes.now.items c.loop-shard.shard c.renew-done.new.self c.loop-shard.invariant.rest;
  flights = flights_still c.loop-shard.lanes.items c.loop-shard.shard c.index_mut-lane.result.now c.renew-done.new.self c.index_mut-lane.ensures.value c.renew-done.ensures.flight ∙ c.loop-shard.invariant.flights;
  done = done_more c.loop-shard.lanes.items c.loop-shard.shard c.loop-shard.done c.renew-done.result c.renew-done.new.self (omega arith) c.loop-shard.invariant.done c.renew-done.ensures.done;
  most = omega (arith, c.renew-done.ensures.most, c.loop-shard.invariant.most);
  renewed = λ whole rests.
      changed_more _ c.loop-shard.shard c.args.lanes.now.items c.loop-shard.lanes.items c.index_mut-lane.result.now c.renew-done.new.self (omega arith)
      (c.loop-shard.invariant.renewed whole rests) c.index_mut-lane.ensures.value
      (c.renew-done.ensures.renewed (whole c.loop-shard.shard) (rest_there c.args.queues.now whole c.loop-shard.shard c.index-queues-shard.result rests (omega arith) c.index-queues-shard.is)
      ∙ ap (λ (cell : Cell). after_renewal c.args.reader c.args.table.now cell (whole c.loop-shard.shard) c.index_mut-lane.result.now)
      (cell_there g.C.Cell.cell c.args.cells.now c.loop-shard.shard c.index-cells-shard.result (omega arith) c.index-cells-shard.is));
}

pub returns-clause-renewed : goal.returns-clause-renewed
returns-clause-renewed g c = λ whole rests. c.loop-shard.invariant.renewed whole rests ∙ changed_all _ c.loop-shard.shard c.args.lanes.now.items (omega arith)

pub returns-clause-done : goal.returns-clause-done
returns-clause-done g c = c.loop-shard.invariant.done ∙ ap done_of (take_all c.loop-shard.shard c.loop-shard.lanes.items (omega (arith, c.loop-shard.invariant.len)))
