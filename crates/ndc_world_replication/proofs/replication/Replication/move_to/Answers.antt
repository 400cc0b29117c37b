use Rattle.std.proofs.Common.{◌≤◌, Some, length, position, set, refl, ap, sym, ◌∙◌, arith}
use Rattle.ndc_model.specs.World.{World, is_link}
use Rattle.ndc_queue.specs.Lists.{after_move}
use Rattle.ndc_world_replication.proofs.FlightLemmas.{changed_flight, found_in, none_moved, none_nowhere, none_past, none_there, nowhere_in}
use Rattle.ndc_world_replication.specs.Replications.{world_of}
use Rattle.ndc_world_replication.proofs.replication.Replication.move_to.Goals as goal

pub returns-in_default-clause-moved : goal.returns-in_default-clause-moved
returns-in_default-clause-moved g c = none_nowhere c.args.reader c.args.source c.args.self.now c.args.shard (after_move c.args.from c.args.to) (nowhere_in c.args.reader c.args.source c.args.self.now (world_of c.self.inside.publishers.items c.self.inside.links.items c.self.inside.handovers.items) c.self.inside.links.items c.self.view_is refl (c.in_default.ensures ∙ (ap (position (is_link c.args.reader c.args.source)) c.as_slice.ensures.value))) (none_moved c.args.from c.args.to)

pub returns-then-lanes-shard-clause-moved : goal.returns-then-lanes-shard-clause-moved
returns-then-lanes-shard-clause-moved g c =
    let past : length c.index_mut-link.result.now.lanes ≤ c.args.shard = omega (arith, ap length c.lanes.ensures.lanes, c.if-lanes-shard.true) in
    none_past c.args.reader c.args.source c.args.self.now c.in-Some.at c.index_mut-link.result.now (found_in c.args.reader c.args.source c.args.self.now (world_of c.self.inside.publishers.items c.self.inside.links.items c.self.inside.handovers.items) c.self.inside.links.items c.in-Some.at c.index_mut-link.result.now c.self.view_is refl (c.in-Some.ensures ∙ (ap (position (is_link c.args.reader c.args.source)) c.as_slice.ensures.value)) c.index_mut-link.ensures.value) c.args.shard (after_move c.args.from c.args.to) past (none_moved c.args.from c.args.to)

pub returns-in-Err-clause-moved : goal.returns-in-Err-clause-moved
returns-in-Err-clause-moved g c = none_there c.args.reader c.args.source c.args.self.now c.in-Some.at c.index_mut-link.result.now (found_in c.args.reader c.args.source c.args.self.now (world_of c.self.inside.publishers.items c.self.inside.links.items c.self.inside.handovers.items) c.self.inside.links.items c.in-Some.at c.index_mut-link.result.now c.self.view_is refl (c.in-Some.ensures ∙ (ap (position (is_link c.args.reader c.args.source)) c.as_slice.ensures.value)) c.index_mut-link.ensures.value) c.args.shard (after_move c.args.from c.args.to) c.in-Err.ensures.moved

pub returns-clause-moved : goal.returns-clause-moved
returns-clause-moved g c =
    changed_flight c.args.reader c.args.source c.args.self.now c.in-Some.at c.index_mut-link.result.now (found_in c.args.reader c.args.source c.args.self.now (world_of c.self.inside.publishers.items c.self.inside.links.items c.self.inside.handovers.items) c.self.inside.links.items c.in-Some.at c.index_mut-link.result.now c.self.view_is refl (c.in-Some.ensures ∙ (ap (position (is_link c.args.reader c.args.source)) c.as_slice.ensures.value)) c.index_mut-link.ensures.value) c.args.shard (after_move c.args.from c.args.to) c.move_to.new.self c.in-Ok.ensures.moved c.move_to.ensures.rest
    ∙ ap (λ (v : World). Some (record v { links = set v.links c.in-Some.at c.move_to.new.self })) (sym c.self.view_is)
