use Rattle.std.proofs.Common.{◌≤◌, Some, length, position, set, refl, ap, sym, ◌∙◌, arith}
use Rattle.ndc_model.specs.World.{World, is_link}
use Rattle.ndc_queue.specs.Lists.{after_loss}
use Rattle.ndc_world_replication.proofs.FlightLemmas.{changed_flight, found_in, none_nowhere, none_past, none_there, nowhere_in}
use Rattle.ndc_world_replication.specs.Replications.{world_of}
use Rattle.ndc_world_replication.proofs.replication.Replication.lose.Goals as goal

pub returns-in_default-clause-lost : goal.returns-in_default-clause-lost
returns-in_default-clause-lost g c = none_nowhere c.args.reader c.args.source c.args.self.now c.args.shard (after_loss c.args.place) (nowhere_in c.args.reader c.args.source c.args.self.now (world_of c.self.inside.publishers.items c.self.inside.links.items c.self.inside.handovers.items) c.self.inside.links.items c.self.view_is refl (c.in_default.ensures ∙ (ap (position (is_link c.args.reader c.args.source)) c.as_slice.ensures.value))) refl

pub returns-then-lanes-shard-clause-lost : goal.returns-then-lanes-shard-clause-lost
returns-then-lanes-shard-clause-lost g c =
    let past : length c.index_mut-link.result.now.lanes ≤ c.args.shard = omega (arith, ap length c.lanes.ensures.lanes, c.if-lanes-shard.true) in
    none_past c.args.reader c.args.source c.args.self.now c.in-Some.at c.index_mut-link.result.now (found_in c.args.reader c.args.source c.args.self.now (world_of c.self.inside.publishers.items c.self.inside.links.items c.self.inside.handovers.items) c.self.inside.links.items c.in-Some.at c.index_mut-link.result.now c.self.view_is refl (c.in-Some.ensures ∙ (ap (position (is_link c.args.reader c.args.source)) c.as_slice.ensures.value)) c.index_mut-link.ensures.value) c.args.shard (after_loss c.args.place) past refl

pub returns-in-Err-clause-lost : goal.returns-in-Err-clause-lost
returns-in-Err-clause-lost g c = none_there c.args.reader c.args.source c.args.self.now c.in-Some.at c.index_mut-link.result.now (found_in c.args.reader c.args.source c.args.self.now (world_of c.self.inside.publishers.items c.self.inside.links.items c.self.inside.handovers.items) c.self.inside.links.items c.in-Some.at c.index_mut-link.result.now c.self.view_is refl (c.in-Some.ensures ∙ (ap (position (is_link c.args.reader c.args.source)) c.as_slice.ensures.value)) c.index_mut-link.ensures.value) c.args.shard (after_loss c.args.place) c.in-Err.ensures.lost

pub returns-clause-lost : goal.returns-clause-lost
returns-clause-lost g c =
    changed_flight c.args.reader c.args.source c.args.self.now c.in-Some.at c.index_mut-link.result.now (found_in c.args.reader c.args.source c.args.self.now (world_of c.self.inside.publishers.items c.self.inside.links.items c.self.inside.handovers.items) c.self.inside.links.items c.in-Some.at c.index_mut-link.result.now c.self.view_is refl (c.in-Some.ensures ∙ (ap (position (is_link c.args.reader c.args.source)) c.as_slice.ensures.value)) c.index_mut-link.ensures.value) c.args.shard (after_loss c.args.place) c.lose.new.self c.in-Ok.ensures.lost c.lose.ensures.rest
    ∙ ap (λ (v : World). Some (record v { links = set v.links c.in-Some.at c.lose.new.self })) (sym c.self.view_is)
