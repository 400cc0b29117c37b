use Rattle.std.proofs.Common.{◌≤◌, Some, length, position, set, refl, ap, sym, ◌∙◌, arith}
use Rattle.ndc_model.specs.World.{World, is_link}
use Rattle.ndc_queue.specs.Lists.{after_repeat}
use Rattle.ndc_world_replication.proofs.FlightLemmas.{changed_flight, found_in, none_nowhere, none_past, none_there, nowhere_in}
use Rattle.ndc_world_replication.specs.Replications.{world_of}
use Rattle.ndc_world_replication.proofs.replication.Replication.repeat.Goals as goal

pub returns-in_default-clause-refused : goal.returns-in_default-clause-refused
returns-in_default-clause-refused g c = λ other. none_nowhere c.args.reader c.args.source c.args.self.now c.args.shard (after_repeat c.args.place) (nowhere_in c.args.reader c.args.source c.args.self.now (world_of c.self.inside.publishers.items c.self.inside.links.items c.self.inside.handovers.items) c.self.inside.links.items c.self.view_is refl (c.in_default.ensures ∙ (ap (position (is_link c.args.reader c.args.source)) c.as_slice.ensures.value))) refl

pub returns-then-lanes-shard-clause-refused : goal.returns-then-lanes-shard-clause-refused
returns-then-lanes-shard-clause-refused g c = λ other.
    let past : length c.index_mut-link.result.now.lanes ≤ c.args.shard = omega (arith, ap length c.lanes.ensures.lanes, c.if-lanes-shard.true) in
    none_past c.args.reader c.args.source c.args.self.now c.in-Some.at c.index_mut-link.result.now (found_in c.args.reader c.args.source c.args.self.now (world_of c.self.inside.publishers.items c.self.inside.links.items c.self.inside.handovers.items) c.self.inside.links.items c.in-Some.at c.index_mut-link.result.now c.self.view_is refl (c.in-Some.ensures ∙ (ap (position (is_link c.args.reader c.args.source)) c.as_slice.ensures.value)) c.index_mut-link.ensures.value) c.args.shard (after_repeat c.args.place) past refl

pub returns-in-Err-clause-refused : goal.returns-in-Err-clause-refused
returns-in-Err-clause-refused g c = λ other. none_there c.args.reader c.args.source c.args.self.now c.in-Some.at c.index_mut-link.result.now (found_in c.args.reader c.args.source c.args.self.now (world_of c.self.inside.publishers.items c.self.inside.links.items c.self.inside.handovers.items) c.self.inside.links.items c.in-Some.at c.index_mut-link.result.now c.self.view_is refl (c.in-Some.ensures ∙ (ap (position (is_link c.args.reader c.args.source)) c.as_slice.ensures.value)) c.index_mut-link.ensures.value) c.args.shard (after_repeat c.args.place) (c.in-Err.ensures.refused other)

pub returns-clause-repeated : goal.returns-clause-repeated
returns-clause-repeated g c =
    changed_flight c.args.reader c.args.source c.args.self.now c.in-Some.at c.index_mut-link.result.now (found_in c.args.reader c.args.source c.args.self.now (world_of c.self.inside.publishers.items c.self.inside.links.items c.self.inside.handovers.items) c.self.inside.links.items c.in-Some.at c.index_mut-link.result.now c.self.view_is refl (c.in-Some.ensures ∙ (ap (position (is_link c.args.reader c.args.source)) c.as_slice.ensures.value)) c.index_mut-link.ensures.value) c.args.shard (after_repeat c.args.place) c.repeat.new.self c.in-Ok.ensures.repeated c.repeat.ensures.rest
    ∙ ap (λ (v : World). Some (record v { links = set v.links c.in-Some.at c.repeat.new.self })) (sym c.self.view_is)
