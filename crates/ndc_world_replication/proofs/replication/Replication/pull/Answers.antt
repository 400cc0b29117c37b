use Rattle.std.proofs.Common.{None, position, set, sum, refl, ap, sym, ◌∙◌}
use Rattle.ndc_model_cells.specs.Jobs.{cell_for}
use Rattle.ndc_model.specs.Moves.{map_from}
use Rattle.ndc_model.specs.Sending.{pull_count}
use Rattle.ndc_model.specs.World.{Link, World, is_link}
use Rattle.ndc_world_replication.proofs.FlightLemmas.{found_in, nowhere_in}
use Rattle.ndc_world_replication.proofs.LinkLemmas.{counted_nowhere, counted_there, holds_there, lanes_alike, lanes_within, link_is, pulled_nowhere, pulled_there, pulled_world}
use Rattle.ndc_world_replication.specs.Replications.{world_of}
use Rattle.ndc_world_replication.proofs.replication.Replication.pull.Goals as goal

pub returns-in_default-clause-pulled : goal.returns-in_default-clause-pulled
returns-in_default-clause-pulled g c = pulled_nowhere c.args.reader c.args.source c.args.self.now (nowhere_in c.args.reader c.args.source c.args.self.now (world_of c.self.inside.publishers.items c.self.inside.links.items c.self.inside.handovers.items) c.self.inside.links.items c.self.view_is refl (c.in_default.ensures ∙ ap (position (is_link c.args.reader c.args.source)) c.as_slice.ensures.value))

pub returns-in_default-clause-count : goal.returns-in_default-clause-count
returns-in_default-clause-count g c = sym (counted_nowhere c.args.reader c.args.source c.args.self.now (nowhere_in c.args.reader c.args.source c.args.self.now (world_of c.self.inside.publishers.items c.self.inside.links.items c.self.inside.handovers.items) c.self.inside.links.items c.self.view_is refl (c.in_default.ensures ∙ ap (position (is_link c.args.reader c.args.source)) c.as_slice.ensures.value)))

pub pull-requires-clause-alike : goal.pull-requires-clause-alike
pull-requires-clause-alike g c = lanes_alike c.args.header.now c.args.self.now c.in-Some.place c.index_mut-link.result.now c.index-publisher.result.now c.queues.result.now (holds_there c.args.header.now c.args.reader c.args.source c.args.self.now c.self.inside.publishers.items c.self.inside.links.items c.self.inside.handovers.items c.in-Some.place
    c.index_mut-link.result.now c.index-publisher.result.now c.queues.result.now c.self.view_is c.requires.source c.requires.orderly.shaped c.requires.orderly.lanes
    (found_in c.args.reader c.args.source c.args.self.now (world_of c.self.inside.publishers.items c.self.inside.links.items c.self.inside.handovers.items) c.self.inside.links.items c.in-Some.place c.index_mut-link.result.now
    c.self.view_is refl (c.in-Some.ensures ∙ ap (position (is_link c.args.reader c.args.source)) c.as_slice.ensures.value) c.index_mut-link.ensures.value) c.index-publisher.ensures c.queues.ensures.alike c.queues.ensures.rests c.queues.ensures.trimmed)

pub pull-requires-clause-within : goal.pull-requires-clause-within
pull-requires-clause-within g c = lanes_within c.args.header.now c.args.self.now c.in-Some.place c.index_mut-link.result.now c.index-publisher.result.now c.queues.result.now (holds_there c.args.header.now c.args.reader c.args.source c.args.self.now c.self.inside.publishers.items c.self.inside.links.items c.self.inside.handovers.items c.in-Some.place
    c.index_mut-link.result.now c.index-publisher.result.now c.queues.result.now c.self.view_is c.requires.source c.requires.orderly.shaped c.requires.orderly.lanes
    (found_in c.args.reader c.args.source c.args.self.now (world_of c.self.inside.publishers.items c.self.inside.links.items c.self.inside.handovers.items) c.self.inside.links.items c.in-Some.place c.index_mut-link.result.now
    c.self.view_is refl (c.in-Some.ensures ∙ ap (position (is_link c.args.reader c.args.source)) c.as_slice.ensures.value) c.index_mut-link.ensures.value) c.index-publisher.ensures c.queues.ensures.alike c.queues.ensures.rests c.queues.ensures.trimmed)

pub returns-clause-pulled : goal.returns-clause-pulled
returns-clause-pulled g c =
    ap (λ (v : World). record v { links = set v.links c.in-Some.place c.pull.new.self }) c.self.view_is
    ∙ pulled_world c.args.reader c.args.source c.args.self.now c.in-Some.place c.index_mut-link.result.now (found_in c.args.reader c.args.source c.args.self.now (world_of c.self.inside.publishers.items c.self.inside.links.items c.self.inside.handovers.items) c.self.inside.links.items c.in-Some.place c.index_mut-link.result.now
    c.self.view_is refl (c.in-Some.ensures ∙ ap (position (is_link c.args.reader c.args.source)) c.as_slice.ensures.value) c.index_mut-link.ensures.value) c.pull.new.self
    (c.in_ok-sent.ensures.pulled (λ shard. (cell_for shard c.index-publisher.result.now.cluster.cells).written) c.queues.ensures.rests ∙ pulled_there c.args.header.now c.args.self.now c.in-Some.place c.index_mut-link.result.now c.index-publisher.result.now c.queues.result.now (holds_there c.args.header.now c.args.reader c.args.source c.args.self.now c.self.inside.publishers.items c.self.inside.links.items c.self.inside.handovers.items c.in-Some.place
    c.index_mut-link.result.now c.index-publisher.result.now c.queues.result.now c.self.view_is c.requires.source c.requires.orderly.shaped c.requires.orderly.lanes
    (found_in c.args.reader c.args.source c.args.self.now (world_of c.self.inside.publishers.items c.self.inside.links.items c.self.inside.handovers.items) c.self.inside.links.items c.in-Some.place c.index_mut-link.result.now
    c.self.view_is refl (c.in-Some.ensures ∙ ap (position (is_link c.args.reader c.args.source)) c.as_slice.ensures.value) c.index_mut-link.ensures.value) c.index-publisher.ensures c.queues.ensures.alike c.queues.ensures.rests c.queues.ensures.trimmed) c.table.result.now c.table.ensures)

pub returns-clause-count : goal.returns-clause-count
returns-clause-count g c =
    c.in_ok-sent.ensures.count (λ shard. (cell_for shard c.index-publisher.result.now.cluster.cells).written) c.queues.ensures.rests
    ∙ ap sum (counted_there c.args.header.now c.args.self.now c.in-Some.place c.index_mut-link.result.now c.index-publisher.result.now c.queues.result.now (holds_there c.args.header.now c.args.reader c.args.source c.args.self.now c.self.inside.publishers.items c.self.inside.links.items c.self.inside.handovers.items c.in-Some.place
    c.index_mut-link.result.now c.index-publisher.result.now c.queues.result.now c.self.view_is c.requires.source c.requires.orderly.shaped c.requires.orderly.lanes
    (found_in c.args.reader c.args.source c.args.self.now (world_of c.self.inside.publishers.items c.self.inside.links.items c.self.inside.handovers.items) c.self.inside.links.items c.in-Some.place c.index_mut-link.result.now
    c.self.view_is refl (c.in-Some.ensures ∙ ap (position (is_link c.args.reader c.args.source)) c.as_slice.ensures.value) c.index_mut-link.ensures.value) c.index-publisher.ensures c.queues.ensures.alike c.queues.ensures.rests c.queues.ensures.trimmed) c.table.result.now c.table.ensures)
    ∙ ap (λ (link : Link). sum (map_from (pull_count c.args.self.now None link) 0 link.lanes)) (sym (link_is c.args.reader c.args.source c.args.self.now c.in-Some.place c.index_mut-link.result.now (found_in c.args.reader c.args.source c.args.self.now (world_of c.self.inside.publishers.items c.self.inside.links.items c.self.inside.handovers.items) c.self.inside.links.items c.in-Some.place c.index_mut-link.result.now
    c.self.view_is refl (c.in-Some.ensures ∙ ap (position (is_link c.args.reader c.args.source)) c.as_slice.ensures.value) c.index_mut-link.ensures.value)))
