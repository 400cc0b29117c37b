use Rattle.std.proofs.Common.{Some, position, length, set, refl, ap, sym, ◌∙◌, arith}
use Rattle.ndc_model_cells.specs.Jobs.{cell_for}
use Rattle.ndc_model.specs.Sending.{pull_count}
use Rattle.ndc_model.specs.World.{Link, World, is_link, lane_in}
use Rattle.ndc_world_replication.proofs.FlightLemmas.{found_in, nowhere_in}
use Rattle.ndc_world_replication.proofs.LinkLemmas.{cells_many, counted_some_there, holds_there, link_is, not_nowhere, pulled_some_there, pulled_some_world, rest_there, stands_by, within_there}
use Rattle.ndc_world_replication.specs.Replications.{world_of}
use Rattle.ndc_world_replication.proofs.replication.Replication.pull_some.Goals as goal

pub returns-in_default-clause-pulled : goal.returns-in_default-clause-pulled
returns-in_default-clause-pulled g c = not_nowhere c.args.header.now c.args.self.now c.args.reader c.args.source c.requires.orderly.shaped c.requires.ends
    (nowhere_in c.args.reader c.args.source c.args.self.now (world_of c.self.inside.publishers.items c.self.inside.links.items c.self.inside.handovers.items) c.self.inside.links.items c.self.view_is refl
    (c.in_default.ensures ∙ ap (position (is_link c.args.reader c.args.source)) c.as_slice.ensures.value))

pub returns-in_default-clause-count : goal.returns-in_default-clause-count
returns-in_default-clause-count g c = not_nowhere c.args.header.now c.args.self.now c.args.reader c.args.source c.requires.orderly.shaped c.requires.ends
    (nowhere_in c.args.reader c.args.source c.args.self.now (world_of c.self.inside.publishers.items c.self.inside.links.items c.self.inside.handovers.items) c.self.inside.links.items c.self.view_is refl
    (c.in_default.ensures ∙ ap (position (is_link c.args.reader c.args.source)) c.as_slice.ensures.value))

pub bounds-queues-shard : goal.bounds-queues-shard
bounds-queues-shard g c =
    omega (
      arith,
      c.requires.shard,
      ap length c.as_slice-queues.ensures,
      c.queues.ensures.alike,
      cells_many c.args.header.now c.args.self.now c.args.source c.index-publisher.result.now c.requires.orderly.shaped c.requires.ends.second
          (stands_by c.args.header.now c.args.self.now c.self.inside.publishers.items c.self.inside.links.items c.self.inside.handovers.items c.args.source c.index-publisher.result.now c.self.view_is c.requires.orderly.shaped c.requires.ends.second c.index-publisher.ensures),
    )

pub pull_some-requires-clause-within : goal.pull_some-requires-clause-within
pull_some-requires-clause-within g c = within_there c.args.header.now c.args.self.now c.in-Some.place c.index_mut-link.result.now c.index-publisher.result.now c.queues.result.now
    (holds_there c.args.header.now c.args.reader c.args.source c.args.self.now c.self.inside.publishers.items c.self.inside.links.items c.self.inside.handovers.items c.in-Some.place
    c.index_mut-link.result.now c.index-publisher.result.now c.queues.result.now c.self.view_is c.requires.ends.second c.requires.orderly.shaped c.requires.orderly.lanes
    (found_in c.args.reader c.args.source c.args.self.now (world_of c.self.inside.publishers.items c.self.inside.links.items c.self.inside.handovers.items) c.self.inside.links.items c.in-Some.place
    c.index_mut-link.result.now c.self.view_is refl (c.in-Some.ensures ∙ ap (position (is_link c.args.reader c.args.source)) c.as_slice.ensures.value) c.index_mut-link.ensures.value)
    c.index-publisher.ensures c.queues.ensures.alike c.queues.ensures.rests c.queues.ensures.trimmed)
    c.args.shard c.as_slice-queues.result.now c.index-queues-shard.result c.requires.shard c.as_slice-queues.ensures c.index-queues-shard.is

pub returns-clause-pulled : goal.returns-clause-pulled
returns-clause-pulled g c =
    ap (λ (v : World). record v { links = set v.links c.in-Some.place c.pull_some.new.self }) c.self.view_is
    ∙ pulled_some_world c.args.reader c.args.source c.args.self.now c.in-Some.place c.index_mut-link.result.now (found_in c.args.reader c.args.source c.args.self.now (world_of c.self.inside.publishers.items c.self.inside.links.items c.self.inside.handovers.items) c.self.inside.links.items c.in-Some.place
    c.index_mut-link.result.now c.self.view_is refl (c.in-Some.ensures ∙ ap (position (is_link c.args.reader c.args.source)) c.as_slice.ensures.value) c.index_mut-link.ensures.value) c.args.shard c.args.count c.pull_some.new.self
    (c.in_ok-sent.ensures.pulled (cell_for c.args.shard c.index-publisher.result.now.cluster.cells).written
    (rest_there c.args.header.now c.args.self.now c.in-Some.place c.index_mut-link.result.now c.index-publisher.result.now c.queues.result.now
    (holds_there c.args.header.now c.args.reader c.args.source c.args.self.now c.self.inside.publishers.items c.self.inside.links.items c.self.inside.handovers.items c.in-Some.place
    c.index_mut-link.result.now c.index-publisher.result.now c.queues.result.now c.self.view_is c.requires.ends.second c.requires.orderly.shaped c.requires.orderly.lanes
    (found_in c.args.reader c.args.source c.args.self.now (world_of c.self.inside.publishers.items c.self.inside.links.items c.self.inside.handovers.items) c.self.inside.links.items c.in-Some.place
    c.index_mut-link.result.now c.self.view_is refl (c.in-Some.ensures ∙ ap (position (is_link c.args.reader c.args.source)) c.as_slice.ensures.value) c.index_mut-link.ensures.value)
    c.index-publisher.ensures c.queues.ensures.alike c.queues.ensures.rests c.queues.ensures.trimmed)
    c.args.shard c.as_slice-queues.result.now c.index-queues-shard.result c.requires.shard c.as_slice-queues.ensures c.index-queues-shard.is)
    ∙ pulled_some_there c.args.header.now c.args.self.now c.in-Some.place c.index_mut-link.result.now c.index-publisher.result.now c.queues.result.now
    (holds_there c.args.header.now c.args.reader c.args.source c.args.self.now c.self.inside.publishers.items c.self.inside.links.items c.self.inside.handovers.items c.in-Some.place
    c.index_mut-link.result.now c.index-publisher.result.now c.queues.result.now c.self.view_is c.requires.ends.second c.requires.orderly.shaped c.requires.orderly.lanes
    (found_in c.args.reader c.args.source c.args.self.now (world_of c.self.inside.publishers.items c.self.inside.links.items c.self.inside.handovers.items) c.self.inside.links.items c.in-Some.place
    c.index_mut-link.result.now c.self.view_is refl (c.in-Some.ensures ∙ ap (position (is_link c.args.reader c.args.source)) c.as_slice.ensures.value) c.index_mut-link.ensures.value)
    c.index-publisher.ensures c.queues.ensures.alike c.queues.ensures.rests c.queues.ensures.trimmed)
    c.args.shard c.args.count c.table.result.now c.table.ensures)

pub returns-clause-count : goal.returns-clause-count
returns-clause-count g c =
    c.in_ok-sent.ensures.count (cell_for c.args.shard c.index-publisher.result.now.cluster.cells).written
    (rest_there c.args.header.now c.args.self.now c.in-Some.place c.index_mut-link.result.now c.index-publisher.result.now c.queues.result.now
    (holds_there c.args.header.now c.args.reader c.args.source c.args.self.now c.self.inside.publishers.items c.self.inside.links.items c.self.inside.handovers.items c.in-Some.place
    c.index_mut-link.result.now c.index-publisher.result.now c.queues.result.now c.self.view_is c.requires.ends.second c.requires.orderly.shaped c.requires.orderly.lanes
    (found_in c.args.reader c.args.source c.args.self.now (world_of c.self.inside.publishers.items c.self.inside.links.items c.self.inside.handovers.items) c.self.inside.links.items c.in-Some.place
    c.index_mut-link.result.now c.self.view_is refl (c.in-Some.ensures ∙ ap (position (is_link c.args.reader c.args.source)) c.as_slice.ensures.value) c.index_mut-link.ensures.value)
    c.index-publisher.ensures c.queues.ensures.alike c.queues.ensures.rests c.queues.ensures.trimmed)
    c.args.shard c.as_slice-queues.result.now c.index-queues-shard.result c.requires.shard c.as_slice-queues.ensures c.index-queues-shard.is)
    ∙ counted_some_there c.args.header.now c.args.self.now c.in-Some.place c.index_mut-link.result.now c.index-publisher.result.now c.queues.result.now
    (holds_there c.args.header.now c.args.reader c.args.source c.args.self.now c.self.inside.publishers.items c.self.inside.links.items c.self.inside.handovers.items c.in-Some.place
    c.index_mut-link.result.now c.index-publisher.result.now c.queues.result.now c.self.view_is c.requires.ends.second c.requires.orderly.shaped c.requires.orderly.lanes
    (found_in c.args.reader c.args.source c.args.self.now (world_of c.self.inside.publishers.items c.self.inside.links.items c.self.inside.handovers.items) c.self.inside.links.items c.in-Some.place
    c.index_mut-link.result.now c.self.view_is refl (c.in-Some.ensures ∙ ap (position (is_link c.args.reader c.args.source)) c.as_slice.ensures.value) c.index_mut-link.ensures.value)
    c.index-publisher.ensures c.queues.ensures.alike c.queues.ensures.rests c.queues.ensures.trimmed)
    c.args.shard c.args.count c.table.result.now c.table.ensures
    ∙ ap (λ (link : Link). pull_count c.args.self.now (Some c.args.count) link c.args.shard (lane_in link c.args.shard)) (sym (link_is c.args.reader c.args.source c.args.self.now c.in-Some.place c.index_mut-link.result.now
    (found_in c.args.reader c.args.source c.args.self.now (world_of c.self.inside.publishers.items c.self.inside.links.items c.self.inside.handovers.items) c.self.inside.links.items c.in-Some.place
    c.index_mut-link.result.now c.self.view_is refl (c.in-Some.ensures ∙ ap (position (is_link c.args.reader c.args.source)) c.as_slice.ensures.value) c.index_mut-link.ensures.value)))
