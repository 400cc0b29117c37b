use Rattle.std.proofs.Common.{◌≡◌, List, length, set, sum, ap, sym, subst, ◌∙◌}
use Rattle.std.specs.List.{AllByRecursion}
use Rattle.ndc_model.specs.Moves.{map_from}
use Rattle.ndc_model.specs.World.{Link}
use Rattle.ndc_world_replication.proofs.TrimLemmas.{dropped_there, lanes_there, trimmed_there}
use Rattle.ndc_world_replication.specs.Replications.{world_of}
use Rattle.ndc_world_replication.specs.Trims.{dropped_now, raised_level, with_trimmed}
use Rattle.ndc_world_replication.proofs.replication.Replication.trim.Goals as goal

pub trim_publisher-requires : goal.trim_publisher-requires
trim_publisher-requires g c =
    subst (AllByRecursion (λ (link : Link). length link.lanes ≡ length c.index_mut-publisher.result.now.cluster.cells)) (sym c.as_slice.ensures.value)
    (lanes_there c.args.header.now c.args.self.now c.self.inside.publishers.items c.self.inside.links.items c.self.inside.handovers.items c.args.source c.index_mut-publisher.result.now c.self.view_is c.requires.source c.requires.orderly c.index_mut-publisher.ensures.value)

pub returns-clause-trimmed : goal.returns-clause-trimmed
returns-clause-trimmed g c =
    let publisher = c.index_mut-publisher.result.now in
    ap (λ s. world_of (set c.self.inside.publishers.items c.args.source.number s) c.self.inside.links.items c.self.inside.handovers.items)
    (c.trim_publisher.ensures.trimmed ∙ ap (λ (links : List Link). with_trimmed (map_from (raised_level c.args.source links publisher.cluster.cells) 0 publisher.trimmed) publisher) c.as_slice.ensures.value)
    ∙ trimmed_there c.args.header.now c.args.self.now c.self.inside.publishers.items c.self.inside.links.items c.self.inside.handovers.items c.args.source publisher c.self.view_is c.requires.source c.requires.orderly c.index_mut-publisher.ensures.value

pub returns-clause-count : goal.returns-clause-count
returns-clause-count g c =
    let publisher = c.index_mut-publisher.result.now in
    c.trim_publisher.ensures.count ∙ ap (λ (links : List Link). sum (map_from (dropped_now c.args.source links publisher.cluster.cells) 0 publisher.trimmed)) c.as_slice.ensures.value
    ∙ dropped_there c.args.header.now c.args.self.now c.self.inside.publishers.items c.self.inside.links.items c.self.inside.handovers.items c.args.source publisher c.self.view_is c.requires.source c.requires.orderly c.index_mut-publisher.ensures.value
