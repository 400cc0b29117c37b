use Rattle.std.proofs.Common.{position, set, refl, ap, ◌∙◌}
use Rattle.ndc_model.specs.World.{World, is_link}
use Rattle.ndc_world_replication.proofs.FlightLemmas.{found_in, nowhere_in, rewound_nowhere, rewound_world}
use Rattle.ndc_world_replication.specs.Replications.{world_of}
use Rattle.ndc_world_replication.proofs.replication.Replication.rewind.Goals as goal

pub returns-in_default : goal.returns-in_default
returns-in_default g c = rewound_nowhere c.args.reader c.args.source c.args.self.now (nowhere_in c.args.reader c.args.source c.args.self.now (world_of c.self.inside.publishers.items c.self.inside.links.items c.self.inside.handovers.items) c.self.inside.links.items c.self.view_is refl (c.in_default.ensures ∙ (ap (position (is_link c.args.reader c.args.source)) c.as_slice.ensures.value)))

pub returns : goal.returns
returns g c =
    ap (λ (v : World). record v { links = set v.links c.in-Some.at c.rewind.new.self }) c.self.view_is
    ∙ rewound_world c.args.reader c.args.source c.args.self.now c.in-Some.at c.index_mut-link.result.now (found_in c.args.reader c.args.source c.args.self.now (world_of c.self.inside.publishers.items c.self.inside.links.items c.self.inside.handovers.items) c.self.inside.links.items c.in-Some.at c.index_mut-link.result.now c.self.view_is refl (c.in-Some.ensures ∙ (ap (position (is_link c.args.reader c.args.source)) c.as_slice.ensures.value)) c.index_mut-link.ensures.value) c.rewind.new.self c.rewind.ensures
