use Rattle.std.proofs.Common.{[], List, position, set, refl, ap, sym, ◌∙◌}
use Rattle.ndc_model.specs.World.{Link, World, is_link}
use Rattle.ndc_world_replication.proofs.FlightLemmas.{found_in, nowhere_in}
use Rattle.ndc_world_replication.proofs.LinkLemmas.{changed_there}
use Rattle.ndc_world_replication.proofs.PlaceLemmas.{none_changed}
use Rattle.ndc_world_replication.specs.Replications.{world_of}
use Rattle.ndc_world_replication.proofs.replication.Replication.end_late.Goals as goal

pub returns-in_default : goal.returns-in_default
returns-in_default g c =
    ap (λ (links : List Link). record c.args.self.now { links = links })
    (sym (none_changed (is_link c.args.reader c.args.source) (λ (link : Link). record link { late = [] }) c.args.self.now.links
    (nowhere_in c.args.reader c.args.source c.args.self.now (world_of c.self.inside.publishers.items c.self.inside.links.items c.self.inside.handovers.items) c.self.inside.links.items c.self.view_is refl
    (c.in_default.ensures ∙ ap (position (is_link c.args.reader c.args.source)) c.as_slice.ensures.value))))

pub returns : goal.returns
returns g c =
    ap (λ (v : World). record v { links = set v.links c.in-Some.at c.clear_late.new.self }) c.self.view_is
    ∙ ap (λ (links : List Link). record c.args.self.now { links = links })
    (ap (set c.args.self.now.links c.in-Some.at) c.clear_late.ensures
    ∙ sym (changed_there c.args.reader c.args.source c.args.self.now c.in-Some.at c.index_mut-link.result.now
    (found_in c.args.reader c.args.source c.args.self.now (world_of c.self.inside.publishers.items c.self.inside.links.items c.self.inside.handovers.items) c.self.inside.links.items c.in-Some.at c.index_mut-link.result.now c.self.view_is refl
    (c.in-Some.ensures ∙ ap (position (is_link c.args.reader c.args.source)) c.as_slice.ensures.value) c.index_mut-link.ensures.value)
    (λ (link : Link). record link { late = [] })))
