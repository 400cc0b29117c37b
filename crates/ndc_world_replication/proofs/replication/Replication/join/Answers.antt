use Rattle.std.proofs.Common.{◌<◌, length, ap, refl, arith}
use Rattle.std.proofs.lemmas.List.{length-map}
use Rattle.ndc_model.specs.World.{World}
use Rattle.ndc_world_replication.proofs.RecordLemmas.{joined_at}
use Rattle.ndc_world_replication.specs.Publishers.{PublisherValue}
use Rattle.ndc_world_replication.proofs.replication.Replication.join.Goals as goal

pub returns-clause-answer : goal.returns-clause-answer
returns-clause-answer g c =
    let below : c.args.at.number < length c.self.inside.publishers.items =
    omega (arith, c.requires.at, ap (λ (v : World). length v.clusters) c.self.view_is, length-map c.self.inside.publishers.items (λ (s : PublisherValue). s.cluster)) in
    joined_at c.self.inside.publishers.items c.self.inside.links.items c.self.inside.handovers.items c.args.at c.index_mut-publisher.result.now below c.index_mut-publisher.ensures.value
    c.args.domain.now c.args.member c.args.self.now _ c.join.new.self c.add_late.new.links.items c.self.view_is c.requires.member c.join.ensures.rest refl c.join.ensures.ordered c.in_ok-add_late.ensures c.in_default.ensures.answer
