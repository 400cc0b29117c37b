use Rattle.std.proofs.Common.{◌<◌, length, ap, refl, arith}
use Rattle.std.proofs.lemmas.List.{length-map}
use Rattle.ndc_domain.specs.Records.{retain_of}
use Rattle.ndc_model.specs.World.{World}
use Rattle.ndc_world_replication.proofs.RecordLemmas.{answers_at, retain_quiet}
use Rattle.ndc_world_replication.specs.Publishers.{PublisherValue}
use Rattle.ndc_world_replication.proofs.replication.Replication.retain.Goals as goal

pub returns-clause-answer : goal.returns-clause-answer
returns-clause-answer g c =
    let below : c.args.at.number < length c.self.inside.publishers.items =
    omega (arith, c.requires.at, ap (λ (v : World). length v.clusters) c.self.view_is, length-map c.self.inside.publishers.items (λ (s : PublisherValue). s.cluster)) in
    answers_at c.self.inside.publishers.items c.self.inside.links.items c.self.inside.handovers.items c.args.at c.index_mut-publisher.result.now below c.index_mut-publisher.ensures.value
    c.retain.result (retain_of c.args.at c.args.domain.now c.args.days) c.args.self.now _ c.retain.new.self c.self.view_is c.retain.ensures.rest refl c.retain.ensures.ordered c.retain.ensures.answer
    (λ config ok. retain_quiet c.args.at c.args.domain.now c.args.days c.index_mut-publisher.result.now.cluster.table config c.retain.new.self.cluster.table c.retain.ensures.ordered ok)
