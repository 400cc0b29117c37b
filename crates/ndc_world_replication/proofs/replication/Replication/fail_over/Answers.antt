use Rattle.std.proofs.Common.{◌<◌, length, ap, refl, arith}
use Rattle.std.proofs.lemmas.List.{length-map}
use Rattle.ndc_domain.specs.Records.{failover_of}
use Rattle.ndc_model.specs.World.{World}
use Rattle.ndc_world_replication.proofs.RecordLemmas.{answers_at, failover_quiet}
use Rattle.ndc_world_replication.specs.Publishers.{PublisherValue}
use Rattle.ndc_world_replication.proofs.replication.Replication.fail_over.Goals as goal

pub returns-clause-answer : goal.returns-clause-answer
returns-clause-answer g c =
    let below : c.args.at.number < length c.self.inside.publishers.items =
    omega (arith, c.requires, ap (λ (v : World). length v.clusters) c.self.view_is, length-map c.self.inside.publishers.items (λ (s : PublisherValue). s.cluster)) in
    answers_at c.self.inside.publishers.items c.self.inside.links.items c.self.inside.handovers.items c.args.at c.index_mut-publisher.result.now below c.index_mut-publisher.ensures.value
    c.fail_over.result (failover_of c.args.header.now.clusters c.args.domain.now c.args.target) c.args.self.now _ c.fail_over.new.self c.self.view_is c.fail_over.ensures.rest refl c.fail_over.ensures.ordered c.fail_over.ensures.answer
    (λ version ok. failover_quiet c.args.header.now.clusters c.args.domain.now c.args.target c.index_mut-publisher.result.now.cluster.table version c.fail_over.new.self.cluster.table c.fail_over.ensures.ordered ok)
