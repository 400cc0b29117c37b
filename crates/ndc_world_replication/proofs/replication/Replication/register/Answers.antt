use Rattle.std.proofs.Common.{◌<◌, length, ap, refl, arith}
use Rattle.std.proofs.lemmas.List.{length-map}
use Rattle.ndc_domain.specs.Records.{register_of}
use Rattle.ndc_domain.specs.declared.record.DomainError.TheVariants as register_error
use Rattle.ndc_model.specs.World.{World}
use Rattle.ndc_world_replication.proofs.RecordLemmas.{gives_at, register_quiet}
use Rattle.ndc_world_replication.specs.Publishers.{PublisherValue}
use Rattle.ndc_world_replication.proofs.replication.Replication.register.Goals as goal

pub returns-clause-answer : goal.returns-clause-answer
returns-clause-answer g c =
    let below : c.args.at.number < length c.self.inside.publishers.items =
    omega (arith, c.requires.at, ap (λ (v : World). length v.clusters) c.self.view_is, length-map c.self.inside.publishers.items (λ (s : PublisherValue). s.cluster)) in
    gives_at c.self.inside.publishers.items c.self.inside.links.items c.self.inside.handovers.items c.args.at c.index_mut-publisher.result.now below c.index_mut-publisher.ensures.value
    register_error.Memory c.register.result (register_of c.args.header.now.clusters c.args.at c.args.domain.now c.args.target c.args.days c.args.members) c.args.self.now _ c.register.new.self c.self.view_is c.register.ensures.rest refl c.register.ensures.ordered c.register.ensures.answer
    (λ version ok. register_quiet c.args.header.now.clusters c.args.at c.args.domain.now c.args.target c.args.days c.args.members c.index_mut-publisher.result.now.cluster.table version c.register.new.self.cluster.table ok)
