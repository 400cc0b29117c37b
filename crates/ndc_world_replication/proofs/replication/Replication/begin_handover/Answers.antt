use Rattle.std.proofs.Common.{◌<◌, length, ap, refl, arith}
use Rattle.std.proofs.lemmas.List.{length-map}
use Rattle.ndc_graceful.specs.Begin.{begin_of}
use Rattle.ndc_graceful.specs.declared.handover.BeginError.TheVariants as begin_error
use Rattle.ndc_model.specs.World.{World}
use Rattle.ndc_world_replication.proofs.RecordLemmas.{gives_at, begin_quiet}
use Rattle.ndc_world_replication.specs.Publishers.{PublisherValue}
use Rattle.ndc_world_replication.proofs.replication.Replication.begin_handover.Goals as goal

pub returns-clause-answer : goal.returns-clause-answer
returns-clause-answer g c =
    let below : c.args.at.number < length c.self.inside.publishers.items =
    omega (arith, c.requires, ap (λ (v : World). length v.clusters) c.self.view_is, length-map c.self.inside.publishers.items (λ (s : PublisherValue). s.cluster)) in
    gives_at c.self.inside.publishers.items c.self.inside.links.items c.self.inside.handovers.items c.args.at c.index_mut-publisher.result.now below c.index_mut-publisher.ensures.value
    begin_error.Memory c.begin_handover.result (begin_of c.args.header.now.clusters c.args.at c.args.domain.now c.args.target c.args.places.items) c.args.self.now _ c.begin_handover.new.self c.self.view_is c.begin_handover.ensures.rest refl c.begin_handover.ensures.ordered c.begin_handover.ensures.answer
    (λ begun ok. begin_quiet c.args.header.now.clusters c.args.at c.args.domain.now c.args.target c.args.places.items c.index_mut-publisher.result.now.cluster.table begun c.begin_handover.new.self.cluster.table c.begin_handover.ensures.ordered ok)
