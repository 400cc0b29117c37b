use Rattle.std.proofs.Common.{◌<◌, List, length, ap, ◌∙◌, arith}
use Rattle.std.proofs.lemmas.List.{length-map}
use Rattle.ndc_domain.specs.Records.{only_of}
use Rattle.ndc_domain.specs.declared.record.DomainRecord.{DomainRecord}
use Rattle.ndc_model.specs.World.{World, cluster_at}
use Rattle.ndc_world_replication.proofs.RecordLemmas.{merged_at, own-table}
use Rattle.ndc_world_replication.specs.Publishers.{PublisherValue}
use Rattle.ndc_world_replication.proofs.replication.Replication.merge_record.Goals as goal

pub returns : goal.returns
returns g c =
    let publishers = c.self.inside.publishers.items in
    let links = c.self.inside.links.items in
    let handovers = c.self.inside.handovers.items in
    let below : c.args.to.number < length publishers = omega (arith, c.requires.to, ap (λ (v : World). length v.clusters) c.self.view_is, length-map publishers (λ (s : PublisherValue). s.cluster)) in
    let within : c.args.from.number < length publishers = omega (arith, c.requires.from, ap (λ (v : World). length v.clusters) c.self.view_is, length-map publishers (λ (s : PublisherValue). s.cluster)) in
    merged_at publishers links handovers c.args.to c.index_mut-publisher.result.now below c.index_mut-publisher.ensures.value c.args.self.now c.new-none.result c.replace_table-ours.result c.in_ok-only.only
    (only_of (cluster_at c.args.from c.args.self.now).table c.args.domain.now) c.merge_into.new.ours c.replace_table-ours.new.self c.index_mut-publisher-2.result.now c.replace_table.new.self c.merge_into.new.links.items c.self.view_is
    c.replace_table-ours.ensures.replaced c.replace_table-ours.ensures.given
    (c.in_ok-only.ensures ∙ ap (λ (records : List DomainRecord). only_of records c.args.domain.now) (c.table.ensures ∙ own-table publishers links handovers c.args.from c.index.result.now within c.index.ensures c.args.self.now c.self.view_is))
    c.in_ok-merge_into.ensures.table c.in_ok-merge_into.ensures.links c.index_mut-publisher-2.ensures.value c.replace_table.ensures.replaced
