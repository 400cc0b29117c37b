use Rattle.std.proofs.Common.{◌<◌, List, length, ap, ◌∙◌, arith}
use Rattle.std.proofs.lemmas.List.{length-map}
use Rattle.ndc_domain.specs.Merge.{merge_count}
use Rattle.ndc_domain.specs.declared.record.DomainRecord.{DomainRecord}
use Rattle.ndc_model.specs.World.{World, cluster_at}
use Rattle.ndc_world_replication.proofs.RecordLemmas.{merged_at, other_table, own-table}
use Rattle.ndc_world_replication.specs.Publishers.{PublisherValue}
use Rattle.ndc_world_replication.proofs.replication.Replication.merge.Goals as goal

pub returns-clause-merged : goal.returns-clause-merged
returns-clause-merged g c =
    let publishers = c.self.inside.publishers.items in
    let links = c.self.inside.links.items in
    let handovers = c.self.inside.handovers.items in
    let below : c.args.to.number < length publishers = omega (arith, c.requires.to, ap (λ (v : World). length v.clusters) c.self.view_is, length-map publishers (λ (s : PublisherValue). s.cluster)) in
    let within : c.args.from.number < length publishers = omega (arith, c.requires.from, ap (λ (v : World). length v.clusters) c.self.view_is, length-map publishers (λ (s : PublisherValue). s.cluster)) in
    merged_at publishers links handovers c.args.to c.index_mut-publisher.result.now below c.index_mut-publisher.ensures.value c.args.self.now c.new-none.result c.replace_table-ours.result c.table-theirs.result.now
    (cluster_at c.args.from c.args.self.now).table c.merge_into.new.ours c.replace_table-ours.new.self c.index_mut-publisher-2.result.now c.replace_table.new.self c.merge_into.new.links.items c.self.view_is
    c.replace_table-ours.ensures.replaced c.replace_table-ours.ensures.given
    (c.table-theirs.ensures ∙ other_table publishers links handovers c.args.to c.index_mut-publisher.result.now below c.index_mut-publisher.ensures.value c.args.from c.args.self.now c.replace_table-ours.new.self c.index.result.now c.self.view_is c.requires.apart within c.index.ensures)
    c.in_ok-count.ensures.table c.in_ok-count.ensures.links c.index_mut-publisher-2.ensures.value c.replace_table.ensures.replaced

pub returns-clause-count : goal.returns-clause-count
returns-clause-count g c =
    let publishers = c.self.inside.publishers.items in
    let links = c.self.inside.links.items in
    let handovers = c.self.inside.handovers.items in
    let below : c.args.to.number < length publishers = omega (arith, c.requires.to, ap (λ (v : World). length v.clusters) c.self.view_is, length-map publishers (λ (s : PublisherValue). s.cluster)) in
    let within : c.args.from.number < length publishers = omega (arith, c.requires.from, ap (λ (v : World). length v.clusters) c.self.view_is, length-map publishers (λ (s : PublisherValue). s.cluster)) in
    c.in_ok-count.ensures.count
    ∙ ap (λ (records : List DomainRecord). merge_count records c.table-theirs.result.now) (c.replace_table-ours.ensures.given ∙ own-table publishers links handovers c.args.to c.index_mut-publisher.result.now below c.index_mut-publisher.ensures.value c.args.self.now c.self.view_is)
    ∙ ap (merge_count (cluster_at c.args.to c.args.self.now).table)
    (c.table-theirs.ensures ∙ other_table publishers links handovers c.args.to c.index_mut-publisher.result.now below c.index_mut-publisher.ensures.value c.args.from c.args.self.now c.replace_table-ours.new.self c.index.result.now c.self.view_is c.requires.apart within c.index.ensures)
