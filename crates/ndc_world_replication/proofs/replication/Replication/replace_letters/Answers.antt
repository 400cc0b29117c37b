use Rattle.std.proofs.Common.{◌<◌, length, set, ap, ◌∙◌, arith}
use Rattle.std.proofs.lemmas.List.{length-map}
use Rattle.ndc_model.specs.Letters.{with_letters}
use Rattle.ndc_model.specs.World.{World}
use Rattle.ndc_world_replication.proofs.WorkLemmas.{letters_change}
use Rattle.ndc_world_replication.specs.Replications.{world_of}
use Rattle.ndc_world_replication.specs.Publishers.{PublisherValue}
use Rattle.ndc_world_replication.proofs.replication.Replication.replace_letters.Goals as goal

pub returns-clause-replaced : goal.returns-clause-replaced
returns-clause-replaced g c =
    let below : c.args.cluster.number < length c.self.inside.publishers.items =
    omega (arith, c.requires, ap (λ (v : World). length v.clusters) c.self.view_is, length-map c.self.inside.publishers.items (λ (s : PublisherValue). s.cluster)) in
    ap (λ publisher. world_of (set c.self.inside.publishers.items c.args.cluster.number publisher) c.self.inside.links.items c.self.inside.handovers.items) c.replace_letters.ensures.replaced
    ∙ letters_change c.self.inside.publishers.items c.self.inside.links.items c.self.inside.handovers.items c.args.cluster c.index_mut-publisher.result.now below c.index_mut-publisher.ensures.value c.args.letters
    ∙ ap (with_letters c.args.cluster c.args.letters) c.self.view_is
