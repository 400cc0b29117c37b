use Rattle.std.proofs.Common.{◌≡◌, List, map, ap, ◌∙◌}
use Rattle.std.specs.List.{flat_map}
use Rattle.ndc_script_types.specs.Below.{clusters_below}
use Rattle.ndc_domain.specs.declared.clusters.ClusterNo.{ClusterNo}
use Rattle.ndc_model.specs.World.{all_clusters}
use Rattle.ndc_world_replication.specs.Replications.{links_of, opening_publisher}
use Rattle.ndc_world_replication.proofs.OpeningLemmas.{opening}
use Rattle.ndc_world_replication.proofs.replication.Replication.new.Goals as goal

pub returns : goal.returns
returns g c =
    let all : c.as_slice-clusters.result.now ≡ all_clusters c.args.header.now = c.as_slice-clusters.ensures.value ∙ c.in_ok-clusters.ensures.answer ∙ ap clusters_below c.count.ensures.count in
    opening c.args.header.now c.in_ok-publishers.publishers.items c.in_ok-links.links.items c.new.result.items
    (c.in_ok-publishers.ensures ∙ ap (λ (clusters : List ClusterNo). map (λ _. opening_publisher c.args.header.now.shards) clusters) all)
    (c.in_ok-links.ensures ∙ ap (λ (clusters : List ClusterNo). flat_map (links_of c.args.header.now clusters) clusters) all)
    c.new.ensures.items
