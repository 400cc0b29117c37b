use Rattle.std.proofs.Common.{List, find, length, map, ap, sym, ◌∙◌}
use Rattle.std.proofs.lemmas.List.{length-map}
use Rattle.std.specs.List.{range_with_len}
use Rattle.ndc_model_cells.specs.Cells.{Cell}
use Rattle.ndc_model_cells.specs.Jobs.{cell_for}
use Rattle.ndc_event.specs.declared.name.Name.{Name}
use Rattle.ndc_model.specs.Moves.{all_arrive}
use Rattle.ndc_model_cells.specs.Domains.{learned_of_domains}
use Rattle.ndc_model.specs.World.{Cluster, Link, World, is_link, link_at, link_found}
use Rattle.ndc_world_replication.proofs.LinkLemmas.{cells_many, stands_by}
use Rattle.ndc_world_replication.specs.Replications.{StandsAt}
use Rattle.ndc_world_replication.proofs.replication.Replication.late_jobs.Goals as goal

pub learned_jobs-requires : goal.learned_jobs-requires
learned_jobs-requires g c =
    sym (length-map c.cells-cells.result.now g.C.Cell.cell) ∙ ap length c.cells-cells.ensures
    ∙ cells_many c.args.header.now c.args.self.now c.args.source c.index.result.now c.requires.shaped c.requires.source
    (stands_by c.args.header.now c.args.self.now c.self.inside.publishers.items c.self.inside.links.items c.self.inside.handovers.items c.args.source c.index.result.now c.self.view_is c.requires.shaped c.requires.source c.index.ensures)

pub returns : goal.returns
returns g c =
    let own : StandsAt c.args.self.now c.args.source c.index.result.now =
    stands_by c.args.header.now c.args.self.now c.self.inside.publishers.items c.self.inside.links.items c.self.inside.handovers.items c.args.source c.index.result.now c.self.view_is c.requires.shaped c.requires.source c.index.ensures in
    c.in_ok-jobs.ensures
    ∙ ap (λ (names : List Name). all_arrive (λ shard. learned_of_domains names (cell_for shard (map g.C.Cell.cell c.cells-cells.result.now))) (range_with_len 0 c.args.header.now.shards))
    (c.late_of-domains.ensures
    ∙ ap (λ (links : List Link). (link_found c.args.reader c.args.source (find (is_link c.args.reader c.args.source) links)).late) (c.as_slice.ensures.value ∙ ap (λ (v : World). v.links) c.self.view_is))
    ∙ ap (λ (cells : List Cell). all_arrive (λ shard. learned_of_domains (link_at c.args.reader c.args.source c.args.self.now).late (cell_for shard cells)) (range_with_len 0 c.args.header.now.shards))
    (c.cells-cells.ensures ∙ ap (λ (cluster : Cluster). cluster.cells) (sym own.cluster_is))
