use Rattle.std.proofs.Common.{map, refl, sym, subst, ap, ◌∙◌, arith}
use Rattle.std.specs.List.{fold}
use Rattle.ndc_model.specs.Moves.{merged_all}
use Rattle.ndc_model.specs.World.{World}
use Rattle.ndc_world_replication.proofs.OneTableLemmas.{one_merged}
use Rattle.ndc_world_replication.specs.Publishers.{PublisherValue}
use Rattle.ndc_world_replication.specs.Tables.{HaveOneTable}
use Rattle.ndc_world_replication.proofs.TraceLemmas.{cluster_in, step_all, step_more}
use Rattle.ndc_world_replication.proofs.replication.Replication.merge_tables.Goals as goal

-- where all hold the same records, merging changes nothing
pub returns-then-have_one_table-clause-merged : goal.returns-then-have_one_table-clause-merged
returns-then-have_one_table-clause-merged g c =
    let one : HaveOneTable c.args.self.now.clusters =
    subst HaveOneTable (ap (map (λ (publisher : PublisherValue). publisher.cluster)) c.as_slice.ensures.value ∙ ap (λ (v : World). v.clusters) c.self.view_is) (c.if-have_one_table.ensures refl) in
    sym (one_merged c.args.header.now c.args.self.now c.requires.orderly.shaped one)

pub merge_others-requires-clause-cluster : goal.merge_others-requires-clause-cluster
merge_others-requires-clause-cluster g c = cluster_in c.args.header.now c.args.clusters.now c.loop-cluster.cluster-index c.requires.clusters c.loop-cluster-test.true

pub loop-cluster-preserved : goal.loop-cluster-preserved
loop-cluster-preserved g c = record {
  orderly = c.in_ok-merge_others.ensures.orderly;
  tables = step_more (merged_all c.args.header.now) c.loop-cluster.self c.merge_others.new.self c.args.clusters.now c.loop-cluster.cluster-index c.loop-cluster-test.true c.in_ok-merge_others.ensures.merged
      ∙ c.loop-cluster.invariant.tables;
}

pub returns-clause-merged : goal.returns-clause-merged
returns-clause-merged g c =
    step_all (merged_all c.args.header.now) c.loop-cluster.self (fold (merged_all c.args.header.now) c.args.self.now c.args.clusters.now) c.args.clusters.now c.loop-cluster.cluster-index c.loop-cluster.invariant.tables (omega (arith, c.loop-cluster-test.false))
    ∙ ap (fold (merged_all c.args.header.now) c.args.self.now) c.requires.clusters
