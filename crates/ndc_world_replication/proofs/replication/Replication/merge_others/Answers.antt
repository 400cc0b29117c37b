use Rattle.std.proofs.Common.{sym, subst, ap, ◌∙◌, arith}
use Rattle.std.specs.List.{fold}
use Rattle.ndc_domain.specs.Merge.{merged}
use Rattle.ndc_model.specs.World.{cluster_at, with_table}
use Rattle.ndc_world_replication.proofs.OrderlyLemmas.{orderly_table}
use Rattle.ndc_world_replication.proofs.ShapeLemmas.{there}
use Rattle.ndc_world_replication.proofs.TraceLemmas.{other_apart, other_in, step_all, step_more, nth_cluster}
use Rattle.ndc_world_replication.specs.Orderly.{IsOrderly}
use Rattle.ndc_world_replication.proofs.replication.Replication.merge_others.Goals as goal

pub merge-requires-clause-to : goal.merge-requires-clause-to
merge-requires-clause-to g c = there c.args.header.now c.loop-other.self c.loop-other.invariant.orderly.shaped c.args.cluster c.requires.cluster

pub merge-requires-clause-from : goal.merge-requires-clause-from
merge-requires-clause-from g c =
    there c.args.header.now c.loop-other.self c.loop-other.invariant.orderly.shaped _ (other_in c.args.header.now c.args.cluster c.args.others.now c.loop-other.other-index c.requires.others c.loop-other-test.true)

pub merge-requires-clause-apart : goal.merge-requires-clause-apart
merge-requires-clause-apart g c = other_apart c.args.header.now c.args.cluster c.args.others.now c.loop-other.other-index c.requires.others c.loop-other-test.true

pub loop-other-preserved : goal.loop-other-preserved
loop-other-preserved g c = record {
  orderly = subst (IsOrderly c.args.header.now) (sym c.in_ok-merge.ensures.merged)
      (orderly_table c.args.header.now c.loop-other.self c.loop-other.invariant.orderly c.args.cluster (merged (cluster_at c.args.cluster c.loop-other.self).table (cluster_at (nth_cluster c.args.others.now c.loop-other.other-index) c.loop-other.self).table) c.requires.cluster);
  tables = step_more (λ v other. with_table c.args.cluster (merged (cluster_at c.args.cluster v).table (cluster_at other v).table) v) c.loop-other.self c.merge.new.self c.args.others.now c.loop-other.other-index c.loop-other-test.true c.in_ok-merge.ensures.merged
      ∙ c.loop-other.invariant.tables;
}

pub returns-clause-merged : goal.returns-clause-merged
returns-clause-merged g c =
    step_all (λ v other. with_table c.args.cluster (merged (cluster_at c.args.cluster v).table (cluster_at other v).table) v) c.loop-other.self (fold (λ v other. with_table c.args.cluster (merged (cluster_at c.args.cluster v).table (cluster_at other v).table) v) c.args.self.now c.args.others.now) c.args.others.now c.loop-other.other-index c.loop-other.invariant.tables (omega (arith, c.loop-other-test.false))
    ∙ ap (fold (λ v other. with_table c.args.cluster (merged (cluster_at c.args.cluster v).table (cluster_at other v).table) v) c.args.self.now) c.requires.others
