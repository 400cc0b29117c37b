use Rattle.std.proofs.Common.{ap, sym, ◌∙◌}
use Rattle.ndc_tree.specs.Tree.{TreeValue}
use Rattle.ndc_shard_runs.proofs.IndexLemmas.{one-all}
use Rattle.ndc_shard_runs.proofs.index.only_tree.Goals as goal

pub returns-clause-all : goal.returns-clause-all
returns-clause-all c =
    one-all c.args.runs.now c.requires c.in_ok-first.field-0.now c.in_ok-first.ensures c.tree.ensures.run.tree.set.ordered
    ∙ ap (λ (v : TreeValue). v.batches) (sym c.tree.ensures.tree)
