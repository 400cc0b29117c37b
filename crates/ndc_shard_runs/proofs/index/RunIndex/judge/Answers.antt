use Rattle.std.proofs.Common.{◌≡◌, Some, ◌∙◌, ap, sym, subst}
use Rattle.ndc_model_sets.specs.Sets.{Has}
use Rattle.ndc_tree.specs.Inserting.{inserted}
use Rattle.ndc_tree.specs.Tree.{TreeValue}
use Rattle.ndc_shard_runs.specs.RunMap.{run_at}
use Rattle.ndc_shard_runs.proofs.JudgeLemmas.{judged}
use Rattle.ndc_shard_runs.proofs.index.RunIndex.judge.Goals as goal

pub returns-in-Some : goal.returns-in-Some
returns-in-Some c =
    let b = c.args.batch.now in
    let at : run_at b.run c.args.self.now ≡ Some c.in-Some.run'.now = ap (run_at b.run) (sym c.self.view_is) ∙ sym c.in-Some.ensures in
    judged b.run c.args.self.now c.in-Some.run'.now b c.judge.result at c.requires.fresh
    (λ e. subst (λ (t : TreeValue). Has t.batches b) c.tree.ensures.tree (c.judge.ensures.known.1 e))
    (λ other. c.judge.ensures.answer other ∙ ap (λ (t : TreeValue). inserted t.run t.batches b) c.tree.ensures.tree)
