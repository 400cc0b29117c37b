use Rattle.std.proofs.Common.{◌++◌, ap, map, sym, ◌∙◌}
use Rattle.std.proofs.Math.ListN.{drop_of_length-le}
use Rattle.std.proofs.lemmas.List.{append-nil}
use Rattle.ndc_model_sets.specs.Branches.{is_current_run}
use Rattle.ndc_model_sets.specs.View.{run_view}
use Rattle.ndc_tree.specs.Tree.{TreeValue}
use Rattle.ndc_shard_runs.specs.View.{run_with}
use Rattle.ndc_shard_runs.proofs.ViewLemmas.{shown-runs}
use Rattle.ndc_shard_runs.proofs.runs.Runs.runs_shown.Goals as goal

pub returns : goal.returns
returns g c =
    let all = c.args.self.now in
    let list = c.all_runs-run-items.result.now in
    sym (append-nil c.loop-run.list.items)
    ∙ ap (λ l. c.loop-run.list.items ++ map (λ (r : TreeValue). run_with r (is_current_run r.run all)) l) (sym (drop_of_length-le list c.loop-run-test.false))
    ∙ c.loop-run.invariant ∙ shown-runs all c.all_runs-run-items.ensures.sound list c.all_runs-run-items.ensures.parts ∙ ap (map (run_view all)) c.all_runs-run-items.ensures.ids
