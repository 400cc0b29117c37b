use Rattle.std.proofs.Common.{◌≡◌, ◌++◌, map, drop}
use Rattle.ndc_model_sets.specs.Branches.{is_current_run}
use Rattle.ndc_shard_runs.specs.View.{run_with}
use Rattle.ndc_tree.specs.Tree.{TreeValue}
use Rattle.ndc_shard_runs.proofs.runs.Runs.runs_shown.Given as goal

-- the runs so far, and the others, are all
abbrev pub invariant-loop-run : goal.invariant-loop-run
invariant-loop-run g l =
    l.list.items ++ map (λ (r : TreeValue). run_with r (is_current_run r.run l.self)) (drop l.run-index l.run-items) ≡ map (λ (r : TreeValue). run_with r (is_current_run r.run l.self)) l.run-items
