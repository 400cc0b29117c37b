use Rattle.std.proofs.Common.{◌≡◌, ◌+◌, drop, length}
use Rattle.std.specs.List.{sum_by}
use Rattle.ndc_model_sets.specs.declared.view.RunView.{RunView}
use Rattle.ndc_world_queries.proofs.learned.branches_in.Given as goal

abbrev pub invariant-loop-run : goal.invariant-loop-run
invariant-loop-run l = l.count + sum_by (λ (run : RunView). length run.branches) (drop l.run-index l.runs) ≡ sum_by (λ (run : RunView). length run.branches) l.runs
