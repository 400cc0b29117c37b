use Rattle.std.proofs.Common.{◌≡◌, ◌++◌, drop}
use Rattle.std.specs.List.{flat_map}
use Rattle.ndc_dump.specs.Groups.{listed}
use Rattle.ndc_dump.specs.Marks.{run_tree}
use Rattle.ndc_dump.proofs.tree.push_run_trees.Given as goal

abbrev pub invariant-loop-run : goal.invariant-loop-run
invariant-loop-run l =
    l.text.items ++ flat_map (λ run. run_tree (listed run.run l.batches) run) (drop l.run-index l.runs)
    ≡ l.initial.text.items ++ flat_map (λ run. run_tree (listed run.run l.batches) run) l.runs
