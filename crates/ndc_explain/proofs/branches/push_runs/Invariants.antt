use Rattle.std.proofs.Common.{◌≡◌, ◌++◌, drop}
use Rattle.std.specs.List.{flat_map}
use Rattle.ndc_explain.specs.Branches.{run_told}
use Rattle.ndc_explain.proofs.branches.push_runs.Given as goal

-- the text so far, with what is left, is the whole
abbrev pub invariant-loop-run : goal.invariant-loop-run
invariant-loop-run l = l.text.items ++ flat_map (run_told l.clusters) (drop l.run-index l.runs)
    ≡ l.initial.text.items ++ flat_map (run_told l.clusters) l.runs
