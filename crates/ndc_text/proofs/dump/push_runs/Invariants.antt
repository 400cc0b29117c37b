use Rattle.std.proofs.Common.{◌≡◌, ◌++◌, drop}
use Rattle.std.specs.List.{flat_map}
use Rattle.ndc_text.specs.Views.{run_state_lines}
use Rattle.ndc_text.proofs.dump.push_runs.Given as goal

abbrev pub invariant-loop-run : goal.invariant-loop-run
invariant-loop-run l = l.text.items ++ flat_map run_state_lines (drop l.run-index l.runs) ≡ l.initial.text.items ++ flat_map run_state_lines l.runs
