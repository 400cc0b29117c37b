use Rattle.std.proofs.Common.{◌≡◌, drop}
use Rattle.ndc_explain.specs.Explanation.{is_open}
use Rattle.ndc_explain.proofs.explanation.is_open.Given as goal

abbrev pub invariant-loop-run : goal.invariant-loop-run
invariant-loop-run l = is_open (drop l.run-index l.runs) ≡ is_open l.runs
