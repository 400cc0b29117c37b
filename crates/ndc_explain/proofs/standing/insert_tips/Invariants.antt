use Rattle.std.proofs.Common.{◌≡◌, drop}
use Rattle.ndc_explain.specs.Standing.{with_tips}
use Rattle.ndc_explain.proofs.standing.insert_tips.Given as goal

abbrev pub invariant-loop-run : goal.invariant-loop-run
invariant-loop-run l = with_tips (drop l.run-index l.runs) l.keys ≡ with_tips l.runs l.initial.keys
