use Rattle.std.proofs.Common.{◌≡◌, ◌++◌, ◌∷◌, [], decimal, drop, length}
use Rattle.std.specs.List.{flat_map}
use Rattle.ndc_model.specs.Texts.{ok}
use Rattle.ndc_text.specs.Views.{run_lines}
use Rattle.ndc_world_answers.proofs.reading.branches.Given as goal

-- the text so far, with what is left, is the whole
abbrev pub invariant-loop-run : goal.invariant-loop-run
invariant-loop-run l = l.text.items ++ flat_map run_lines (drop l.run-index l.runs) ≡ ok (decimal (length l.runs) ∷ []) ++ flat_map run_lines l.runs
