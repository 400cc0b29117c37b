use Rattle.std.proofs.Common.{◌≡◌, drop}
use Rattle.ndc_explain_picture.specs.Graph.{empty_from}
use Rattle.ndc_explain_picture.proofs.columns.empty_of.Given as goal

-- what is found from here on is what is found from the first place on
abbrev pub invariant-loop-place : goal.invariant-loop-place
invariant-loop-place l = empty_from l.place (drop l.place l.columns) ≡ empty_from 0 l.columns
