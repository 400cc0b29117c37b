use Rattle.std.proofs.Common.{◌≡◌, drop}
use Rattle.ndc_explain_picture.specs.Graph.{column_from}
use Rattle.ndc_explain_picture.proofs.columns.column_of.Given as goal

-- what is found from here on is what is found from the first place on
abbrev pub invariant-loop-place : goal.invariant-loop-place
invariant-loop-place l = column_from l.key l.place (drop l.place l.columns) ≡ column_from l.key 0 l.columns
