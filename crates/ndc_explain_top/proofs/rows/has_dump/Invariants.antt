use Rattle.std.proofs.Common.{◌≡◌, drop}
use Rattle.ndc_explain_top.specs.Rows.{has_dump}
use Rattle.ndc_explain_top.proofs.rows.has_dump.Given as goal

abbrev pub invariant-loop-taken : goal.invariant-loop-taken
invariant-loop-taken l = has_dump (drop l.taken-index l.dumps) l.name ≡ has_dump l.dumps l.name
