use Rattle.std.proofs.Common.{◌≡◌, drop}
use Rattle.ndc_probe.specs.Holding.{lacked_by}
use Rattle.ndc_probe.proofs.holding.lacked_by.Given as goal

-- what is lacked by the gaps that are left is what is lacked by all
abbrev pub invariant-loop-gap : goal.invariant-loop-gap
invariant-loop-gap l = lacked_by l.batch (drop l.gap-index l.gaps) ≡ lacked_by l.batch l.gaps
