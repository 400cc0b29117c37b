use Rattle.std.proofs.Common.{◌≡◌, ◌++◌, drop}
use Rattle.ndc_probe.specs.Workflows.{named_in}
use Rattle.ndc_probe.proofs.workflows.add_named.Given as goal

-- the names so far, with those that are left, are all
abbrev pub invariant-loop-pair : goal.invariant-loop-pair
invariant-loop-pair l = l.names.items ++ named_in l.domain (drop l.pair-index l.pairs) ≡ l.initial.names.items ++ named_in l.domain l.pairs
