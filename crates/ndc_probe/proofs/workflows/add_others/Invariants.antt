use Rattle.std.proofs.Common.{◌≡◌, ◌++◌, drop}
use Rattle.ndc_probe.specs.Workflows.{not_among}
use Rattle.ndc_probe.proofs.workflows.add_others.Given as goal

-- the names so far, with those that are left, are all
abbrev pub invariant-loop-other : goal.invariant-loop-other
invariant-loop-other l = l.names.items ++ not_among l.known (drop l.other-index l.others) ≡ l.initial.names.items ++ not_among l.known l.others
