use Rattle.std.proofs.Common.{◌≡◌, ◌+◌, drop}
use Rattle.std.specs.List.{prefix_len}
use Rattle.ndc_probe.specs.Probed.{stands_above}
use Rattle.ndc_probe.proofs.probing.count_above.Given as goal

-- the count so far, with that of what is left, is the count of all
abbrev pub invariant-loop-one : goal.invariant-loop-one
invariant-loop-one l = (l.count ≡ l.one-index) × (l.count + prefix_len (stands_above l.number) (drop l.one-index l.asked) ≡ prefix_len (stands_above l.number) l.asked)
