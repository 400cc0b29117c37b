use Rattle.std.proofs.Common.{◌≡◌, ◌-◌, drop, length}
use Rattle.ndc_reapply.specs.Strays.{strays_of}
use Rattle.ndc_reapply.proofs.order.unsettled.Given as goal

-- those taken, from the last on, are in order
abbrev pub invariant-loop-taken : goal.invariant-loop-taken
invariant-loop-taken l = l.found ≡ strays_of (drop (length l.signals - l.taken) l.signals) l.settled.keys
