use Rattle.std.proofs.Common.{◌≡◌, ◌++◌, drop, map}
use Rattle.ndc_reapply.specs.Reapplied.{copy_of}
use Rattle.ndc_reapply.proofs.reapply.push_copies.Given as goal

-- with copies of those ahead, the kinds are all
abbrev pub invariant-loop-stray : goal.invariant-loop-stray
invariant-loop-stray l = l.kinds.items ++ map copy_of (drop l.stray-index l.list) ≡ l.initial.kinds.items ++ map copy_of l.list
