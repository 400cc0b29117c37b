use Rattle.std.proofs.Common.{◌≡◌, ◌++◌}
use Rattle.ndc_world.proofs.script.keep.Given as goal

abbrev pub invariant-loop-one : goal.invariant-loop-one
invariant-loop-one l = l.told.items ++ l.one-iterator.rest.items ≡ l.fn.told.items ++ l.fn.seen.items
