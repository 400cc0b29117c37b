use Rattle.std.proofs.Common.{◌≡◌, false}
use Rattle.ndc_example_world.proofs.running.run_text.Given as goal

-- the world is not spent, and its header is the same
abbrev pub invariant-loop-line : goal.invariant-loop-line
invariant-loop-line g l = record { unspent : l.world.spent ≡ false; header : l.world.header ≡ l.header }
