use Rattle.std.proofs.Common.{◌≡◌, take, length}
use Rattle.ndc_event.proofs.batch.are_same.Given as goal

-- the lists are as long as each other, and agree so far
abbrev pub invariant-loop-i : goal.invariant-loop-i
invariant-loop-i l = record {
  same_length : length l.one ≡ length l.two;
  same_front : take l.i l.one ≡ take l.i l.two;
}
