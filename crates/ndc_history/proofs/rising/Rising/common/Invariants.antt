use Rattle.std.proofs.Common.{◌≡◌, ◌+◌, ◌≤◌, length, take}
use Rattle.ndc_history.specs.Common.{common_of}
use Rattle.ndc_history.proofs.rising.Rising.common.Given as goal

-- what the histories up to the two places have in common is what they have in all
abbrev pub invariant-loop-own : goal.invariant-loop-own
invariant-loop-own l = record {
  within_one : l.own ≤ length l.one;
  within_two : l.others ≤ length l.two;
  common : common_of (take l.own l.one) (take l.others l.two) ≡ common_of l.one l.two;
}

abbrev pub decreases-loop-own : goal.decreases-loop-own
decreases-loop-own l = l.own + l.others
