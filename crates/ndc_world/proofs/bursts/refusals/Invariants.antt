use Rattle.std.proofs.Common.{◌≡◌, ◌+◌, ◌≤◌, drop}
use Rattle.ndc_world.specs.Counts.{refusals}
use Rattle.ndc_world.proofs.bursts.refusals.Given as goal

-- what is counted, with what is left, is the whole
abbrev pub invariant-loop-place : goal.invariant-loop-place
invariant-loop-place l = record {
  count : l.count + refusals (drop l.place l.replies) ≡ refusals l.replies;
  most : l.count ≤ l.place;
}
