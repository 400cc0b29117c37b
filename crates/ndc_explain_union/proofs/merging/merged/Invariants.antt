use Rattle.std.proofs.Common.{◌≡◌, ◌+◌, ◌-◌, ◌≤◌, ◌++◌, length, drop, map}
use Rattle.ndc_explain_union.specs.Unions.{merged}
use Rattle.ndc_explain_union.proofs.merging.merged.Given as goal

-- what is there, and the batches that are left merged, are all merged
abbrev pub invariant-loop-place : goal.invariant-loop-place
invariant-loop-place l = record {
  ours : l.place ≤ length l.ours;
  theirs : l.other ≤ length l.theirs;
  done : map (λ b. b.now) l.all.items ++ merged (map (λ b. b.now) (drop l.place l.ours)) (map (λ b. b.now) (drop l.other l.theirs))
      ≡ merged (map (λ b. b.now) l.ours) (map (λ b. b.now) l.theirs);
}

abbrev pub decreases-loop-place : goal.decreases-loop-place
decreases-loop-place l = (length l.ours - l.place) + (length l.theirs - l.other)
