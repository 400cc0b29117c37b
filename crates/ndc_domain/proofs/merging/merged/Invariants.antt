use Rattle.std.proofs.Common.{◌≡◌, ◌+◌, ◌-◌, ◌≤◌, ◌++◌, length, drop}
use Rattle.ndc_domain.specs.Merge.{merged}
use Rattle.ndc_domain.proofs.merging.merged.Given as goal

-- what is there, and the records left merged, are all merged
abbrev pub invariant-loop-ours : goal.invariant-loop-ours
invariant-loop-ours l = record {
  ours : l.ours ≤ length l.records;
  theirs : l.theirs ≤ length l.others;
  done : l.all.items ++ merged (drop l.ours l.records) (drop l.theirs l.others) ≡ merged l.records l.others;
}

abbrev pub decreases-loop-ours : goal.decreases-loop-ours
decreases-loop-ours l = (length l.records - l.ours) + (length l.others - l.theirs)
