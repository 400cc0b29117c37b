use Rattle.std.proofs.Common.{◌≡◌, ◌+◌, ◌-◌, ◌≤◌, drop, length}
use Rattle.ndc_domain.specs.Merge.{merge_count}
use Rattle.ndc_domain.specs.Records.{Rise}
use Rattle.ndc_domain.proofs.merging.merge_count.Given as goal

-- the count so far and that of the records left are that of all
abbrev pub invariant-loop-ours : goal.invariant-loop-ours
invariant-loop-ours l = record {
  few : l.count ≤ l.theirs;
  ours : l.ours ≤ length l.records;
  theirs : l.theirs ≤ length l.others;
  ours_rise : Rise (drop l.ours l.records);
  theirs_rise : Rise (drop l.theirs l.others);
  counted : l.count + merge_count (drop l.ours l.records) (drop l.theirs l.others) ≡ merge_count l.records l.others;
}

abbrev pub decreases-loop-ours : goal.decreases-loop-ours
decreases-loop-ours l = (length l.records - l.ours) + (length l.others - l.theirs)
