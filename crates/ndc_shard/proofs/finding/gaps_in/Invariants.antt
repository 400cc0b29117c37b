use Rattle.std.proofs.Common.{◌≡◌, ◌++◌, drop}
use Rattle.std.specs.List.{filter_map}
use Rattle.ndc_resend.specs.PutOff.{gaps_in}
use Rattle.ndc_shard.specs.Gaps.{gap_there}
use Rattle.ndc_shard.proofs.finding.gaps_in.Given as goal

-- those gone over, and those that are left, are all
abbrev pub invariant-loop-one : goal.invariant-loop-one
invariant-loop-one l = l.list.items ++ filter_map (gap_there l.histories l.workflow.waiting) (drop l.one-index l.one-items) ≡ gaps_in l.workflow
