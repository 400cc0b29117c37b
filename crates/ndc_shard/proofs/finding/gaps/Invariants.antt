use Rattle.std.proofs.Common.{◌≡◌, ◌++◌, drop}
use Rattle.std.specs.List.{flat_map}
use Rattle.ndc_resend.specs.PutOff.{gaps_at, gaps_of}
use Rattle.ndc_shard.proofs.finding.gaps.Given as goal

-- those of the workflows gone over, and those of the workflows that are left, are all
abbrev pub invariant-loop-place : goal.invariant-loop-place
invariant-loop-place l = l.list.items ++ flat_map (gaps_at l.workflows) (drop l.place-index l.place-items) ≡ gaps_of l.workflows
