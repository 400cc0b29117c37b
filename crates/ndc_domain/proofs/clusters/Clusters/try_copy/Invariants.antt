use Rattle.std.proofs.Common.{◌≡◌, take}
use Rattle.ndc_domain.proofs.clusters.Clusters.try_copy.Given as goal

-- the members gone over are copied
abbrev pub invariant-loop-member : goal.invariant-loop-member
invariant-loop-member l = l.members.items ≡ take l.member-index l.member-items
