use Rattle.std.proofs.Common.{◌≡◌, [], take, drop}
use Rattle.ndc_domain.specs.Clusters.{fault_from}
use Rattle.ndc_domain.proofs.clusters.members_fault.Given as goal

-- the members that are left have the fault of all
abbrev pub invariant-loop-place : goal.invariant-loop-place
invariant-loop-place l = fault_from l.increment (take l.place l.members) (drop l.place l.members) ≡ fault_from l.increment [] l.members
