use Rattle.std.proofs.Common.{◌≡◌, take}
use Rattle.ndc_domain.proofs.table.are_same.Given as goal

-- the records gone over are the same
abbrev pub invariant-loop-place : goal.invariant-loop-place
invariant-loop-place l = take l.place l.ours ≡ take l.place l.theirs
