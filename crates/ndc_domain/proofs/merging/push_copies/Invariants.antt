use Rattle.std.proofs.Common.{◌≡◌, ◌++◌, take}
use Rattle.ndc_domain.proofs.merging.push_copies.Given as goal

-- the records gone over are copied after the others
abbrev pub invariant-loop-record : goal.invariant-loop-record
invariant-loop-record l = l.all.items ≡ l.initial.all.items ++ take l.record-index l.records
