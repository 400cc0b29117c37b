use Rattle.std.proofs.Common.{◌≡◌, take}
use Rattle.ndc_domain.proofs.table.DomainTable.try_copy.Given as goal

-- the records gone over are copied
abbrev pub invariant-loop-record : goal.invariant-loop-record
invariant-loop-record l = l.records.items ≡ take l.record-index l.record-items
