use Rattle.std.proofs.Common.{◌≡◌, take}
use Rattle.ndc_domain.specs.Records.{names_of}
use Rattle.ndc_domain.proofs.table.DomainTable.names.Given as goal

-- the names of the records gone over are copied
abbrev pub invariant-loop-record : goal.invariant-loop-record
invariant-loop-record l = l.names.items ≡ names_of (take l.record-index l.record-items)
