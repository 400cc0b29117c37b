use Rattle.std.proofs.Common.{◌++◌, List}
use Rattle.std.specs.List.Sorted.{IsStrictlySortedBy}
use Rattle.ndc_domain.specs.Records.{names_cmp}
use Rattle.ndc_event.specs.declared.name.Name.{Name}
use Rattle.ndc_shard.specs.Again.{AreReappliedOf}
use Rattle.ndc_shard.proofs.shard.due_of.Given as goal

-- with the workflows of the domains that are left, all are there
abbrev pub invariant-loop-domain : goal.invariant-loop-domain
invariant-loop-domain l =
    IsStrictlySortedBy names_cmp l.domain-iterator.rest.items
    × ((rest : List (Name × Name)) → AreReappliedOf l.desk l.domain-iterator.rest.items rest l.workflows → AreReappliedOf l.desk l.fn.domains.items (l.list.items ++ rest) l.workflows)
