use Rattle.std.proofs.Common.{◌≡◌, []}
use Rattle.ndc_explain_union.specs.Groupings.{with_takings}
use Rattle.ndc_explain_union.proofs.groups.groups_of.Given as goal

-- the groups so far, with the dumps that are left, are all
abbrev pub invariant-loop-taken : goal.invariant-loop-taken
invariant-loop-taken l = with_takings l.taken-iterator.rest.items l.groups ≡ with_takings l.fn.list.items []
