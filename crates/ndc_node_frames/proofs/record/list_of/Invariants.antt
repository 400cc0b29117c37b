use Rattle.std.proofs.Common.{◌≡◌, ◌<◌, ◌++◌, map, drop}
use Rattle.std.specs.Prelude.{filter}
use Rattle.ndc_domain.specs.Members.{AreMembers, numbers, numbers_where, has_member}
use Rattle.ndc_node_frames.specs.Parts.{member_value}
use Rattle.ndc_node_frames.proofs.record.list_of.Given as goal

-- the members so far, before those of the numbers that are left, are all; and they are known to be members once one was asked for
abbrev pub invariant-loop-number : goal.invariant-loop-number
invariant-loop-number l = record {
  all : map member_value l.list.items ++ filter (has_member l.members) (drop l.number numbers) ≡ numbers_where (has_member l.members);
  known : 0 < l.number → AreMembers l.members;
}
