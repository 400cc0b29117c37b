use Rattle.std.proofs.Common.{◌≡◌, ◌++◌, map, filter, drop}
use Rattle.ndc_domain.specs.Members.{has_member, numbers}
use Rattle.ndc_script_types.specs.Print.{behind_spaces, member_name}
use Rattle.ndc_script.proofs.printing.push_members.Given as goal

-- the text so far, with the members among the numbers that are left, is the whole
abbrev pub invariant-loop-number : goal.invariant-loop-number
invariant-loop-number l =
    l.text.items ++ behind_spaces (map (member_name l.header) (filter (has_member l.members) (drop l.number numbers)))
    ≡ l.fn.text.items ++ behind_spaces (map (member_name l.header) (filter (has_member l.members) numbers))
