use Rattle.std.proofs.Common.{◌≡◌, map, ap, ◌∙◌, rules}
use Rattle.ndc_domain.specs.Members.{has_member, members_of, numbers_where}
use Rattle.ndc_node_frames.specs.Parts.{member_value}
use Rattle.ndc_node_frames.proofs.MemberLists.{members_are}
use Rattle.ndc_node_frames.proofs.record.are_members.Goals as goal

pub returns : goal.returns
returns c =
    let ns = map member_value c.args.list.now in
    let again : map member_value c.in_ok-again.again.items ≡ numbers_where (has_member ns) =
    c.in_ok-again.ensures ∙ c.of-members.ensures.members ∙ ap members_of c.requires.same ∙ members_are c.args.list.now in
    search (rules, again)
