use Rattle.std.proofs.Common.{◌≡◌, ◌⊎◌, ◌++◌, map}
use Rattle.ndc_domain.specs.Members.{AreMembers}
use Rattle.ndc_world_answers.proofs.MemberLemmas.{names_from}
use Rattle.ndc_world_answers.proofs.membership.names.Given as goal

-- the names so far, with those of the numbers that are left, are all; and the members are in order, once one was asked for
abbrev pub invariant-loop-number : goal.invariant-loop-number
invariant-loop-number l =
    (map (λ name. name.now) l.names.items ++ names_from l.clusters l.members l.number ≡ names_from l.clusters l.members 0) × ((l.number ≡ 0) ⊎ AreMembers l.members)
