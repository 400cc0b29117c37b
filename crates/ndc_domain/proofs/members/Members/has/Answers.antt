use Rattle.std.proofs.Common.{ℕ, List, false, get_or, sym, ◌∙◌, ap, subst}
use Rattle.std.proofs.lemmas.Bool.{le-ltb}
use Rattle.ndc_domain.specs.Members.{AreMembers, has_member}
use Rattle.ndc_domain.specs.Flags.{has-where, has-where_past, where_AreMembers}
use Rattle.ndc_domain.proofs.members.Members.has.Goals as goal

-- the flag tells whether the number is a member
pub returns-then-cluster-lt-MAX_CLUSTERS-clause-has :
    goal.returns-then-cluster-lt-MAX_CLUSTERS-clause-has
returns-then-cluster-lt-MAX_CLUSTERS-clause-has c =
    sym (has-where (λ k. get_or c.self.inside.flags k false) c.args.cluster.number c.if-cluster-lt-MAX_CLUSTERS.true)
    ∙ ap (λ (members : List ℕ). has_member members c.args.cluster.number) c.self.view_is

pub returns-then-cluster-lt-MAX_CLUSTERS-clause-ascending :
    goal.returns-then-cluster-lt-MAX_CLUSTERS-clause-ascending
returns-then-cluster-lt-MAX_CLUSTERS-clause-ascending c = subst AreMembers c.self.view_is (where_AreMembers _)

-- there is no flag for a greater number
pub returns-else-cluster-lt-MAX_CLUSTERS-clause-has :
    goal.returns-else-cluster-lt-MAX_CLUSTERS-clause-has
returns-else-cluster-lt-MAX_CLUSTERS-clause-has c =
    le-ltb c.args.cluster.number 8 c.if-cluster-lt-MAX_CLUSTERS.false
    ∙ sym (has-where_past (λ k. get_or c.self.inside.flags k false) c.args.cluster.number c.if-cluster-lt-MAX_CLUSTERS.false)
    ∙ ap (λ (members : List ℕ). has_member members c.args.cluster.number) c.self.view_is

pub returns-else-cluster-lt-MAX_CLUSTERS-clause-ascending :
    goal.returns-else-cluster-lt-MAX_CLUSTERS-clause-ascending
returns-else-cluster-lt-MAX_CLUSTERS-clause-ascending c = subst AreMembers c.self.view_is (where_AreMembers _)
