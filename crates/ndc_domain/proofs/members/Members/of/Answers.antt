use Rattle.std.specs.Prelude.{All}
use Rattle.ndc_domain.proofs.NoNews.{members_below}
use Rattle.std.proofs.Common.{ℕ, ◌<◌, List, sym, ◌∙◌, ap, subst}
use Rattle.std.specs.Prelude.{◌==◌}
use Rattle.std.specs.List.{list_any}
use Rattle.std.proofs.lemmas.List.{take_all}
use Rattle.ndc_domain.specs.declared.clusters.ClusterNo.{ClusterNo}
use Rattle.ndc_domain.proofs.FlagEdits.{flagged_where}
use Rattle.ndc_domain.proofs.members.Members.of.Goals as goal

pub returns-clause-members : goal.returns-clause-members
returns-clause-members c =
    flagged_where c.loop-cluster.flags (λ k. list_any (λ cluster. cluster.number == k) c.args.list.now)
    (λ k below. c.loop-cluster.invariant.set k below
    ∙ ap (λ (clusters : List ClusterNo). list_any (λ cluster. cluster.number == k) clusters) (take_all c.loop-cluster.cluster-index c.args.list.now c.loop-cluster-test.false))

pub returns-clause-below : goal.returns-clause-below
returns-clause-below c = λ count below.
    subst (λ (members : List ℕ). All (λ member. member < count) members) (sym (returns-clause-members c)) (members_below c.args.list.now count below)
