use Rattle.std.proofs.Common.{◌<◌, All, List, subst, sym}
use Rattle.std.specs.List.{list_any}
use Rattle.std.specs.Prelude.{◌==◌}
use Rattle.ndc_domain.specs.Clusters.{count_of}
use Rattle.ndc_domain.specs.Flags.{where_AreMembers}
use Rattle.ndc_domain.specs.declared.clusters.ClusterNo.{ClusterNo}
use Rattle.ndc_script_read.proofs.BelowCount.{below_eight, some_members}
use Rattle.ndc_script_read.proofs.register.members_named.Goals as goal

-- the clusters are among at most eight
pub of-requires : goal.of-requires
of-requires c =
    subst (λ (clusters : List ClusterNo). All (λ cluster. cluster.number < 8) clusters) (sym c.as_slice.ensures.value)
    (below_eight (count_of c.args.header.now.clusters) c.in_ok-clusters.clusters.items c.count-count.ensures.sound.count_most c.in_ok-clusters.ensures.below)

-- so are the members that they are
pub returns-clause-below : goal.returns-clause-below
returns-clause-below c =
    c.of.ensures.below (count_of c.args.header.now.clusters)
    (subst (λ (clusters : List ClusterNo). All (λ cluster. cluster.number < count_of c.args.header.now.clusters) clusters) (sym c.as_slice.ensures.value)
    c.in_ok-clusters.ensures.below)

-- they are members
pub returns-clause-members : goal.returns-clause-members
returns-clause-members c =
    rw c.of.ensures.members (where_AreMembers (λ number. list_any (λ (one : ClusterNo). one.number == number) c.as_slice.result.now))

-- there are some
pub returns-clause-some : goal.returns-clause-some
returns-clause-some c =
    rw (c.of.ensures.members, c.as_slice.ensures.value)
    (some_members c.in_ok-clusters.clusters.items c.in_ok-clusters.ensures.some
    (below_eight (count_of c.args.header.now.clusters) c.in_ok-clusters.clusters.items c.count-count.ensures.sound.count_most c.in_ok-clusters.ensures.below))
