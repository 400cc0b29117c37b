use Rattle.std.proofs.Common.{ap, arith}
use Rattle.ndc_domain.specs.declared.clusters.ClusterNo.{ClusterNo}
use Rattle.ndc_example_cell.proofs.SharedLemmas.{begin-then}
use Rattle.ndc_example_cell.proofs.pair.Pair.new.Goals as goal

pub invariant_of-result : goal.invariant_of-result
invariant_of-result c = λ unspent. begin-then _ _ _ _ _ _ _ (λ same. let e = ap (λ (n : ClusterNo). n.number) same in omega (arith, e)) c.in_ok-mine.ensures c.in_ok-theirs.ensures
