use Rattle.std.proofs.Common.{◌≡◌, ℕ, ◌<◌, false, length, get_or, take}
use Rattle.std.specs.Prelude.{◌==◌}
use Rattle.std.specs.List.{list_any}
use Rattle.ndc_domain.proofs.members.Members.of.Given as goal

-- the flags set are those of the clusters gone over
abbrev pub invariant-loop-cluster : goal.invariant-loop-cluster
invariant-loop-cluster l = record {
  eight : length l.flags ≡ 8;
  set : (k : ℕ) → k < 8 → get_or l.flags k false ≡ list_any (λ cluster. cluster.number == k) (take l.cluster-index l.list);
}
