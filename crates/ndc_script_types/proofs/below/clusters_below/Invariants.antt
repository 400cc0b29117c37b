use Rattle.std.proofs.Common.{◌≡◌, ◌<◌, All, length}
use Rattle.ndc_script_types.specs.Below.{clusters_below}
use Rattle.ndc_script_types.proofs.below.clusters_below.Given as goal

-- so many clusters are there
abbrev pub invariant-loop-number : goal.invariant-loop-number
invariant-loop-number l = record {
  first : l.clusters.items ≡ clusters_below l.number;
  below : All (λ cluster. cluster.number < l.count) l.clusters.items;
  count : length l.clusters.items ≡ l.number;
}
