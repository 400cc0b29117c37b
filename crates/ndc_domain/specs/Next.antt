-- The next version of a cluster.
use Rattle.std.specs.Prelude.{◌≡◌, ℕ, ◌+◌, ◌-◌, ◌%◌, ◌^◌, ◌≤◌, nat_le, Some, Result, Ok, Err, if◌then◌else◌}
use Rattle.ndc_domain.specs.declared.clusters.ClusterNo.{ClusterNo}
use Rattle.ndc_domain.specs.declared.clusters.VersionLimit.{VersionLimit}
use Rattle.ndc_domain.specs.Clusters.{ClusterList, initial_of, writer_of}

-- the least version, not below the old one, that the cluster writes with
abbrev pub IsNext : ClusterList → ℕ → ClusterNo → ℕ → Type 0
IsNext clusters old to next =
    (old ≤ next) × (writer_of clusters next ≡ Some to) ×
    ((version : ℕ) → old ≤ version → writer_of clusters version ≡ Some to → next ≤ version)

-- up to the next number that leaves this rest
abbrev pub next_with_rest : ℕ → ℕ → ℕ → ℕ
next_with_rest increment old rest =
    if nat_le (old % increment) rest then old + (rest - old % increment)
    else old + (increment - old % increment) + rest

-- the next version of the cluster, by remainders
abbrev pub next_of : ClusterList → ℕ → ClusterNo → ℕ
next_of clusters old to = next_with_rest clusters.increment old (initial_of clusters to)

-- the next version of the cluster, where it is no greater than a version may be
abbrev pub next_version_of : ClusterList → ℕ → ClusterNo → Result ℕ VersionLimit
next_version_of clusters old to =
    if nat_le (next_of clusters old to) (10 ^ 13) then Ok (next_of clusters old to) else Err (record {})
