-- The members of a domain: an ascending list of cluster numbers below 8.
use Rattle.std.specs.Prelude.{◌≡◌, ℕ, Bool, false, ◌||◌, ◌==◌, List, [], ◌∷◌, filter, map, slice_index_or}
use Rattle.std.specs.List.{list_any}
use Rattle.ndc_domain.specs.declared.clusters.ClusterNo.{ClusterNo}

-- the numbers that a cluster may have, in order
unfoldable pub numbers : List ℕ
numbers = 0 ∷ 1 ∷ 2 ∷ 3 ∷ 4 ∷ 5 ∷ 6 ∷ 7 ∷ []

-- the numbers below 8 that pass a test, in order
unfoldable pub numbers_where : (ℕ → Bool) → List ℕ
numbers_where test = filter test numbers

-- the number is one of the members
abbrev pub has_member : List ℕ → ℕ → Bool
has_member members number = list_any (λ member. member == number) members

-- the list is an ascending one of numbers below 8: those that it has, in order
abbrev pub AreMembers : List ℕ → Type 0
AreMembers members = members ≡ numbers_where (has_member members)

-- the members that these clusters are
abbrev pub members_of : List ClusterNo → List ℕ
members_of clusters = numbers_where (λ number. list_any (λ cluster. cluster.number == number) clusters)

-- the members and one more
abbrev pub with_member : List ℕ → ℕ → List ℕ
with_member members added = numbers_where (λ number. has_member members number || (added == number))

-- the members of both
abbrev pub union_of : List ℕ → List ℕ → List ℕ
union_of ours theirs = numbers_where (λ number. has_member ours number || has_member theirs number)

-- the members whose flags are set
abbrev pub members_flagged : List Bool → List ℕ
members_flagged flags = numbers_where (λ number. slice_index_or flags number false)

-- for each number whether it is a member
unfoldable pub flags_of : List ℕ → List Bool
flags_of members = map (has_member members) numbers
