-- Where the count of a name stands in a list of counts, or would go.
use Rattle.std.specs.Prelude.{◌≡◌, ℕ, ◌+◌, ◌<◌, ◌≤◌, List, insert, length, slice_index_or, slice_set}
use Rattle.ndc_event.specs.declared.name.Name.{Name}
use Rattle.ndc_index.specs.Texts.{with_one_more}

-- the count of the name is at the place, where it becomes one more
pub record IsCounted (counts : List (Name × ℕ)) (name : Name) (place : ℕ) : Type 0 where
  pub in_range : place < length counts
  pub more : (entry : Name × ℕ) → entry ≡ slice_index_or counts place entry → with_one_more counts name ≡ slice_set counts place (entry.0, entry.1 + 1)

-- the name is not counted yet, and comes in at the place
pub record IsUncounted (counts : List (Name × ℕ)) (name : Name) (place : ℕ) : Type 0 where
  pub in_range : place ≤ length counts
  pub more : with_one_more counts name ≡ insert counts place (name, 1)
