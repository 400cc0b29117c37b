-- Origins in order, each once: a list that rises, or an index once it does not; as they are now and at the last mark.
use Rattle.std.specs.Prelude.{◌≡◌, ℕ, ◌≤◌, true, false, List, [], ◌∷◌, ◌++◌, Option, Some, None, length, take}
use Rattle.std.specs.Ordering.{nat_cmp, ordering_then}
use Rattle.std.specs.declared.cmp.Ordering.{Ordering}
use Rattle.std.specs.declared.cmp.Ordering.TheVariants.{Less}
use Rattle.indexmap.specs.IndexSet.{IndexSet}
use Rattle.ndc_event.specs.Sorted.{InOrder}
use Rattle.ndc_event.specs.declared.key.Origin.{Origin}
use Rattle.ndc_state.specs.Marked.{Marked}
use Rattle.ndc_state.specs.Origins.{is_among}

-- how two origins compare: by run, then by event, then by version
abbrev pub origin_cmp : Origin → Origin → Ordering
origin_cmp one two = ordering_then (nat_cmp one.run.value two.run.value) (ordering_then (nat_cmp one.event two.event) (nat_cmp one.version two.version))

-- the first origin comes before the second
abbrev pub origin_before : Origin → Origin → Type 0
origin_before one two = origin_cmp one two ≡ Less

-- the origin is listed
pub record IsListed (origins : List Origin) (origin : Origin) (place : ℕ) : Type 0 where
  pub among : is_among origin origins ≡ true

-- the origin is not listed; where its place is the end, the list rises with it
pub record IsUnlisted (origins : List Origin) (origin : Origin) (place : ℕ) : Type 0 where
  pub absent : is_among origin origins ≡ false
  pub last : place ≡ length origins → InOrder origin_before (origins ++ origin ∷ [])

module _ {S : Type 0} where
  -- the origins now
  abbrev pub origins_now : List Origin → Option (IndexSet Origin S) → List Origin
  origins_now rising None = rising
  origins_now rising (Some index) = index.keys

  -- the origins rise, or are indexed
  abbrev pub AreFound : List Origin → Option (IndexSet Origin S) → Type 0
  AreFound rising None = InOrder origin_before rising
  AreFound rising (Some index) = Unit {0}

  -- the origins now, and at the mark: the first of those now
  abbrev pub marked_origins : List Origin → Option (IndexSet Origin S) → ℕ → Marked (List Origin)
  marked_origins rising indexed count = record { current = origins_now rising indexed; marked = take count (origins_now rising indexed) }

  -- the origins are found, and those at the mark are among the first
  pub record AreMarked (rising : List Origin) (indexed : Option (IndexSet Origin S)) (count : ℕ) : Type 0 where
    pub found : AreFound rising indexed
    pub within : count ≤ length (origins_now rising indexed)
