-- Batches as segments, one for each version.
use Rattle.std.specs.Prelude.{◌≡◌, ℕ, ◌<◌, false, List, [], ◌∷◌, ◌++◌}
use Rattle.std.specs.List.{AllByRecursion}
use Rattle.std.specs.Ordering.{nat_cmp}
use Rattle.std.specs.declared.cmp.Ordering.{Ordering}
use Rattle.ndc_event.specs.declared.batch.Batch.{Batch}
use Rattle.ndc_model_sets.specs.Last.{is_nil}
use Rattle.ndc_tree.specs.declared.batches.Segment.{Segment}
use Rattle.ndc_event.specs.Sorted.{InOrder}

-- the batches of the segments, one after another
abbrev pub flat : List Segment → List Batch
flat [] = []
flat (s ∷ segments) = s.chain ++ flat segments

-- how a segment's version compares with this one
abbrev pub against : ℕ → Segment → Ordering
against version s = nat_cmp s.version version

-- a segment has batches, all of its version
pub record IsSegment (s : Segment) : Type 0 where
  pub some : is_nil s.chain ≡ false
  pub own : AllByRecursion (λ b. b.key.version ≡ s.version) s.chain

-- the versions of the segments rise
abbrev pub AreSegments : List Segment → Type 0
AreSegments segments = InOrder (λ one two. one.version < two.version) segments × AllByRecursion IsSegment segments
