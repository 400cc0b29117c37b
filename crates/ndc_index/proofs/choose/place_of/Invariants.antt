use Rattle.std.proofs.Common.{◌≡◌, ℕ, ◌<◌, false, [], map, slice_index_or}
use Rattle.std.specs.Str.{bytes_eq}
use Rattle.ndc_index.proofs.choose.place_of.Given as goal

abbrev pub invariant-loop-place : goal.invariant-loop-place
invariant-loop-place g l = (k : ℕ) → k < l.place → bytes_eq (slice_index_or (map (λ b. (goal.Indexer-dyn g (b.vtable, b.value)).title b.value) l.all) k []) l.name ≡ false
