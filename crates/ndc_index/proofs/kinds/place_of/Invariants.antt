use Rattle.std.proofs.Common.{map}
use Rattle.ndc_index.proofs.KindLemmas.{AreBefore}
use Rattle.ndc_index.proofs.kinds.place_of.Given as goal

abbrev pub invariant-loop-place : goal.invariant-loop-place
invariant-loop-place l = AreBefore l.name (map (λ entry. (entry.name, entry.count)) l.counts) l.place
