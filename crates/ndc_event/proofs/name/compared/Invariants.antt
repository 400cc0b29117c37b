use Rattle.std.proofs.Common.{◌≡◌, drop}
use Rattle.std.specs.Cmp.Lexicographic.{slice_cmp}
use Rattle.std.specs.Ordering.{nat_cmp}
use Rattle.ndc_event.proofs.name.compared.Given as goal

-- the texts compare as what is left of them
abbrev pub invariant-loop-place : goal.invariant-loop-place
invariant-loop-place l = slice_cmp nat_cmp (drop l.place l.one) (drop l.place l.two) ≡ slice_cmp nat_cmp l.one l.two
