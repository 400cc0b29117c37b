use Rattle.std.proofs.Common.{◌≡◌, ℕ, ◌<◌, false, ◌||◌, ◌&&◌, length, get_or}
use Rattle.std.specs.Prelude.{nat_lt}
use Rattle.ndc_domain.proofs.members.Members.union.Given as goal

-- the flags gone over are those of both
abbrev pub invariant-loop-place : goal.invariant-loop-place
invariant-loop-place l = record {
  eight : length l.flags ≡ 8;
  set : (k : ℕ) → k < 8 → get_or l.flags k false ≡ (get_or l.initial.flags k false || (nat_lt k l.place && get_or l.other-inside.flags k false));
}
