use Rattle.std.proofs.Common.{◌≡◌, drop, length, map}
use Rattle.ndc_world_queries.proofs.comparing.are_equal.Given as goal

-- the lists are one where the rests are
abbrev pub invariant-loop-place : goal.invariant-loop-place
invariant-loop-place l = record {
  to : map (λ b. b.now) (drop l.place l.one) ≡ map (λ b. b.now) (drop l.place l.two) → map (λ b. b.now) l.one ≡ map (λ b. b.now) l.two;
  from : map (λ b. b.now) l.one ≡ map (λ b. b.now) l.two → map (λ b. b.now) (drop l.place l.one) ≡ map (λ b. b.now) (drop l.place l.two);
  alike : length l.one ≡ length l.two;
}
