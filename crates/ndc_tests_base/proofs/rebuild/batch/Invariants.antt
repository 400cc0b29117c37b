use Rattle.std.proofs.Common.{◌≤◌, ◌^◌, All}
use Rattle.ndc_tests_base.proofs.rebuild.batch.Given as goal

-- the ids so far are small
abbrev pub invariant-loop-place : goal.invariant-loop-place
invariant-loop-place l = All (λ event. event.id ≤ 10 ^ 12) l.events.items
