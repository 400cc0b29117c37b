use Rattle.std.proofs.Common.{◌≡◌, ◌≤◌, ◌+◌, drop, map}
use Rattle.std.specs.Prelude.{count_by}
use Rattle.ndc_reset.specs.Reset.{is_kept}
use Rattle.ndc_reset.proofs.plan.count_kinds.Given as goal

-- with those ahead, the count is that of all, and each event counts once at most
abbrev pub invariant-loop-event : goal.invariant-loop-event
invariant-loop-event l = record {
  rest : l.count + count_by (is_kept l.point) (map (λ e. e.now) (drop l.event-index l.history)) ≡ count_by (is_kept l.point) (map (λ e. e.now) l.history) + 2;
  few : l.count ≤ l.event-index + 2;
}
