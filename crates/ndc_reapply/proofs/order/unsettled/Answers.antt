use Rattle.std.proofs.Common.{◌≡◌, ◌∙◌, ◌-◌, ◌+◌, ℕ, length, get_or, arith, ap, sym, subst}
use Rattle.ndc_reapply.specs.Strays.{with_stray}
use Rattle.ndc_reapply.proofs.StrayLemmas.{strays_of-put, strays_of-skip}
use Rattle.ndc_reapply.proofs.order.unsettled.Goals as goal
use Rattle.ndc_reapply.proofs.order.unsettled.Goals.{then-not-is_settled+in_ok-try_copy+in_ok-put, else-not-is_settled}

-- the signal at the place goes to those after it, unless its origin is settled
pub loop-taken-preserved : goal.loop-taken-preserved
loop-taken-preserved c =
    let count = length c.args.signals.now in
    let signal = c.index-signals-place.result in
    let place : count - 1 - c.loop-taken.taken ≡ count - (c.loop-taken.taken + 1) = omega arith in
    let before : count - (c.loop-taken.taken + 1) + 1 ≡ count - c.loop-taken.taken = omega arith in
    let at : signal ≡ get_or c.args.signals.now (count - (c.loop-taken.taken + 1)) signal = subst (λ (i : ℕ). signal ≡ get_or c.args.signals.now i signal) place c.index-signals-place.is in
    elim c.if-not-is_settled.branch [
      | then-not-is_settled+in_ok-try_copy+in_ok-put w ↦
          w.found-is ∙ w.in_ok-put.ensures.ok ∙ ap (λ s. with_stray s c.loop-taken.found) w.in_ok-try_copy.ensures ∙ ap (with_stray signal) c.loop-taken.invariant
          ∙ strays_of-put c.args.signals.now c.args.settled.now.keys (count - (c.loop-taken.taken + 1)) (count - c.loop-taken.taken) signal before (omega arith) at (sym c.is_settled.ensures ∙ w.if-not-is_settled.true)
      | else-not-is_settled w ↦
          w.found-is ∙ c.loop-taken.invariant
          ∙ strays_of-skip c.args.signals.now c.args.settled.now.keys (count - (c.loop-taken.taken + 1)) (count - c.loop-taken.taken) signal before (omega arith) at (sym c.is_settled.ensures ∙ w.if-not-is_settled.false)
    ]
