use Rattle.std.proofs.Common.{sym, ◌∙◌}
use Rattle.ndc_command.proofs.JudgeLemmas.{actions_refused, gives_error}
use Rattle.ndc_command.proofs.judge.push_actions.Goals as goal

-- the refusal of an action is that of all
pub returns-in_err-judge : goal.returns-in_err-judge
returns-in_err-judge c =
    gives_error _ c.from_residual.result _ c.in_err-judge.field-0.0 c.from_residual.ensures.1
    (sym c.loop-action.invariant ∙ actions_refused _ _ _ _ _ _ _ c.loop-action-test.true c.action-item.is (sym c.in_err-judge.ensures))
