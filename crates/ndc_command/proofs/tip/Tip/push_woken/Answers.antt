use Rattle.ndc_command.proofs.TipLemmas.{woken_behind}
use Rattle.ndc_command.proofs.tip.Tip.push_woken.Goals as goal

pub returns : goal.returns
returns c = woken_behind _ _ _ _ _ _ c.in_ok-push.ensures.items c.in_ok-push_wake.ensures.ok
