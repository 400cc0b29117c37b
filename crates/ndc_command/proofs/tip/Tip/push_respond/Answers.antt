use Rattle.std.proofs.Common.{sym}
use Rattle.ndc_command.proofs.JoinLemmas.{responded, gives_same}
use Rattle.ndc_command.proofs.tip.Tip.push_respond.Goals as goal

-- its actions are judged by the names that are pending at the tip
pub returns : goal.returns
returns c =
    gives_same _ c.push_actions.result _ _
    (responded c.args.self.now.version c.args.self.now.next_run c.args.self.now.state.now c.decision.result c.args.actions.now c.as_slice.result.now
    c.args.kinds.now.items c.push.new.self.items c.decision.ensures (sym c.in_ok-needs_started.ensures) c.as_slice.ensures c.in_ok-push.ensures.items)
    c.push_actions.ensures
