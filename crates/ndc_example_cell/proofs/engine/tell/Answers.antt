use Rattle.std.proofs.Common.{◌∙◌, sym}
use Rattle.ndc_example_cell.proofs.SharedLemmas.{place-sent}
use Rattle.ndc_example_cell.proofs.engine.tell.Goals as goal

pub hear_last-requires-clause-sent : goal.hear_last-requires-clause-sent
hear_last-requires-clause-sent c =
    place-sent c.args.mine.now c.is_in_order.ensures.cell (record { domain = c.args.shared.now.domain.now; workflow = c.args.shared.now.workflow.now; key = c.args.key }) c.in-Some.message (sym c.in_ok-message.ensures ∙ c.in-Some.is)
