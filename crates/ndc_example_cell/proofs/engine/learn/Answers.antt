use Rattle.ndc_example_cell.proofs.SharedLemmas.{learn-then, told-arrives}
use Rattle.ndc_example_cell.proofs.engine.learn.Goals as goal

pub arrive-requires : goal.arrive-requires
arrive-requires c =
    told-arrives c.args.shared.now.most c.args.shared.now.domain.now c.args.shared.now.workflow.now c.args.mine.now c.args.copy.now c.requires.told (record { cell_is = c.is_in_order.ensures.cell; workflows = c.is_in_order.ensures.workflows; carried = c.is_in_order.ensures.carried })
    (record { cell_is = c.is_in_order-2.ensures.cell; workflows = c.is_in_order-2.ensures.workflows; carried = c.is_in_order-2.ensures.carried }) c.args.message.now c.requires.sent

pub returns-clause-told : goal.returns-clause-told
returns-clause-told c =
    learn-then c.args.shared.now.most c.args.shared.now.domain.now c.args.shared.now.workflow.now c.args.mine.now c.args.copy.now c.arrive.new.self c.requires.told (record { cell_is = c.is_in_order.ensures.cell; workflows = c.is_in_order.ensures.workflows; carried = c.is_in_order.ensures.carried })
    (record { cell_is = c.is_in_order-2.ensures.cell; workflows = c.is_in_order-2.ensures.workflows; carried = c.is_in_order-2.ensures.carried }) c.args.message.now c.requires.sent c.in_ok-arrived.ensures.cell
