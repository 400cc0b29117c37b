use Rattle.ndc_example_cell.proofs.SharedLemmas.{hear-arrives, hear-then}
use Rattle.ndc_example_cell.proofs.engine.hear.Goals as goal

pub arrive-requires : goal.arrive-requires
arrive-requires c =
    hear-arrives _ _ _ _ _ _ _ _ c.requires.shared (record { cell_is = c.is_in_order.ensures.cell; workflows = c.is_in_order.ensures.workflows; carried = c.is_in_order.ensures.carried })
    (record { cell_is = c.is_in_order-2.ensures.cell; workflows = c.is_in_order-2.ensures.workflows; carried = c.is_in_order-2.ensures.carried }) c.args.message.now c.requires.sent

pub returns : goal.returns
returns c =
    hear-then _ _ _ _ _ _ _ _ c.arrive.new.self c.requires.shared (record { cell_is = c.is_in_order.ensures.cell; workflows = c.is_in_order.ensures.workflows; carried = c.is_in_order.ensures.carried })
    (record { cell_is = c.is_in_order-2.ensures.cell; workflows = c.is_in_order-2.ensures.workflows; carried = c.is_in_order-2.ensures.carried }) c.args.message.now c.requires.sent c.in_ok-arrived.ensures.cell
