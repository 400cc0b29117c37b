use Rattle.std.proofs.Common.{◌∙◌, sym, subst, List}
use Rattle.std.specs.List.{AllByRecursion}
use Rattle.ndc_model_cells.specs.declared.message.Message.{Message}
use Rattle.ndc_shard.specs.Loading.{IsSentBy}
use Rattle.ndc_example_cell.proofs.SharedLemmas.{served-sent}
use Rattle.ndc_example_cell.proofs.engine.repair.Goals as goal

pub hear_all-requires-clause-sent : goal.hear_all-requires-clause-sent
hear_all-requires-clause-sent c =
    subst (λ (l : List Message). AllByRecursion (IsSentBy c.args.mine.now) l) (sym (c.as_slice.ensures.value ∙ c.in_ok-served.ensures)) (served-sent c.args.mine.now c.is_in_order.ensures.cell c.gap-item.result)
