use Rattle.std.proofs.Common.{◌∙◌, [], ◌∷◌, sym, subst, List}
use Rattle.std.specs.List.{AllByRecursion}
use Rattle.ndc_model_cells.specs.Cells.{Cell}
use Rattle.ndc_model_cells.specs.declared.message.Message.{Message}
use Rattle.ndc_example_cell.specs.Shared.{CanTell}
use Rattle.ndc_shard.specs.Loading.{IsSentBy}
use Rattle.ndc_shard.proofs.LoadLemmas.{given-sent}
use Rattle.ndc_model_sets.proofs.Lists.{all-from}
use Rattle.ndc_model_cells.specs.Domains.{learned_of_domains}
use Rattle.ndc_example_cell.proofs.SharedLemmas.{remake-then, tell-new}
use Rattle.ndc_example_cell.proofs.engine.remake.Goals as goal

pub learn_all-requires-clause-told : goal.learn_all-requires-clause-told
learn_all-requires-clause-told c =
    subst (λ (cell : Cell). CanTell c.args.shared.now.most c.args.shared.now.domain.now c.args.shared.now.workflow.now c.args.mine.now cell) (sym c.in_ok-copy.ensures)
    (tell-new c.args.shared.now.clusters.now c.args.shared.now.me c.args.shared.now.them c.args.shared.now.most c.args.shared.now.domain.now c.args.shared.now.workflow.now c.args.mine.now c.args.theirs.now c.requires)

pub learn_all-requires-clause-sent : goal.learn_all-requires-clause-sent
learn_all-requires-clause-sent c =
    subst (λ (l : List Message). AllByRecursion (IsSentBy c.args.mine.now) l) (sym (c.as_slice.ensures.value ∙ c.in_ok-messages.ensures)) (all-from (IsSentBy c.args.mine.now) (learned_of_domains (c.args.shared.now.domain.now ∷ []) c.args.mine.now) (given-sent c.args.mine.now c.is_in_order.ensures.cell (c.args.shared.now.domain.now ∷ [])))

pub returns : goal.returns
returns c =
    remake-then c.args.shared.now.clusters.now c.args.shared.now.me c.args.shared.now.them c.args.shared.now.most c.args.shared.now.domain.now c.args.shared.now.workflow.now c.args.mine.now c.args.theirs.now _ _ _ c.requires
    (record { cell_is = c.is_in_order.ensures.cell; workflows = c.is_in_order.ensures.workflows; carried = c.is_in_order.ensures.carried })
    c.in_ok-learn_all.ensures (c.as_slice.ensures.value ∙ c.in_ok-messages.ensures) c.in_ok-copy.ensures
