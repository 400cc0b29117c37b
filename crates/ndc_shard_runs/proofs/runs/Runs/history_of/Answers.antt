use Rattle.std.proofs.Common.{◌≡◌, IfOk, Option, List, ◌∙◌, ap, subst}
use Rattle.ndc_history.specs.declared.item.Item.{Item}
use Rattle.ndc_model_sets.specs.Reading.{history_at}
use Rattle.ndc_tree.specs.Tree.{TreeValue}
use Rattle.ndc_shard_runs.proofs.StrayLemmas.{history-part}
use Rattle.ndc_shard_runs.proofs.runs.Runs.history_of.Goals as goal

pub returns-in-Some : goal.returns-in-Some
returns-in-Some c =
    subst (λ (o : Option (List Item)). IfOk c.history_of.result (λ history. history ≡ o))
    (ap (λ (v : TreeValue). history_at c.args.key v.batches) c.tree.ensures.tree ∙ history-part c.args.self.now c.run_of.ensures.sound c.args.key c.in-Some.run'.now c.in-Some.ensures.run)
    c.history_of.ensures
