use Rattle.std.proofs.Common.{◌≡◌, IfOk, Option, List, map, ◌∙◌, ap, subst}
use Rattle.std.specs.Option.{option_map}
use Rattle.ndc_event.specs.declared.batch.Batch.{Batch}
use Rattle.ndc_model_sets.specs.Reading.{path_at}
use Rattle.ndc_tree.specs.Tree.{TreeValue}
use Rattle.ndc_shard_runs.proofs.StrayLemmas.{path-part}
use Rattle.ndc_shard_runs.proofs.runs.Runs.path.Goals as goal

pub returns-in-Some : goal.returns-in-Some
returns-in-Some c =
    subst (λ (o : Option (List Batch)). IfOk c.path_batches.result (λ path. option_map (λ list. map (λ b. b.now) list.items) path ≡ o))
    (ap (λ (v : TreeValue). path_at c.args.key v.batches) c.tree.ensures.tree ∙ path-part c.args.self.now c.run_of.ensures.sound c.args.key c.in-Some.run'.now c.in-Some.ensures.run)
    c.path_batches.ensures
