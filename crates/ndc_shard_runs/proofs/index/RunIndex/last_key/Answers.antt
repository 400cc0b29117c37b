use Rattle.std.proofs.Common.{List, ◌∙◌, ap, subst}
use Rattle.std.specs.Option.{option_map}
use Rattle.ndc_model_sets.specs.Last.{last_batch}
use Rattle.ndc_tree.specs.Tree.{TreeValue}
use Rattle.ndc_shard_runs.specs.Index.{AreIndexed}
use Rattle.ndc_shard_runs.specs.RunMap.{all_of}
use Rattle.ndc_shard_runs.proofs.IndexLemmas.{last-of-one, last-placed}
use Rattle.ndc_shard_runs.proofs.index.RunIndex.last_key.Goals as goal

pub returns-in_ok-only_tree-in-None : goal.returns-in_ok-only_tree-in-None
returns-in_ok-only_tree-in-None c =
    let only = c.in_ok-only_tree-in-None.ensures in
    c.current.ensures ∙ last-of-one c.self.inside.runs c.in_ok-only_tree-in-None.field-0.now only.all only.tree
    ∙ ap (λ (l : List TreeValue). option_map (λ b. b.key) (last_batch (all_of l))) c.self.view_is

pub returns-in-Some : goal.returns-in-Some
returns-in-Some c =
    c.last_key.ensures ∙ last-placed c.self.inside.runs c.in-Some.places (subst (λ o. AreIndexed c.self.inside.runs o) c.in-Some.is c.self.invariant)
    ∙ ap (λ (l : List TreeValue). option_map (λ b. b.key) (last_batch (all_of l))) c.self.view_is
