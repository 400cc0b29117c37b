use Rattle.std.proofs.Common.{◌≡◌, ◌<◌, ◌^◌, List, ap, map, subst, sym, ◌∙◌}
use Rattle.std.specs.List.{AllByRecursion}
use Rattle.ndc_event.specs.declared.batch.Batch.{Batch}
use Rattle.ndc_model_cells.specs.Writing.{greatest_task}
use Rattle.ndc_model_sets.specs.Branches.{runs}
use Rattle.ndc_tree.specs.Tree.{TreeValue}
use Rattle.ndc_shard_runs.specs.RunMap.{all_of, run_in}
use Rattle.ndc_shard_runs.proofs.ListedLemmas.{parts_own, runs_listed}
use Rattle.ndc_shard_runs.proofs.runs.Runs.all_runs.Goals as goal

pub returns-clause-ids : goal.returns-clause-ids
returns-clause-ids c =
    let list = c.self.inside.runs in
    let most : greatest_task (all_of list) < 2 ^ 64 = subst (λ n. n < 2 ^ 64) (c.greatest_task-greatest.ensures ∙ ap greatest_task (sym c.self.view_is)) c.greatest_task-greatest.type_inv in
    ap (map (λ (r : TreeValue). r.run)) c.as_slice.ensures.list
    ∙ runs_listed list c.as_slice.ensures.order c.self.invariant.sound c.self.invariant.parts c.self.invariant.full most
    ∙ ap (λ (batches : List Batch). runs batches) c.self.view_is

pub returns-clause-parts : goal.returns-clause-parts
returns-clause-parts c =
    let list = c.self.inside.runs in
    let most : greatest_task (all_of list) < 2 ^ 64 = subst (λ n. n < 2 ^ 64) (c.greatest_task-greatest.ensures ∙ ap greatest_task (sym c.self.view_is)) c.greatest_task-greatest.type_inv in
    subst (λ (l : List TreeValue). AllByRecursion (λ (r : TreeValue). r ≡ run_in c.args.self.now r.run) l) (sym c.as_slice.ensures.list)
    (subst (λ (batches : List Batch). AllByRecursion (λ (r : TreeValue). r ≡ run_in batches r.run) list) c.self.view_is
    (parts_own list c.as_slice.ensures.order c.self.invariant.sound c.self.invariant.parts c.self.invariant.full most))
