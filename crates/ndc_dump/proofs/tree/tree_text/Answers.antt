use Rattle.std.proofs.Common.{ℕ, List, ◌++◌, codes, ap, ◌∙◌}
use Rattle.std.specs.List.{flat_map}
use Rattle.ndc_shard_runs.specs.RunMap.{part_of}
use Rattle.ndc_model_sets.specs.declared.view.RunView.{RunView}
use Rattle.ndc_dump.specs.Groups.{listed}
use Rattle.ndc_dump.specs.Marks.{run_tree}
use Rattle.ndc_dump.proofs.Trees.{tree_same}
use Rattle.ndc_dump.proofs.tree.tree_text.Goals as goal

pub returns : goal.returns
returns c =
    let view = c.args.view.now in
    let lists = c.in_ok-batches.batches in
    let names : List ℕ → List ℕ = λ word. word ++ c.args.domain.now ++ codes " " ++ c.args.workflow.now ++ codes "\n" in
    c.in_ok-push_run_trees.ensures
    ∙ ap (λ (runs : List RunView). c.push_heading.new.text.items ++ flat_map (λ run. run_tree (listed run.run lists) run) runs) c.as_slice-3.ensures
    ∙ ap (λ (z : List ℕ). z ++ flat_map (λ run. run_tree (listed run.run lists) run) view.runs)
    (c.in_ok-push_heading.ensures ∙ ap (λ word. c.new-text.result.items ++ names word) c.as_slice-2.ensures ∙ ap (λ (z : List ℕ). z ++ names (codes "workflow ")) c.new-text.ensures.items)
    ∙ tree_same c.args.domain.now c.args.workflow.now view lists c.requires.shown c.requires.sound (λ run. c.in_ok-batches.ensures run ∙ ap (part_of run) c.as_slice.ensures)
