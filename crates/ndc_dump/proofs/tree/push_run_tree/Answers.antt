use Rattle.std.proofs.Common.{ap, ◌∙◌, List, ℕ, map, ◌++◌, Some}
use Rattle.std.specs.List.{flat_map}
use Rattle.ndc_model_sets.specs.Learned.{has_key}
use Rattle.ndc_model_sets.specs.Paths.{path_from}
use Rattle.ndc_text.specs.Views.{branch_line, run_line}
use Rattle.ndc_dump.specs.Marks.{current_key, path_lines}
use Rattle.ndc_text.proofs.Joining.{three_pieces}
use Rattle.ndc_dump.proofs.Trees.{same_marks}
use Rattle.ndc_dump.proofs.tree.push_run_tree.Goals as goal

pub returns : goal.returns
returns c =
    let run = c.args.run.now in
    let batches = map (λ b. b.now) c.args.batches.now in
    three_pieces c.args.text.now.items (run_line run) (path_lines (path_from (current_key run.branches) batches) batches) (flat_map branch_line run.branches)
    c.push_run_line.new.text.items c.push_batch_lines.new.text.items c.push_branch_lines.new.text.items
    c.in_ok-push_run_line.ensures
    (c.in_ok-push_batch_lines.ensures ∙ ap (λ (z : List ℕ). c.push_run_line.new.text.items ++ z)
    (same_marks _ (path_from (current_key run.branches) batches) batches
    (λ key. c.in_ok-keys.ensures key ∙ ap (λ o. has_key (Some key) (path_from o batches)) (c.current_key.ensures ∙ ap current_key c.as_slice-branches.ensures))))
    (c.in_ok-push_branch_lines.ensures ∙ ap (λ branches. c.push_batch_lines.new.text.items ++ flat_map branch_line branches) c.as_slice-branches.ensures)
