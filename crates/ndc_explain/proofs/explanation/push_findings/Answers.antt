use Rattle.std.proofs.Common.{Bool, List, ℕ, ◌++◌, ap, append_assoc, ◌∙◌}
use Rattle.std.specs.List.{flat_map}
use Rattle.ndc_explain.specs.Explanation.{counts_line, is_open}
use Rattle.ndc_explain.specs.Losses.{sides_told}
use Rattle.ndc_explain.specs.Signals.{signal_line}
use Rattle.ndc_explain.proofs.explanation.push_findings.Goals as goal

pub returns : goal.returns
returns c =
    let clusters = c.args.clusters.now in
    let dump = c.args.dump.now in
    let found = c.args.found.now in
    let text = c.args.text.now.items in
    let sides = sides_told clusters c.args.all found.sides in
    let fates : Bool → List ℕ = λ open_now. flat_map (signal_line clusters dump.workflow open_now found.settlers) found.signals in
    let counts = counts_line c.args.all dump.view found in
    c.in_ok-push_counts.ensures
    ∙ ap (λ (z : List ℕ). z ++ counts)
    (c.in_ok-push_fates.ensures ∙ ap (λ (z : List ℕ). z ++ fates c.has_open.result) c.in_ok-push_sides.ensures ∙ ap (λ (open_now : Bool). (text ++ sides) ++ fates open_now) c.has_open.ensures)
    ∙ append_assoc (text ++ sides) (fates (is_open dump.view.runs)) counts
    ∙ append_assoc text sides (fates (is_open dump.view.runs) ++ counts)
