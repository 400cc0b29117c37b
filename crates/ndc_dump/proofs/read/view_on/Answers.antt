use Rattle.std.proofs.Common.{List, ◌++◌, codes, map, ap, ◌∙◌}
use Rattle.std.specs.List.{flat_map}
use Rattle.ndc_event.specs.declared.batch.Batch.{Batch}
use Rattle.ndc_model_sets.specs.View.{view_of}
use Rattle.ndc_model_sets.specs.declared.view.RunView.{RunView}
use Rattle.ndc_text.specs.Views.{run_state_lines}
use Rattle.ndc_dump.specs.Lines.{differ_at, lines_of}
use Rattle.ndc_dump.proofs.ViewLines.{shown-other, shown-same, standing-view}
use Rattle.ndc_dump.proofs.read.view_on.Goals as goal

pub returns-in_ok-standing_for-in-None : goal.returns-in_ok-standing_for-in-None
returns-in_ok-standing_for-in-None c =
    let lines = map (λ line. line.now) c.args.lines.now in
    let batches = c.args.batches.items in
    let runs = c.in_ok-runs.ensures ∙ ap (λ (bs : List Batch). (view_of bs).runs) c.as_slice.ensures.value in
    shown-same c.args.number lines c.args.form batches c.in_ok-runs.runs.items c.in_ok-first_other.field-0 (record { batches = c.new.result; runs = c.new-in-None.result }) runs
    (c.in_ok-first_other.ensures ∙ ap (λ (rs : List RunView). differ_at c.args.number lines (lines_of (flat_map run_state_lines rs ++ codes "end\n"))) c.as_slice-2.ensures.value)
    c.in-None.is (standing-view c.args.form batches c.new.result c.new-in-None.result (c.new.ensures ∙ c.in_ok-standing_for-in-None.ensures) (c.new-in-None.ensures ∙ runs))

pub returns-in-Some : goal.returns-in-Some
returns-in-Some c = λ _.
    let lines = map (λ line. line.now) c.args.lines.now in
    let batches = c.args.batches.items in
    shown-other c.args.number c.in-Some.line lines c.args.form batches c.in_ok-runs.runs.items c.in_ok-first_other.field-0
    (c.in_ok-runs.ensures ∙ ap (λ (bs : List Batch). (view_of bs).runs) c.as_slice.ensures.value)
    (c.in_ok-first_other.ensures ∙ ap (λ (rs : List RunView). differ_at c.args.number lines (lines_of (flat_map run_state_lines rs ++ codes "end\n"))) c.as_slice-2.ensures.value)
    c.in-Some.is
