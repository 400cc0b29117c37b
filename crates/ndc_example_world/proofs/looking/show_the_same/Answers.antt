use Rattle.std.proofs.Common.{◌≡◌, List, ℕ, ap, sym, subst, ◌∙◌}
use Rattle.std.proofs.lemmas.Slice.Eq.{bytes_eq-Decides}
use Rattle.ndc_example_world.specs.Shown.{shown_of}
use Rattle.ndc_example_world.proofs.AlikeLemmas.{one_list}
use Rattle.ndc_model.specs.Facts.{IsReached}
use Rattle.ndc_model.specs.Reading.{learned_at}
use Rattle.ndc_model_cells.specs.Cells.{Cell, learned_of}
use Rattle.ndc_script_types.specs.declared.script.Header.{Header}
use Rattle.ndc_example_world.proofs.looking.show_the_same.Goals as goal

pub returns : goal.returns
returns c = λ same.
    let header = c.args.header.now in
    let value = c.args.world.now in
    let domain = c.args.domain.now in
    let workflow = c.args.workflow.now in
    let clusters : IsReached header value.lines value.world = subst (λ (h : Header). IsReached h value.lines value.world) c.requires.header c.is_reached.ensures.clusters in
    let learned = one_list header value.lines value.world c.args.one c.args.two domain workflow c.requires.fit c.requires.one c.requires.two clusters same in
    let here : c.as_slice.result.now ≡ shown_of domain workflow (learned_at header c.args.one domain workflow value.world) =
    c.as_slice.ensures.value ∙ c.in_ok-here.ensures ∙ ap (λ (cell : Cell). shown_of domain workflow (learned_of domain workflow cell)) c.cell.ensures in
    let there : c.as_slice-2.result.now ≡ shown_of domain workflow (learned_at header c.args.two domain workflow value.world) =
    c.as_slice-2.ensures.value ∙ c.in_ok-there.ensures ∙ ap (λ (cell : Cell). shown_of domain workflow (learned_of domain workflow cell)) c.cell-2.ensures in
    c.eq.ensures ∙ (bytes_eq-Decides c.as_slice.result.now c.as_slice-2.result.now).1 (here ∙ ap (shown_of domain workflow) learned ∙ sym there)
