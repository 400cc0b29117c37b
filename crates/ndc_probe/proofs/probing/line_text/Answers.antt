use Rattle.std.proofs.Common.{◌++◌, ◌∙◌, ℕ, List, ap}
use Rattle.std.specs.List.{flat_map}
use Rattle.ndc_probe.specs.Answers.{answer_to}
use Rattle.ndc_probe.specs.Comments.{commented}
use Rattle.ndc_probe.specs.Notices.{noticed}
use Rattle.ndc_probe.proofs.ProbeLemmas.{line_is}
use Rattle.ndc_probe.proofs.probing.line_text.Goals as goal

pub returns-clause-text : goal.returns-clause-text
returns-clause-text g c = λ w stand.
    let header = c.args.header.now in
    let before = c.args.world.now in
    let after = c.step.new.self in
    let line = c.args.line.now in
    let told = c.in_ok-answer.ensures.steps.behind w stand in
    let answers = commented (flat_map (answer_to header before.world) c.args.asked.now) in
    let notices = commented (noticed header line.act after.world) in
    c.in_ok-push_notices.ensures
    ∙ ap (λ (l : List ℕ). l ++ notices)
    (c.in_ok-extend_from_slice.ensures.items
    ∙ ap (λ (l : List ℕ). l ++ c.as_slice.result.now) (c.in_ok-push_answers.ensures ∙ ap (λ (l : List ℕ). l ++ answers) c.new-text.ensures.items)
    ∙ ap (λ (l : List ℕ). answers ++ l) (c.as_slice.ensures.value ∙ ap (λ v. v.text) c.answer.view_is))
    ∙ line_is header before after line c.args.asked.now w c.in_ok-answer.field-0.text c.requires.header stand.clusters told.stands.clusters told.answers
