use Rattle.std.proofs.Common.{◌≡◌, ◌∙◌, Ok, ap, sym, subst}
use Rattle.ndc_model_sets.specs.Current.{state_to}
use Rattle.ndc_model_sets.specs.Keys.{is_key}
use Rattle.ndc_run.specs.Learning.{leads_over, joined, of_state_error}
use Rattle.ndc_run.specs.declared.answer.Learned.TheVariants.{New}
use Rattle.ndc_run.specs.declared.run.Branch.{Branch}
use Rattle.ndc_run.specs.Run.{state_before}
use Rattle.ndc_model_sets.specs.Reading.{current_key}
use Rattle.ndc_tree.specs.Tree.{TreeValue, Joins}
use Rattle.ndc_run.proofs.LearnLemmas.{inside-led, joined-beside, joined-Err, was-Ok}
use Rattle.ndc_run.proofs.run.Run.extend_beside.Goals as goal

pub invariant_of-self : goal.invariant_of-self
invariant_of-self g c =
    let v = c.self.inside.tree in
    let b = c.args.batch.now in
    let held = c.as_mut-held.result.now in
    let own = ap (λ (b : Branch). b.state) c.as_mut-held.ensures.value
    ∙ subst (λ (t : TreeValue). c.args.branch.value.state ≡ state_to t.run c.args.branch.value.tip t.batches) (sym c.self.view_is) c.requires.state in
    inside-led v.run v.batches b c.self.invariant.run (subst (λ (t : TreeValue). Joins t.run t.batches b) (sym c.self.view_is) c.requires.joins) c.requires.ids
    held.state c.grow.new.state c.self.inside.kept c.grow.new.kept c.grow.new.tree c.self.invariant.kept
    (own ∙ sym (ap (λ o. state_before v.run o v.batches) c.requires.parent)) (was-Ok of_state_error _ c.grow.new.state c.in-Ok.ensures.answer) c.in-Ok.ensures.tree c.grow.ensures.run c.in-Ok.ensures.kept
    c.self.inside.state c.lead.new.current c.args.branch.value.tip c.current-tip.result c.lead.new.held c.requires.parent c.self.invariant.current c.current-tip.ensures c.lead.ensures.current c.lead.ensures.beside

pub returns-in-Ok-clause-answer : goal.returns-in-Ok-clause-answer
returns-in-Ok-clause-answer g c =
    let v = c.self.inside.tree in
    let b = c.args.batch.now in
    let held = c.as_mut-held.result.now in
    let own = ap (λ (b : Branch). b.state) c.as_mut-held.ensures.value
    ∙ subst (λ (t : TreeValue). c.args.branch.value.state ≡ state_to t.run c.args.branch.value.tip t.batches) (sym c.self.view_is) c.requires.state in
    ap (λ (t : TreeValue). joined t.run t.batches b) (sym c.self.view_is)
    ∙ joined-beside v.run v.batches b c.self.invariant.run (subst (λ (t : TreeValue). Joins t.run t.batches b) (sym c.self.view_is) c.requires.joins) held.state c.grow.new.state
    c.args.branch.value.tip c.requires.parent (ap (λ (t : TreeValue). is_key c.args.branch.value.tip (current_key t.run t.batches)) c.self.view_is ∙ c.requires.apart) own c.in-Ok.ensures.answer
    ∙ ap (λ t. Ok (New t)) (sym (c.leads_over-switched.ensures ∙ ap (leads_over b.key) c.current-tip.ensures))

pub returns-in-Err-clause-answer : goal.returns-in-Err-clause-answer
returns-in-Err-clause-answer g c = λ e.
    let v = c.self.inside.tree in
    let b = c.args.batch.now in
    let held = c.as_mut-held.result.now in
    let own = ap (λ (b : Branch). b.state) c.as_mut-held.ensures.value
    ∙ subst (λ (t : TreeValue). c.args.branch.value.state ≡ state_to t.run c.args.branch.value.tip t.batches) (sym c.self.view_is) c.requires.state in
    ap (λ (t : TreeValue). joined t.run t.batches b) (sym c.self.view_is)
    ∙ joined-Err v.run v.batches b c.self.invariant.run (subst (λ (t : TreeValue). Joins t.run t.batches b) (sym c.self.view_is) c.requires.joins) held.state c.in-Err.error
    (own ∙ sym (ap (λ o. state_before v.run o v.batches) c.requires.parent)) (c.in-Err.ensures.answer e)
