use Rattle.std.proofs.Common.{◌≡◌, ◌∙◌, IfOk, Some, ap, sym, subst}
use Rattle.ndc_model_sets.specs.Current.{state_to}
use Rattle.ndc_state.specs.Value.{StateValue}
use Rattle.ndc_tree.specs.Tree.{TreeValue}
use Rattle.ndc_model_sets.specs.Keys.{is_key}
use Rattle.ndc_run.specs.declared.run.Branch.{Branch}
use Rattle.ndc_run.specs.RunFields.{unboxed}
use Rattle.ndc_run.proofs.LearnLemmas.{held-state, current-held}
use Rattle.ndc_run.proofs.run.Run.state_at.Goals as goal

pub returns-then-is_key-clause-state : goal.returns-then-is_key-clause-state
returns-then-is_key-clause-state g c =
    let v = c.self.inside.tree in
    subst (λ (s : StateValue). IfOk c.try_copy.result (λ copy. copy ≡ s))
    (c.self.invariant.current ∙ current-held v.run v.batches c.args.key (ap (is_key c.args.key) (sym c.current.ensures) ∙ sym c.is_key.ensures ∙ c.if-is_key.true)
    ∙ ap (λ (t : TreeValue). state_to t.run c.args.key t.batches) c.self.view_is)
    c.try_copy.ensures

pub returns-then-is_key-2-clause-state : goal.returns-then-is_key-2-clause-state
returns-then-is_key-2-clause-state g c =
    let v = c.self.inside.tree in
    subst (λ (s : StateValue). IfOk c.try_copy-then-is_key-2.result (λ copy. copy ≡ s))
    (ap (λ (b : Branch). b.state) c.as_ref-held.ensures
    ∙ held-state v.run v.batches (unboxed c.self.inside.beside) c.in-Some.branch.value c.args.key c.self.invariant.beside (ap unboxed c.in-Some.is)
    (ap (λ (b : Branch). is_key c.args.key (Some b.tip)) (sym c.as_ref-held.ensures) ∙ sym c.is_key-in-Some.ensures ∙ c.if-is_key-2.true)
    ∙ ap (λ (t : TreeValue). state_to t.run c.args.key t.batches) c.self.view_is)
    c.try_copy-then-is_key-2.ensures
