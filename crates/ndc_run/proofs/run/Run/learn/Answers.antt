use Rattle.std.proofs.Common.{◌≡◌, ◌∙◌, OnOk, subst, sym, Result}
use Rattle.ndc_event.specs.Outcome.{Gives}
use Rattle.ndc_run.specs.declared.answer.Learned.{Learned}
use Rattle.ndc_run.specs.declared.answer.RunError.{RunError}
use Rattle.ndc_run.specs.declared.answer.RunError.TheVariants.{Memory}
use Rattle.ndc_run.specs.Learning.{joined}
use Rattle.ndc_model_sets.specs.Sets.{arrived}
use Rattle.ndc_tree.specs.Tree.{TreeValue, IsTree, Joins}
use Rattle.ndc_run.proofs.LearnLemmas.{not-known, switched-of}
use Rattle.ndc_run.proofs.run.Run.learn.Goals as goal

pub returns-clause-switched : goal.returns-clause-switched
returns-clause-switched g c = λ switched e.
    let v = c.args.self.now in
    let b = c.args.batch.now in
    switched-of v.run v.batches b c.take_in.new.self switched
    (subst (λ (t : TreeValue). IsTree t.run t.batches) c.self.view_is c.self.invariant.run.tree)
    (subst (λ (t : TreeValue). Joins t.run t.batches b) c.self.view_is (c.in_ok-judge.ensures.joins (not-known c.in_ok-judge.field-0 (sym c.is_known.ensures ∙ c.if-is_known.false))))
    (subst (λ (r : Result Learned RunError). Gives Memory (λ done. done) r (joined v.run v.batches b)) e c.take_in.ensures.answer)
    (subst (λ (r : Result Learned RunError). OnOk r (c.take_in.new.self ≡ record v { batches = arrived b v.batches })) e c.take_in.ensures.grown)
