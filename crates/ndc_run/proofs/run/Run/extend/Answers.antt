use Rattle.std.proofs.Common.{◌∙◌, sym, subst, ap}
use Rattle.ndc_run.specs.Learning.{joined, of_state_error}
use Rattle.ndc_model_sets.specs.Reading.{current_key}
use Rattle.ndc_tree.specs.Tree.{TreeValue, Joins}
use Rattle.ndc_run.specs.RunFields.{unboxed}
use Rattle.ndc_run.proofs.LearnLemmas.{inside-extended, inside-same, joined-extended, joined-Err, current-before, was-Ok}
use Rattle.ndc_run.proofs.run.Run.extend.Goals as goal

pub invariant_of-self : goal.invariant_of-self
invariant_of-self g c =
    inside-same c.self.inside c.grow.new.tree c.grow.new.state c.grow.new.kept (unboxed c.self.inside.beside) c.self.invariant c.in-Err.ensures.tree_err c.in-Err.ensures.state_err c.grow.ensures.run c.in-Err.ensures.kept_err c.self.invariant.beside

pub returns-in-Err-clause-answer : goal.returns-in-Err-clause-answer
returns-in-Err-clause-answer g c = λ e.
    let v = c.self.inside.tree in
    let b = c.args.batch.now in
    let tip = ap (λ (t : TreeValue). current_key t.run t.batches) (sym c.self.view_is) in
    ap (λ (t : TreeValue). joined t.run t.batches b) (sym c.self.view_is)
    ∙ joined-Err v.run v.batches b c.self.invariant.run (subst (λ (t : TreeValue). Joins t.run t.batches b) (sym c.self.view_is) c.requires.joins) c.self.inside.state c.in-Err.error
    (c.self.invariant.current ∙ current-before v.run v.batches b.parent (c.requires.tip ∙ tip)) (c.in-Err.ensures.answer e)

pub invariant_of-self-2 : goal.invariant_of-self-2
invariant_of-self-2 g c =
    let v = c.self.inside.tree in
    let b = c.args.batch.now in
    let tip = ap (λ (t : TreeValue). current_key t.run t.batches) (sym c.self.view_is) in
    inside-extended v.run v.batches b c.self.invariant.run (subst (λ (t : TreeValue). Joins t.run t.batches b) (sym c.self.view_is) c.requires.joins) c.requires.ids
    c.self.inside.state c.grow.new.state c.self.inside.kept c.grow.new.kept c.grow.new.tree c.self.invariant.kept
    (c.self.invariant.current ∙ current-before v.run v.batches b.parent (c.requires.tip ∙ tip)) (was-Ok of_state_error _ c.grow.new.state c.in-Ok.ensures.answer) c.in-Ok.ensures.tree c.grow.ensures.run c.in-Ok.ensures.kept
    (unboxed c.self.inside.beside) c.self.invariant.beside (c.requires.tip ∙ tip)

pub returns-clause-answer : goal.returns-clause-answer
returns-clause-answer g c =
    let v = c.self.inside.tree in
    let b = c.args.batch.now in
    let tip = ap (λ (t : TreeValue). current_key t.run t.batches) (sym c.self.view_is) in
    ap (λ (t : TreeValue). joined t.run t.batches b) (sym c.self.view_is)
    ∙ joined-extended v.run v.batches b c.self.invariant.run (subst (λ (t : TreeValue). Joins t.run t.batches b) (sym c.self.view_is) c.requires.joins) c.self.inside.state c.grow.new.state
    (c.requires.tip ∙ tip) c.self.invariant.current c.in-Ok.ensures.answer
