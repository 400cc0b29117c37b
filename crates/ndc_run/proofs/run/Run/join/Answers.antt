use Rattle.std.proofs.Common.{◌≡◌, OnOk, subst, Result}
use Rattle.ndc_event.specs.Outcome.{Gives}
use Rattle.ndc_run.specs.declared.answer.Learned.{Learned}
use Rattle.ndc_run.specs.declared.answer.RunError.{RunError}
use Rattle.ndc_run.specs.declared.answer.RunError.TheVariants.{Memory}
use Rattle.ndc_run.specs.Learning.{joined}
use Rattle.ndc_model_sets.specs.Sets.{arrived}
use Rattle.ndc_tree.specs.Tree.{TreeValue, IsTree}
use Rattle.ndc_tree.proofs.FitLemmas.{taken_joins}
use Rattle.ndc_run.proofs.LearnLemmas.{learned_where_taken, switched-of}
use Rattle.ndc_run.proofs.run.Run.join.Goals as goal

-- the batch joins the tree of the run
pub take_in-requires-clause-joins : goal.take_in-requires-clause-joins
take_in-requires-clause-joins g c =
    let v = c.args.self.now in
    taken_joins v.run v.batches c.args.batch.now (subst (λ (t : TreeValue). IsTree t.run t.batches) c.self.view_is c.self.invariant.run.tree) c.requires.faultless c.requires.fits

pub returns-clause-answer : goal.returns-clause-answer
returns-clause-answer g c =
    let v = c.args.self.now in
    subst (Gives Memory (λ done. done) c.take_in.result) (learned_where_taken v.run v.batches c.args.batch.now c.requires.fits) c.take_in.ensures.answer

pub returns-clause-switched : goal.returns-clause-switched
returns-clause-switched g c = λ switched e.
    let v = c.args.self.now in
    let b = c.args.batch.now in
    let tree : IsTree v.run v.batches = subst (λ (t : TreeValue). IsTree t.run t.batches) c.self.view_is c.self.invariant.run.tree in
    switched-of v.run v.batches b c.take_in.new.self switched tree
    (taken_joins v.run v.batches b tree c.requires.faultless c.requires.fits)
    (subst (λ (r : Result Learned RunError). Gives Memory (λ done. done) r (joined v.run v.batches b)) e c.take_in.ensures.answer)
    (subst (λ (r : Result Learned RunError). OnOk r (c.take_in.new.self ≡ record v { batches = arrived b v.batches })) e c.take_in.ensures.grown)
