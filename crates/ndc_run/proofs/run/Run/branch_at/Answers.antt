use Rattle.std.proofs.Common.{Some, ◌∙◌, ap, sym}
use Rattle.ndc_model_sets.specs.Current.{state_to}
use Rattle.ndc_model_sets.specs.Keys.{is_key}
use Rattle.ndc_tree.specs.Tree.{TreeValue}
use Rattle.ndc_run.specs.declared.run.Branch.{Branch}
use Rattle.ndc_run.specs.RunFields.{unboxed}
use Rattle.ndc_run.proofs.LearnLemmas.{held-state}
use Rattle.ndc_run.proofs.run.Run.branch_at.Goals as goal

pub returns-then-is_key-clause-state : goal.returns-then-is_key-clause-state
returns-then-is_key-clause-state g c =
    let v = c.self.inside.tree in
    held-state v.run v.batches (unboxed c.self.inside.beside) c.in-Some.branch.value c.args.key c.self.invariant.beside (ap unboxed (sym c.take.ensures.value ∙ c.in-Some.is)) (ap (λ (b : Branch). is_key c.args.key (Some b.tip)) (sym c.deref.ensures) ∙ sym c.is_key.ensures ∙ c.if-is_key.true)
    ∙ ap (λ (t : TreeValue). state_to t.run c.args.key t.batches) c.self.view_is
