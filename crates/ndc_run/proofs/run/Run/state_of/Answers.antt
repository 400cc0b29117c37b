use Rattle.std.proofs.Common.{◌≡◌, ◌∙◌, true, sym, subst}
use Rattle.std.specs.Prelude.{is_some}
use Rattle.ndc_model_sets.specs.Sets.{batch_at}
use Rattle.ndc_tree.specs.Tree.{TreeValue}
use Rattle.ndc_run.proofs.LearnLemmas.{tip-there}
use Rattle.ndc_run.proofs.run.Run.state_of.Goals as goal

pub state_at-requires : goal.state_at-requires
state_at-requires g c =
    subst (λ (t : TreeValue). is_some (batch_at c.args.tip t.batches) ≡ true) c.self.view_is
    (tip-there c.self.inside.tree.run c.self.inside.tree.batches c.args.tip c.self.invariant.run.tree (sym c.is_tip.ensures ∙ c.if-not-is_tip.false))
