use Rattle.std.proofs.Common.{◌≡◌, true, ◌∙◌, sym, subst}
use Rattle.ndc_model_sets.specs.Learned.{has_key}
use Rattle.ndc_tree.specs.Fitting.{fits}
use Rattle.ndc_tree.specs.Tree.{TreeValue, Joins}
use Rattle.ndc_tree.proofs.FitLemmas.{fit-joins}
use Rattle.ndc_tree.proofs.GrowLemmas.{parent-before}
use Rattle.ndc_tree.proofs.tree.Tree.judge.Goals as goal

pub fits-requires : goal.fits-requires
fits-requires c = parent-before c.args.batch.now c.requires

pub returns-clause-joins : goal.returns-clause-joins
returns-clause-joins c =
    λ _. subst (λ (v : TreeValue). fits v.run v.batches c.args.batch.now ≡ true → has_key c.args.batch.now.parent v.batches ≡ true → Joins v.run v.batches c.args.batch.now) c.self.view_is
    (λ h r. fit-joins c.self.inside.run c.self.inside.batches c.args.batch.now c.self.invariant.0 h r c.requires)
    (sym c.fits.ensures ∙ c.if-not-fits.false) (sym c.has.ensures ∙ c.if-not-has.false)
