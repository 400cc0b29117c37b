use Rattle.std.proofs.Common.{IfOk, Result, subst, sym, ◌∙◌}
use Rattle.ndc_script_words.specs.declared.operand.TwoClusters.{TwoClusters}
use Rattle.ndc_script_types.specs.declared.script.ScriptError.{ScriptError}
use Rattle.ndc_script_types.specs.WellFormed.{AreTwoClusters}
use Rattle.ndc_script_words.proofs.Fits.{two_fit}
use Rattle.ndc_script_words.proofs.operand.two_clusters.Goals as goal

-- names that differ are those of two clusters
pub returns-clause-well_formed : goal.returns-clause-well_formed
returns-clause-well_formed c =
    subst (λ (r : Result TwoClusters ScriptError). IfOk r (λ clusters. AreTwoClusters c.args.header.now clusters.one clusters.two))
    (sym c.both_known.ensures.answer)
    (two_fit c.args.header.now c.args.line c.args.one.now c.args.two.now (sym c.eq.ensures ∙ c.if-eq.false))
