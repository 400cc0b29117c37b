use Rattle.std.proofs.Common.{subst, sym, ◌∙◌}
use Rattle.ndc_model_cells.specs.Cells.{Cell}
use Rattle.ndc_shard_workflows.specs.Lacking.{LacksNoOwn, LacksOwn}
use Rattle.ndc_shard_workflows.proofs.LackingLemmas.{none-lack, some-lack}
use Rattle.ndc_shard_workflows.proofs.ResultLemmas.{if-ok}
use Rattle.ndc_shard_workflows.proofs.domains.Domains.lacks_own.Goals as goal

pub returns-clause-some : goal.returns-clause-some
returns-clause-some c =
    if-ok c.lacks_own_in.result _ _ (λ lacks is told.
    subst (λ (cell : Cell). LacksOwn c.args.terms.now cell) c.self.view_is (some-lack c.args.terms.now c.self.inside.domains.entries c.self.invariant (sym is ∙ told))) c.lacks_own_in.ensures

pub returns-clause-none : goal.returns-clause-none
returns-clause-none c =
    if-ok c.lacks_own_in.result _ _ (λ lacks is told.
    subst (λ (cell : Cell). LacksNoOwn c.args.terms.now cell) c.self.view_is (none-lack c.args.terms.now c.self.inside.domains.entries c.self.invariant (sym is ∙ told))) c.lacks_own_in.ensures
