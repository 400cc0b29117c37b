use Rattle.std.proofs.Common.{List, ◌∙◌, ap, subst}
use Rattle.std.specs.Option.{option_copied}
use Rattle.ndc_tree.specs.Tree.{TreeValue}
use Rattle.ndc_shard_runs.specs.Index.{AreIndexed, run_with}
use Rattle.ndc_shard_runs.proofs.IndexLemmas.{none-with, placed-run, unplaced}
use Rattle.ndc_shard_runs.proofs.index.RunIndex.run_of.Goals as goal

pub returns-in_err-get-in-Some : goal.returns-in_err-get-in-Some
returns-in_err-get-in-Some c =
    ap option_copied c.from_residual.ensures
    ∙ none-with c.args.key c.self.inside.runs
    (unplaced c.self.inside.runs c.in-Some.places c.args.key (subst (λ o. AreIndexed c.self.inside.runs o) c.in-Some.is c.self.invariant) c.in_err-get-in-Some.ensures)
    ∙ ap (λ (l : List TreeValue). run_with c.args.key l) c.self.view_is

pub returns-in_ok-get-in-Some : goal.returns-in_ok-get-in-Some
returns-in_ok-get-in-Some c =
    c.get-in-Some.ensures
    ∙ placed-run c.self.inside.runs c.in-Some.places c.args.key (subst (λ o. AreIndexed c.self.inside.runs o) c.in-Some.is c.self.invariant) c.in_ok-get-in-Some.field-0 c.in_ok-get-in-Some.ensures
    ∙ ap (λ (l : List TreeValue). run_with c.args.key l) c.self.view_is
