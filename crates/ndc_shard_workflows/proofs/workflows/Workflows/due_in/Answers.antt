use Rattle.std.proofs.Common.{sym, ◌∙◌, subst}
use Rattle.ndc_shard_workflows.specs.Due.{AreDueIn}
use Rattle.ndc_shard_workflows.proofs.ResultLemmas.{if-ok}
use Rattle.ndc_shard_workflows.proofs.workflows.Workflows.due_in.Goals as goal

pub returns : goal.returns
returns c =
    if-ok c.of_domain.result _ _ (λ list are.
    subst (AreDueIn c.args.domain.now list.items) c.self.view_is (record {
      ordered = are.ordered;
      own = are.own;
      each = λ w none. c.self.invariant.0 c.args.domain.now w (sym (are.listed w) ∙ none);
    })) c.of_domain.ensures
