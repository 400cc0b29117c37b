use Rattle.std.proofs.Common.{subst}
use Rattle.ndc_shard_workflows.specs.Due.{AreDueDomains}
use Rattle.ndc_shard_workflows.proofs.ResultLemmas.{if-both}
use Rattle.ndc_shard_workflows.proofs.workflows.Workflows.due_domains.Goals as goal

pub returns : goal.returns
returns c =
    if-both c.domains.result _ _ _ (λ domains ordered each.
    subst (AreDueDomains domains.items) c.self.view_is (record { ordered = ordered; each = λ d w none. c.self.invariant.0 d w (each d w none) })) c.domains.ensures.ordered c.domains.ensures.each
