use Rattle.std.proofs.Common.{subst}
use Rattle.ndc_shard_workflows.specs.Reapplied.{AreReapplied}
use Rattle.ndc_shard_workflows.proofs.ResultLemmas.{if-ok}
use Rattle.ndc_shard.proofs.AgainLemmas.{reapplied-same}
use Rattle.ndc_shard.proofs.DueLemmas.{of-domains}
use Rattle.ndc_shard.specs.Sent.{messages_at}
use Rattle.ndc_shard.proofs.shard.Shard.due_again.Goals as goal

pub due_of-requires : goal.due_of-requires
due_of-requires c = c.in_ok-domains.ensures.ordered

pub returns : goal.returns
returns c =
    if-ok c.due_of.result _ _
    (λ list are. subst (AreReapplied c.args.desk.now list.items) c.self.view_is
    (reapplied-same c.args.desk.now (messages_at c.self.inside.places.items c.self.inside.workflows) list.items c.self.inside.workflows
    (of-domains c.args.desk.now c.self.inside.workflows c.in_ok-domains.domains.items list.items c.in_ok-domains.ensures are))) c.due_of.ensures
