use Rattle.ndc_shard_workflows.proofs.NamedLemmas.{held}
use Rattle.ndc_shard_workflows.proofs.domains.Domains.of_domains.Goals as goal

pub returns : goal.returns
returns c =
    held c.args.names.now c.self.inside.domains.entries c.self.invariant c.named_in.result c.named_in.ensures c.args.self.now c.self.view_is
