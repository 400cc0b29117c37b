use Rattle.std.proofs.Common.{◌==◌, List, length, sym, ◌∙◌, ap}
use Rattle.ndc_event.specs.declared.name.Name.{Name}
use Rattle.ndc_shard_workflows.proofs.ByDomainLemmas.{none-there}
use Rattle.ndc_shard_workflows.proofs.due.DueListing.is_empty.Goals as goal

pub returns : goal.returns
returns c =
    ap (λ n. n == 0) c.len.ensures.len ∙ sym (none-there c.self.inside.domains.entries c.self.invariant)
    ∙ ap (λ (list : List (Name × Name)). length list == 0) c.self.view_is
