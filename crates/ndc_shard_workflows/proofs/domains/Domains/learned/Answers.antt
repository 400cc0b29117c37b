use Rattle.std.proofs.Common.{◌≡◌, List, IfOk, ◌∙◌, subst, ap}
use Rattle.ndc_event.specs.declared.name.Name.{Name}
use Rattle.ndc_shard_workflows.specs.Reading.{learned_workflows}
use Rattle.ndc_shard_workflows.proofs.LearnedLemmas.{learned-names}
use Rattle.ndc_shard_workflows.proofs.domains.Domains.learned.Goals as goal

pub returns : goal.returns
returns c =
    subst (λ (l : List (Name × Name)). IfOk c.learned_in.result (λ list. list.items ≡ l))
    (learned-names c.self.inside.domains.entries c.self.invariant ∙ ap learned_workflows c.self.view_is) c.learned_in.ensures
