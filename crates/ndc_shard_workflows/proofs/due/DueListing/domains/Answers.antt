use Rattle.std.proofs.Common.{sym, ◌∙◌, subst, ap}
use Rattle.std.specs.List.{list_any}
use Rattle.std.specs.List.Sorted.{IsStrictlySortedBy}
use Rattle.std.specs.Str.{bytes_eq}
use Rattle.ndc_domain.specs.Records.{names_cmp}
use Rattle.ndc_shard_workflows.specs.Due.{is_listed}
use Rattle.ndc_shard_workflows.proofs.ByDomainLemmas.{none-listed-there}
use Rattle.ndc_shard_workflows.proofs.ResultLemmas.{if-ok}
use Rattle.ndc_shard_workflows.proofs.due.DueListing.domains.Goals as goal

pub returns-clause-ordered : goal.returns-clause-ordered
returns-clause-ordered c =
    if-ok c.names_of.result _ _ (λ names e. subst (IsStrictlySortedBy names_cmp) (sym e) c.self.invariant.ordered) c.names_of.ensures

pub returns-clause-each : goal.returns-clause-each
returns-clause-each c =
    if-ok c.names_of.result _ _ (λ names e d w none.
    sym (ap (is_listed d w) c.self.view_is) ∙ none-listed-there d w c.self.inside.domains.entries c.self.invariant (ap (list_any (bytes_eq d)) (sym e) ∙ none)) c.names_of.ensures
