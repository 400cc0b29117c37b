use Rattle.std.proofs.Common.{Some, None, List, sym, subst}
use Rattle.ndc_event.specs.declared.name.Name.{Name}
use Rattle.ndc_shard_workflows.specs.ByDomain.{AreThoseOf, all_listed}
use Rattle.ndc_shard_workflows.proofs.ByDomainLemmas.{those-of}
use Rattle.ndc_shard_workflows.proofs.ResultLemmas.{if-ok}
use Rattle.ndc_shard_workflows.proofs.due.DueListing.of_domain.Goals as goal

pub returns-in-Some : goal.returns-in-Some
returns-in-Some c =
    if-ok c.list.result _ _
    (λ list e. subst (AreThoseOf c.args.domain.now list.items) c.self.view_is
    (subst (λ (l : List (Name × Name)). AreThoseOf c.args.domain.now l (all_listed c.self.inside.domains.entries)) (sym e)
    (those-of c.args.domain.now (Some c.in-Some.listing.now) c.self.inside.domains.entries c.self.invariant c.in-Some.ensures.value c.list.ensures.ordered))) c.list.ensures.list

pub returns-in-None : goal.returns-in-None
returns-in-None c =
    subst (AreThoseOf c.args.domain.now c.new.result.items) c.self.view_is
    (subst (λ (l : List (Name × Name)). AreThoseOf c.args.domain.now l (all_listed c.self.inside.domains.entries)) (sym c.new.ensures.items)
    (those-of c.args.domain.now None c.self.inside.domains.entries c.self.invariant c.in-None.ensures.value tt))
