use Rattle.std.proofs.Common.{◌&&◌, not, Option, Some, None, refl, sym, ◌∙◌, subst, ap}
use Rattle.std.specs.Prelude.{is_some}
use Rattle.std.proofs.lemmas.Map.Steps.{set_value_same}
use Rattle.ndc_shard_workflows.specs.ByDomain.{AreByDomain, all_listed}
use Rattle.ndc_shard_workflows.specs.Due.{is_listed, is_named}
use Rattle.ndc_shard_workflows.proofs.ByDomainLemmas.{ByName, Names, changed-holds, found-without, listed-changed, listed_in, take-last, take-none, take-own}
use Rattle.ndc_shard_workflows.proofs.PutLemmas.{map-put}
use Rattle.ndc_shard_workflows.proofs.ResultLemmas.{on-any-err}
use Rattle.ndc_shard_workflows.proofs.due.DueListing.take.Goals as goal

pub returns-in_default-clause-ok : goal.returns-in_default-clause-ok
returns-in_default-clause-ok c d n =
    ap (λ (es : ByName). is_listed d n (all_listed es)) (ap (λ m. m.entries) c.get_mut.follows.holds-at-none)
    ∙ take-none c.args.domain.now c.args.workflow.now c.self.inside.domains.entries c.self.invariant c.in_default.ensures.value d n
    ∙ ap (λ (l : Names). not (is_named d n (c.args.domain.now, c.args.workflow.now)) && is_listed d n l) c.self.view_is

pub invariant_of-self-in_err-take : goal.invariant_of-self-in_err-take
invariant_of-self-in_err-take c =
    let w = c.get_mut.follows.holds c.take.new.self in
    subst AreByDomain (sym (w.0 ∙ set_value_same _ c.self.inside.domains.entries c.take.new.self (sym (ap Some c.in_err-take.ensures.err ∙ c.in-Some.ensures.value)))) c.self.invariant

pub returns-in_err-take-clause-err : goal.returns-in_err-take-clause-err
returns-in_err-take-clause-err c =
    let w = c.get_mut.follows.holds c.take.new.self in
    on-any-err c.from_residual.result
    (ap all_listed (w.0 ∙ set_value_same _ c.self.inside.domains.entries c.take.new.self (sym (ap Some c.in_err-take.ensures.err ∙ c.in-Some.ensures.value))) ∙ c.self.view_is)

pub invariant_of-self-then-not-is_empty : goal.invariant_of-self-then-not-is_empty
invariant_of-self-then-not-is_empty c =
    let es = c.self.inside.domains.entries in
    let w = c.get_mut.follows.holds c.take.new.self in
    let there = c.self.invariant.each c.args.domain.now c.in-Some.listing.now (sym c.in-Some.ensures.value) in
    let put = map-put c.args.domain.now c.take.new.self es (c.get_mut.follows.lender c.take.new.self).entries (w.3 (ap is_some (sym c.in-Some.ensures.value))).0 w.4 in
    changed-holds c.args.domain.now (Some c.take.new.self) es (c.get_mut.follows.lender c.take.new.self).entries
    (take-own c.args.domain.now c.args.workflow.now c.in-Some.listing.now c.take.new.self c.is_empty.result c.in_ok-take.ensures.ok c.is_empty.ensures c.if-not-is_empty.true there)
    put.found put.ordered c.self.invariant

pub returns-then-not-is_empty-clause-ok : goal.returns-then-not-is_empty-clause-ok
returns-then-not-is_empty-clause-ok c d n =
    let es = c.self.inside.domains.entries in
    let w = c.get_mut.follows.holds c.take.new.self in
    let there = c.self.invariant.each c.args.domain.now c.in-Some.listing.now (sym c.in-Some.ensures.value) in
    let put = map-put c.args.domain.now c.take.new.self es (c.get_mut.follows.lender c.take.new.self).entries (w.3 (ap is_some (sym c.in-Some.ensures.value))).0 w.4 in
    let of = take-own c.args.domain.now c.args.workflow.now c.in-Some.listing.now c.take.new.self c.is_empty.result c.in_ok-take.ensures.ok c.is_empty.ensures c.if-not-is_empty.true there in
    listed-changed (λ s t. not s && t) (λ t. refl) c.args.domain.now c.args.workflow.now (Some c.take.new.self) es (c.get_mut.follows.lender c.take.new.self).entries c.self.invariant
    (changed-holds c.args.domain.now (Some c.take.new.self) es (c.get_mut.follows.lender c.take.new.self).entries of put.found put.ordered c.self.invariant) put.found
    (λ d n. c.in_ok-take.ensures.ok d n ∙ ap (λ (o : Option Names). not (is_named d n (c.args.domain.now, c.args.workflow.now)) && is_listed d n (listed_in o)) c.in-Some.ensures.value) d n
    ∙ ap (λ (l : Names). not (is_named d n (c.args.domain.now, c.args.workflow.now)) && is_listed d n l) c.self.view_is

pub invariant_of-self-2 : goal.invariant_of-self-2
invariant_of-self-2 c =
    let es = c.self.inside.domains.entries in
    let w = c.get_mut.follows.holds c.take.new.self in
    let put = map-put c.args.domain.now c.take.new.self es (c.get_mut.follows.lender c.take.new.self).entries (w.3 (ap is_some (sym c.in-Some.ensures.value))).0 w.4 in
    changed-holds c.args.domain.now None es c.remove.new.self.entries tt
    (found-without c.args.domain.now (Some c.take.new.self) es (c.get_mut.follows.lender c.take.new.self).entries c.remove.new.self.entries put.found c.remove.ensures.updates.0)
    c.remove.ensures.ordered c.self.invariant

pub returns-clause-ok : goal.returns-clause-ok
returns-clause-ok c d n =
    let es = c.self.inside.domains.entries in
    let w = c.get_mut.follows.holds c.take.new.self in
    let put = map-put c.args.domain.now c.take.new.self es (c.get_mut.follows.lender c.take.new.self).entries (w.3 (ap is_some (sym c.in-Some.ensures.value))).0 w.4 in
    let found = found-without c.args.domain.now (Some c.take.new.self) es (c.get_mut.follows.lender c.take.new.self).entries c.remove.new.self.entries put.found c.remove.ensures.updates.0 in
    listed-changed (λ s t. not s && t) (λ t. refl) c.args.domain.now c.args.workflow.now None es c.remove.new.self.entries c.self.invariant
    (changed-holds c.args.domain.now None es c.remove.new.self.entries tt found c.remove.ensures.ordered c.self.invariant) found
    (take-last c.args.domain.now c.args.workflow.now _ c.in-Some.listing.now c.take.new.self c.is_empty.result c.in-Some.ensures.value c.in_ok-take.ensures.ok c.is_empty.ensures c.if-not-is_empty.false) d n
    ∙ ap (λ (l : Names). not (is_named d n (c.args.domain.now, c.args.workflow.now)) && is_listed d n l) c.self.view_is
