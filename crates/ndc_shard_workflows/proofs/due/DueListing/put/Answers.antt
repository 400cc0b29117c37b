use Rattle.std.proofs.Common.{◌≡◌, ◌||◌, Option, Some, None, refl, sym, ◌∙◌, subst, ap}
use Rattle.std.specs.Prelude.{is_some}
use Rattle.std.proofs.lemmas.Map.Steps.{set_value_same}
use Rattle.ndc_event.specs.declared.name.Name.{Name}
use Rattle.ndc_shard_workflows.specs.ByDomain.{AreByDomain, AreOf, all_listed}
use Rattle.ndc_shard_workflows.specs.Due.{is_listed, is_named}
use Rattle.ndc_shard_workflows.specs.Named.{under}
use Rattle.ndc_shard_workflows.proofs.ByDomainLemmas.{Names, changed-holds, first-own, listed-changed, listed_in, put-own}
use Rattle.ndc_shard_workflows.proofs.OkLemmas.{on-ok}
use Rattle.ndc_shard_workflows.proofs.PutLemmas.{map-put, on-err, same-put}
use Rattle.ndc_shard_workflows.proofs.due.DueListing.put.Goals as goal

pub invariant_of-self : goal.invariant_of-self
invariant_of-self c =
    let es = c.self.inside.domains.entries in
    let w = c.get_mut.follows.holds c.put.new.self in
    let there = c.self.invariant.each c.args.domain.now c.in-Some.listing.now (sym c.in-Some.ensures.value) in
    let put = map-put c.args.domain.now c.put.new.self es (c.get_mut.follows.lender c.put.new.self).entries (w.3 (ap is_some (sym c.in-Some.ensures.value))).0 w.4 in
    changed-holds c.args.domain.now (Some c.put.new.self) es (c.get_mut.follows.lender c.put.new.self).entries
    (put-own c.put.result c.args.domain.now c.args.workflow.now c.in-Some.listing.now c.put.new.self c.put.ensures.ok c.put.ensures.err there)
    put.found put.ordered c.self.invariant

pub returns-in-Some-clause-ok : goal.returns-in-Some-clause-ok
returns-in-Some-clause-ok c =
    let es = c.self.inside.domains.entries in
    let w = c.get_mut.follows.holds c.put.new.self in
    let there = c.self.invariant.each c.args.domain.now c.in-Some.listing.now (sym c.in-Some.ensures.value) in
    let put = map-put c.args.domain.now c.put.new.self es (c.get_mut.follows.lender c.put.new.self).entries (w.3 (ap is_some (sym c.in-Some.ensures.value))).0 w.4 in
    let of = put-own c.put.result c.args.domain.now c.args.workflow.now c.in-Some.listing.now c.put.new.self c.put.ensures.ok c.put.ensures.err there in
    on-ok c.put.result (λ ok d n.
    listed-changed (λ s t. s || t) (λ t. refl) c.args.domain.now c.args.workflow.now (Some c.put.new.self) es (c.get_mut.follows.lender c.put.new.self).entries c.self.invariant
    (changed-holds c.args.domain.now (Some c.put.new.self) es (c.get_mut.follows.lender c.put.new.self).entries of put.found put.ordered c.self.invariant) put.found
    (λ d n. ok d n ∙ ap (λ (o : Option Names). is_named d n (c.args.domain.now, c.args.workflow.now) || is_listed d n (listed_in o)) c.in-Some.ensures.value) d n
    ∙ ap (λ (l : Names). is_named d n (c.args.domain.now, c.args.workflow.now) || is_listed d n l) c.self.view_is) c.put.ensures.ok

pub returns-in-Some-clause-err : goal.returns-in-Some-clause-err
returns-in-Some-clause-err c =
    let w = c.get_mut.follows.holds c.put.new.self in
    on-err c.put.result
    (λ e. ap all_listed (w.0 ∙ set_value_same _ c.self.inside.domains.entries c.put.new.self (sym (ap Some e ∙ c.in-Some.ensures.value))) ∙ c.self.view_is) c.put.ensures.err

pub invariant_of-self-2 : goal.invariant_of-self-2
invariant_of-self-2 c =
    let put = map-put c.in_ok-name.name c.put-2.new.self c.get_mut.follows.lender-at-none.entries c.insert.new.self.entries c.in_ok-insert.ensures.updates.0 c.in_ok-insert.ensures.ordered in
    changed-holds c.in_ok-name.name (Some c.put-2.new.self) c.get_mut.follows.lender-at-none.entries c.insert.new.self.entries
    (subst (λ (d : Name). AreOf d c.put-2.new.self) (sym c.in_ok-name.ensures) (first-own c.args.domain.now c.args.workflow.now c.new-listing.result c.put-2.new.self c.new-listing.ensures c.in_ok-put.ensures.ok))
    put.found put.ordered (subst AreByDomain (sym (ap (λ n. n.entries) c.get_mut.follows.holds-at-none)) c.self.invariant)

pub returns-clause-ok : goal.returns-clause-ok
returns-clause-ok c d n =
    let es = c.self.inside.domains.entries in
    let at : None ≡ under c.args.domain.now es = c.in_default.ensures.value in
    let put = map-put c.in_ok-name.name c.put-2.new.self c.get_mut.follows.lender-at-none.entries c.insert.new.self.entries c.in_ok-insert.ensures.updates.0 c.in_ok-insert.ensures.ordered in
    let same = same-put c.args.domain.now c.in_ok-name.name c.put-2.new.self c.put-2.new.self es c.get_mut.follows.lender-at-none.entries c.insert.new.self.entries c.in_ok-name.ensures refl
    (ap (λ n. n.entries) c.get_mut.follows.holds-at-none) put in
    let of = first-own c.args.domain.now c.args.workflow.now c.new-listing.result c.put-2.new.self c.new-listing.ensures c.in_ok-put.ensures.ok in
    listed-changed (λ s t. s || t) (λ t. refl) c.args.domain.now c.args.workflow.now (Some c.put-2.new.self) es c.insert.new.self.entries c.self.invariant
    (changed-holds c.args.domain.now (Some c.put-2.new.self) es c.insert.new.self.entries of same.found same.ordered c.self.invariant) same.found
    (λ d n. c.in_ok-put.ensures.ok d n ∙ ap (λ (o : Names). is_named d n (c.args.domain.now, c.args.workflow.now) || is_listed d n o) c.new-listing.ensures
    ∙ ap (λ (o : Option Names). is_named d n (c.args.domain.now, c.args.workflow.now) || is_listed d n (listed_in o)) at) d n
    ∙ ap (λ (l : Names). is_named d n (c.args.domain.now, c.args.workflow.now) || is_listed d n l) c.self.view_is
