use Rattle.std.proofs.Common.{rules, sym, ◌∙◌}
use Rattle.std.proofs.lemmas.Fn.{always_returns_same}
use Rattle.ndc_state.specs.OriginList.{origin_cmp}
use Rattle.ndc_state.proofs.OriginOrder.{origin-place, end-unlisted, got-cmp, Less-from}
use Rattle.ndc_state.proofs.listed.place_of.Goals as goal

-- where the last origin comes before it
pub returns-in-Some-clause-absent : goal.returns-in-Some-clause-absent
returns-in-Some-clause-absent c = end-unlisted c.args.origin c.args.origins.now c.requires (λ d. got-cmp c.args.origin c.args.origins.now _ d c.in-Some.last.now c.in-Some.ensures.value (Less-from c.cmp.result (sym c.is_lt.ensures ∙ c.if-is_lt.true)) c.cmp.ensures)

-- the closure compares an origin with the one that is sought
pub returns-in_default : goal.returns-in_default
returns-in_default c =
    let facts = c.binary_search_by.ensures in
    let origin = c.args.origin in
    origin-place origin c.args.origins.now c.requires c.binary_search_by.result facts.bound
    (facts.position (λ o. origin_cmp o origin) (always_returns_same _ _ _ (λ a r g called. (search rules, search rules))))
