use Rattle.std.proofs.Common.{rules, arith, ap, ◌∙◌}
use Rattle.std.proofs.lemmas.Fn.{always_returns_same}
use Rattle.ndc_tree.specs.Segments.{against}
use Rattle.ndc_tree.specs.declared.batches.Segment.{Segment}
use Rattle.ndc_tree.proofs.SegmentLemmas.{hinted, version-place}
use Rattle.ndc_tree.proofs.batches.place_of.Goals as goal

pub returns-then-segments-hint-clause-found : goal.returns-then-segments-hint-clause-found
returns-then-segments-hint-clause-found c =
    hinted c.args.version c.args.segments.now c.args.hint c.index-segments-hint.result c.requires (omega (arith, c.if-hint-segments.true)) c.index-segments-hint.is
    (ap (λ (s : Segment). s.version) c.index-segments-hint.is ∙ c.if-segments-hint.true)

-- the closure compares a segment's version with the one that is sought
pub returns-clause-found : goal.returns-clause-found
returns-clause-found c =
    let facts = c.binary_search_by.ensures in
    (version-place c.args.version c.args.segments.now c.requires c.binary_search_by.result facts.bound
    (facts.position (against c.args.version) (always_returns_same _ _ _ (λ a r g called. (search rules, search rules))))).found

pub returns-clause-absent : goal.returns-clause-absent
returns-clause-absent c =
    let facts = c.binary_search_by.ensures in
    (version-place c.args.version c.args.segments.now c.requires c.binary_search_by.result facts.bound
    (facts.position (against c.args.version) (always_returns_same _ _ _ (λ a r g called. (search rules, search rules))))).absent
