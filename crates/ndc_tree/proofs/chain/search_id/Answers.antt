use Rattle.std.proofs.Common.{rules}
use Rattle.std.proofs.lemmas.Fn.{always_returns_same}
use Rattle.ndc_tree.specs.Events.{against_id}
use Rattle.ndc_tree.proofs.IdLemmas.{id-place}
use Rattle.ndc_tree.proofs.chain.search_id.Goals as goal

pub returns-clause-found : goal.returns-clause-found
returns-clause-found c =
    let facts = c.binary_search_by.ensures in
    (id-place c.args.id c.args.batches.now c.requires c.binary_search_by.result facts.bound
    (facts.position (against_id c.args.id) (always_returns_same _ _ _ (λ a r g called. (search rules, search rules))))).found

pub returns-clause-absent : goal.returns-clause-absent
returns-clause-absent c =
    let facts = c.binary_search_by.ensures in
    (id-place c.args.id c.args.batches.now c.requires c.binary_search_by.result facts.bound
    (facts.position (against_id c.args.id) (always_returns_same _ _ _ (λ a r g called. (search rules, search rules))))).absent
