use Rattle.std.proofs.Common.{rules, subst}
use Rattle.std.proofs.lemmas.Fn.{always_returns_same}
use Rattle.std.specs.List.Sorted.{IsBinarySearchResult}
use Rattle.std.specs.Ordering.{nat_cmp, ordering_then}
use Rattle.std.specs.declared.cmp.Ordering.{Ordering}
use Rattle.ndc_event.specs.declared.key.BatchKey.{BatchKey}
use Rattle.ndc_model_sets.proofs.KeyOrder.{key_cmp-by}
use Rattle.ndc_tree.proofs.KeyPlaces.{key-place}
use Rattle.ndc_tree.proofs.tips.place_of.Goals as goal

-- the closure compares a key with the one that is sought
pub returns : goal.returns
returns c =
    let facts = c.binary_search_by.ensures in
    let keys = c.args.keys.now in
    let key = c.args.key in
    let by_numbers = facts.position (λ k. ordering_then (nat_cmp k.version key.version) (nat_cmp k.task key.task)) (always_returns_same _ _ _ (λ a r g called. (search rules, search rules))) in
    key-place key keys c.requires c.binary_search_by.result facts.bound
    (subst (λ (f : BatchKey → Ordering). IsBinarySearchResult f keys c.binary_search_by.result) (λ i k. key_cmp-by k key i) by_numbers)
