use Rattle.std.proofs.Common.{rules, subst}
use Rattle.std.proofs.lemmas.Fn.{always_returns_same}
use Rattle.std.specs.List.Sorted.{IsBinarySearchResult}
use Rattle.std.specs.Ordering.{nat_cmp, ordering_then}
use Rattle.std.specs.declared.cmp.Ordering.{Ordering}
use Rattle.ndc_event.specs.declared.batch.Batch.{Batch}
use Rattle.ndc_model_sets.proofs.KeyOrder.{key_cmp-by}
use Rattle.ndc_tree.proofs.KeyPlaces.{batch-place}
use Rattle.ndc_tree.proofs.chain.search.Goals as goal

-- the closure compares a batch's key with the one that is sought
pub returns : goal.returns
returns c =
    let facts = c.binary_search_by.ensures in
    let batches = c.args.batches.now in
    let key = c.args.key in
    let by_numbers = facts.position (λ b. ordering_then (nat_cmp b.key.version key.version) (nat_cmp b.key.task key.task)) (always_returns_same _ _ _ (λ a r g called. (search rules, search rules))) in
    batch-place key batches c.requires c.binary_search_by.result facts.bound
    (subst (λ (f : Batch → Ordering). IsBinarySearchResult f batches c.binary_search_by.result) (λ i b. key_cmp-by b.key key i) by_numbers)
