-- Lists of workflows in order that have the same workflows for which a test holds.
use Rattle.std.proofs.Common.{◌≡◌, Bool, true, false, ◌&&◌, List, refl, sym, ◌∙◌, ap}
use Rattle.std.specs.BTreeSet.{BTreeSet}
use Rattle.std.specs.List.{filter}
use Rattle.std.specs.List.Sorted.{IsStrictlySortedBy}
use Rattle.std.specs.Str.{bytes_eq}
use Rattle.std.proofs.lemmas.Bool.{and_parts}
use Rattle.std.proofs.lemmas.List.Kept.{IsStrictlySortedBy-filter}
use Rattle.std.proofs.lemmas.Map.Lookups.{btree_set_from_contains, exact_bytes, exact_pairs}
use Rattle.std.proofs.lemmas.Map.Views.{any-filter_same}
use Rattle.std.proofs.lemmas.Slice.Eq.{bytes_eq-Decides}
use Rattle.ndc_domain.specs.Records.{names_cmp}
use Rattle.ndc_event.specs.declared.name.Name.{Name}
use Rattle.ndc_shard_workflows.specs.Due.{is_listed, is_named, names_order}
use Rattle.ndc_shard_workflows.proofs.DueLemmas.{listed-as, names-total}

-- the names of a workflow that has these
pub names-are : (d w : Name) (one : Name × Name) → is_named d w one ≡ true → ◌≡◌ {A = Name × Name} one (d, w)
names-are d w one e =
    let parts = and_parts (bytes_eq one.0 d) (bytes_eq one.1 w) e in
    λ i. ((bytes_eq-Decides one.0 d).0 parts.0 i, (bytes_eq-Decides one.1 w).0 parts.1 i)

module _ (p : Name × Name → Bool) where
  listed-filter : (d w : Name) (list : List (Name × Name)) → is_listed d w (filter p list) ≡ (p (d, w) && is_listed d w list)
  listed-filter d w list = any-filter_same (is_named d w) p (p (d, w)) (λ k e. ap p (names-are d w k e)) list

  -- where two lists in order have each workflow for which a test holds, these are the same
  pub same-kept : (one two : List (Name × Name)) → IsStrictlySortedBy names_order one → IsStrictlySortedBy names_order two
      → ((d w : Name) → p (d, w) ≡ true → is_listed d w one ≡ true) → ((d w : Name) → p (d, w) ≡ true → is_listed d w two ≡ true) → filter p one ≡ filter p two
  same-kept one two sorted later first second =
      btree_set_from_contains names-total first_set second_set
      (IsStrictlySortedBy-filter names_order p one sorted) (IsStrictlySortedBy-filter names_order p two later)
      (λ q. listed-as q.0 q.1 (filter p one) ∙ same q.0 q.1 ∙ sym (listed-as q.0 q.1 (filter p two)))
      (exact_pairs names_cmp names_cmp exact_bytes exact_bytes)
    where
      first_set : BTreeSet (Name × Name)
      first_set = record { keys = filter p one }

      second_set : BTreeSet (Name × Name)
      second_set = record { keys = filter p two }

      same : (d w : Name) → is_listed d w (filter p one) ≡ is_listed d w (filter p two)
      same d w = listed-filter d w one ∙ by (p (d, w)) refl ∙ sym (listed-filter d w two)
        where
          by : (t : Bool) → p (d, w) ≡ t → (t && is_listed d w one) ≡ (t && is_listed d w two)
          by true e = first d w e ∙ sym (second d w e)
          by false e = refl
