-- Workflows by name, as a set in order has them.
use Rattle.std.proofs.Common.{◌≡◌, Bool, true, false, not, ◌&&◌, ◌||◌, List, [], ◌∷◌, cond, refl, sym, ◌∙◌, ap}
use Rattle.std.specs.BTreeMap.{is_at}
use Rattle.std.specs.Cmp.{IsTotalOrder, both_ways}
use Rattle.std.specs.Cmp.Lexicographic.{nat_list_cmp_total}
use Rattle.std.specs.List.{list_any}
use Rattle.std.specs.Ordering.{is_eq, ordering_then}
use Rattle.std.specs.Str.{bytes_eq}
use Rattle.std.specs.declared.cmp.Ordering.{Ordering}
use Rattle.std.specs.declared.cmp.Ordering.TheVariants.{Less, Equal, Greater}
use Rattle.std.proofs.lemmas.Cmp.{on_total, then_total}
use Rattle.std.proofs.lemmas.Map.Text.{is_eq-slice_cmp}
use Rattle.std.proofs.lemmas.Slice.Eq.{bytes_eq-Decides}
use Rattle.ndc_domain.specs.Records.{names_cmp}
use Rattle.ndc_domain.proofs.Order.{eq_by_cmp}
use Rattle.ndc_event.specs.declared.name.Name.{Name}
use Rattle.ndc_shard_workflows.specs.Due.{is_listed, is_named, names_order}

pub names-flip : (a b : Name) → bytes_eq a b ≡ bytes_eq b a
names-flip a b = both_ways (bytes_eq a b) (bytes_eq b a) (λ e. (bytes_eq-Decides b a).1 (sym ((bytes_eq-Decides a b).0 e))) (λ e. (bytes_eq-Decides a b).1 (sym ((bytes_eq-Decides b a).0 e)))

-- names that compare as equal are the same
pub order-same : (one two : Name × Name) → is_eq (names_order one two) ≡ is_named two.0 two.1 one
order-same one two = by (names_cmp one.0 two.0) refl
  where
    by : (o : Ordering) → names_cmp one.0 two.0 ≡ o → is_eq (ordering_then o (names_cmp one.1 two.1)) ≡ (bytes_eq one.0 two.0 && bytes_eq one.1 two.1)
    by Less e = sym (ap (λ t. t && bytes_eq one.1 two.1) (eq_by_cmp one.0 two.0 Less e))
    by Equal e = is_eq-slice_cmp one.1 two.1 ∙ sym (ap (λ t. t && bytes_eq one.1 two.1) (eq_by_cmp one.0 two.0 Equal e))
    by Greater e = sym (ap (λ t. t && bytes_eq one.1 two.1) (eq_by_cmp one.0 two.0 Greater e))

pub named-flip : (d w : Name) (one : Name × Name) → is_named one.0 one.1 (d, w) ≡ is_named d w one
named-flip d w one = ap (λ t. t && bytes_eq w one.1) (names-flip d one.0) ∙ ap (λ t. bytes_eq one.0 d && t) (names-flip w one.1)

pub names-total : IsTotalOrder names_order
names-total = then_total (on_total (λ (n : Name × Name). n.0) nat_list_cmp_total) (on_total (λ (n : Name × Name). n.1) nat_list_cmp_total)

-- whether a workflow is found in a set is whether it is listed
pub listed-as : (d w : Name) (list : List (Name × Name)) → list_any (is_at (names_order (d, w))) list ≡ is_listed d w list
listed-as d w [] = refl
listed-as d w (one ∷ list) = ap (λ t. t || list_any (is_at (names_order (d, w))) list) (order-same (d, w) one ∙ named-flip d w one) ∙ ap (λ t. is_named d w one || t) (listed-as d w list)

cond-or : (s t : Bool) → cond s true t ≡ (s || t)
cond-or true t = refl
cond-or false t = refl

cond-and : (s t : Bool) → cond s false t ≡ (not s && t)
cond-and true t = refl
cond-and false t = refl

module _ (one two : Name × Name) (before start after : List (Name × Name)) (same : one ≡ two) (begun : start ≡ before) (d w : Name) where
  key-same : is_at (names_order one) (d, w) ≡ is_named d w two
  key-same = order-same one (d, w) ∙ ap (is_named d w) same

  rest-same : list_any (is_at (names_order (d, w))) start ≡ is_listed d w before
  rest-same = listed-as d w start ∙ ap (is_listed d w) begun

  -- a workflow was put to the others
  pub listed-more : list_any (is_at (names_order (d, w))) after ≡ cond (is_at (names_order one) (d, w)) true (list_any (is_at (names_order (d, w))) start) → is_listed d w after ≡ (is_named d w two || is_listed d w before)
  listed-more e = sym (listed-as d w after) ∙ e ∙ ap (λ t. cond t true (list_any (is_at (names_order (d, w))) start)) key-same ∙ ap (cond (is_named d w two) true) rest-same ∙ cond-or (is_named d w two) (is_listed d w before)

  -- it was taken from them
  pub listed-less : list_any (is_at (names_order (d, w))) after ≡ cond (is_at (names_order one) (d, w)) false (list_any (is_at (names_order (d, w))) start) → is_listed d w after ≡ (not (is_named d w two) && is_listed d w before)
  listed-less e = sym (listed-as d w after) ∙ e ∙ ap (λ t. cond t false (list_any (is_at (names_order (d, w))) start)) key-same ∙ ap (cond (is_named d w two) false) rest-same ∙ cond-and (is_named d w two) (is_listed d w before)
