use Rattle.std.proofs.Common.{◌≡◌, ℕ, ◌-◌, length, slice_set, true, Some, ap, sym, ◌∙◌, subst, arith}
use Rattle.ndc_history.specs.History.{last_item, rises}
use Rattle.ndc_history.proofs.AddLemmas.{rises_push, rises_set}
use Rattle.ndc_history.proofs.rising.Rising.add.Goals as goal

pub invariant_of-self-then-item-last-3 : goal.invariant_of-self-then-item-last-3
invariant_of-self-then-item-last-3 c =
    let items = c.self.inside.items.items in
    let last : last_item items ≡ Some c.in-Some.last = sym (c.in-Some.ensures ∙ ap last_item c.as_slice.ensures.value) in
    let kept : rises (slice_set items (length items - 1) c.args.item) ≡ true =
    rises_set items c.in-Some.last c.args.item c.self.invariant last (omega arith) c.if-item-last-3.true in
    subst (λ (n : ℕ). rises (slice_set items (n - 1) c.args.item) ≡ true) (sym (c.len-end.ensures ∙ sym c.as_slice.ensures.len ∙ ap length c.as_slice.ensures.value)) kept

pub invariant_of-self-2 : goal.invariant_of-self-2
invariant_of-self-2 c =
    let items = c.self.inside.items.items in
    let last : last_item items ≡ Some c.in-Some.last = sym (c.in-Some.ensures ∙ ap last_item c.as_slice.ensures.value) in
    rw c.in_ok-push-2.ensures.items (rises_push items c.in-Some.last c.args.item c.self.invariant last (omega arith) (omega arith))
