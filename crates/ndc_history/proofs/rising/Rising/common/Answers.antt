use Rattle.std.proofs.Common.{◌≡◌, ◌∙◌, ℕ, Some, ◌-◌, ap, ◌≤◌, sym, refl, subst, take, List, true, get_or, arith}
use Rattle.ndc_history.specs.declared.item.Item.{Item}
use Rattle.ndc_history.specs.Common.{common_of}
use Rattle.ndc_history.specs.History.{rises}
use Rattle.ndc_history.proofs.CommonLemmas.{common-less, common-more, common-here, common-none_two}
use Rattle.ndc_history.proofs.rising.Rising.common.Goals as goal

pub returns-then-last-other : goal.returns-then-last-other
returns-then-last-other c =
    let one = c.as_slice-one.result.now in
    let two = c.as_slice-two.result.now in
    let none : Item = record { id = 0; version = 0 } in
    let rise_one : rises one ≡ true = subst (λ (l : List Item). rises l ≡ true) (sym c.as_slice-one.ensures.value) c.self.invariant in
    let rise_two : rises two ≡ true = subst (λ (l : List Item). rises l ≡ true) (sym c.as_slice-two.ensures.value) c.other.invariant in
    ap (λ (n : ℕ). Some (record { id = n; version = (get_or one (c.loop-own.own - 1) none).version })) c.min.ensures
    ∙ sym (common-here one two c.loop-own.own c.loop-own.others (get_or one (c.loop-own.own - 1) none) (get_or two (c.loop-own.others - 1) none) none rise_one rise_two
    c.loop-own-test.true c.if-others-gt0.true c.loop-own.invariant.within_one c.loop-own.invariant.within_two refl refl c.if-last-other.true)
    ∙ c.loop-own.invariant.common
    ∙ ap (λ (l : List Item). common_of l two) (c.as_slice-one.ensures.value ∙ c.self.view_is) ∙ ap (common_of c.args.self.now) (c.as_slice-two.ensures.value ∙ c.other.view_is)

pub loop-own-preserved-then-last-other-2 : goal.loop-own-preserved-then-last-other-2
loop-own-preserved-then-last-other-2 c =
    let one = c.as_slice-one.result.now in
    let two = c.as_slice-two.result.now in
    let none : Item = record { id = 0; version = 0 } in
    let rise_one : rises one ≡ true = subst (λ (l : List Item). rises l ≡ true) (sym c.as_slice-one.ensures.value) c.self.invariant in
    let rise_two : rises two ≡ true = subst (λ (l : List Item). rises l ≡ true) (sym c.as_slice-two.ensures.value) c.other.invariant in
    record {
      within_one = c.loop-own.invariant.within_one;
      within_two = omega arith;
      common =
          common-less one two c.loop-own.own c.loop-own.others (get_or one (c.loop-own.own - 1) none) (get_or two (c.loop-own.others - 1) none) none rise_one rise_two
          c.loop-own-test.true c.if-others-gt0.true c.loop-own.invariant.within_one c.loop-own.invariant.within_two refl refl c.if-last-other-2.true
          ∙ c.loop-own.invariant.common;
    }

pub loop-own-preserved : goal.loop-own-preserved
loop-own-preserved c =
    let one = c.as_slice-one.result.now in
    let two = c.as_slice-two.result.now in
    let none : Item = record { id = 0; version = 0 } in
    let rise_one : rises one ≡ true = subst (λ (l : List Item). rises l ≡ true) (sym c.as_slice-one.ensures.value) c.self.invariant in
    let rise_two : rises two ≡ true = subst (λ (l : List Item). rises l ≡ true) (sym c.as_slice-two.ensures.value) c.other.invariant in
    let other : (get_or one (c.loop-own.own - 1) none).version ≡ (get_or two (c.loop-own.others - 1) none).version → ⊥ = c.if-last-other.false in
    let least : (get_or two (c.loop-own.others - 1) none).version ≤ (get_or one (c.loop-own.own - 1) none).version = c.if-last-other-2.false in
    record {
      within_one = omega arith;
      within_two = c.loop-own.invariant.within_two;
      common =
          common-more one two c.loop-own.own c.loop-own.others (get_or one (c.loop-own.own - 1) none) (get_or two (c.loop-own.others - 1) none) none rise_one rise_two
          c.loop-own-test.true c.if-others-gt0.true c.loop-own.invariant.within_one c.loop-own.invariant.within_two refl refl (omega (arith, other, least))
          ∙ c.loop-own.invariant.common;
    }

pub returns-else-others-gt0 : goal.returns-else-others-gt0
returns-else-others-gt0 c =
    let one = c.as_slice-one.result.now in
    let two = c.as_slice-two.result.now in
    let zero : c.loop-own.others ≡ 0 = omega arith in
    sym (ap (λ (n : ℕ). common_of (take c.loop-own.own one) (take n two)) zero ∙ common-none_two (take c.loop-own.own one))
    ∙ c.loop-own.invariant.common
    ∙ ap (λ (l : List Item). common_of l two) (c.as_slice-one.ensures.value ∙ c.self.view_is) ∙ ap (common_of c.args.self.now) (c.as_slice-two.ensures.value ∙ c.other.view_is)
