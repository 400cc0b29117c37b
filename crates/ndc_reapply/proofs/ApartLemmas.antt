-- Origins, each once.
use Rattle.std.proofs.Common.{◌≡◌, suc, Bool, true, false, not, ◌||◌, List, [], ◌∷◌, ◌++◌, get_or, refl, ap, sym, ◌∙◌, arith, true≢false}
use Rattle.std.proofs.lemmas.Bool.{and_parts, and_from}
use Rattle.std.proofs.lemmas.List.Folds.{list_any-append, list_any_none}
use Rattle.ndc_event.specs.declared.key.Origin.{Origin}
use Rattle.ndc_state.specs.Laws.{AreApart}
use Rattle.ndc_state.specs.Origins.{same_origin, is_among}
use Rattle.ndc_reapply.specs.Laws.{are_unlisted}
use Rattle.ndc_reapply.proofs.OrderLemmas.{same_origin-self, same_origin-not}

pub not-true : (b : Bool) → not b ≡ true → b ≡ false
not-true true h = absurd (cc)
not-true false h = refl

-- the first of origins that are apart is none of the others
pub AreApart-head : (o : Origin) (os : List Origin) → AreApart (o ∷ os) → is_among o os ≡ false
AreApart-head o os apart =
    list_any_none (same_origin o) os (λ k d lt. same_origin-not o (get_or os k d) (apart 0 (suc k) d (omega arith) (omega arith)))

pub AreApart-tail : (o : Origin) (os : List Origin) → AreApart (o ∷ os) → AreApart os
AreApart-tail o os apart i j d lt within = apart (suc i) (suc j) d (omega arith) (omega arith)

-- neither of two tests holds
either : (p q : Bool) → (p || q) ≡ false → (p ≡ false) × (q ≡ false)
either true q h = absurd (cc)
either false q h = (refl, h)

neither : (p q : Bool) → p ≡ false → q ≡ false → (p || (q || false)) ≡ false
neither p q h k = rw (h, k) refl

not-of : (b : Bool) → b ≡ false → not b ≡ true
not-of b h = rw h refl

-- origins that are not listed stay so where another one is listed
pub are_unlisted-more : (os listed : List Origin) (o : Origin) → are_unlisted os listed ≡ true → is_among o os ≡ false → are_unlisted os (listed ++ o ∷ []) ≡ true
are_unlisted-more [] listed o h k = refl
are_unlisted-more (x ∷ os) listed o h k =
    let head = and_parts (not (is_among x listed)) (are_unlisted os listed) h in
    let apart = either (same_origin o x) (is_among o os) k in
    let other : same_origin x o ≡ false = same_origin-not x o (λ e. true≢false (sym (same_origin-self x) ∙ ap (λ y. same_origin y x) e ∙ apart.0)) in
    and_from (not (is_among x (listed ++ o ∷ []))) (are_unlisted os (listed ++ o ∷ []))
    (not-of (is_among x (listed ++ o ∷ [])) (list_any-append (same_origin x) listed (o ∷ []) ∙ neither (is_among x listed) (same_origin x o) (not-true (is_among x listed) head.0) other))
    (are_unlisted-more os listed o head.1 apart.1)
