-- The batches that lead to one, through parents and carriers.
use Rattle.std.proofs.Common.{◌≡◌, ◌+◌, ◌<◌, Bool, true, false, List, [], ◌∷◌, ◌++◌, length, reverse, Option, Some, None, refl, sym, ◌∙◌, subst, ap, arith, length-append, if◌then◌else◌}
use Rattle.std.specs.Prelude.{IfSome}
use Rattle.std.proofs.lemmas.List.{append-nil, append_assoc, reverse-append}
use Rattle.ndc_event.specs.Key.{key_eq, key_lt}
use Rattle.ndc_event.specs.declared.batch.Batch.{Batch}
use Rattle.ndc_event.specs.declared.key.BatchKey.{BatchKey}
use Rattle.ndc_model_cells.specs.Cells.{ancestors_down, ancestors_over, missing_of}
use Rattle.ndc_model_sets.specs.Paths.{Walk, is_wanted}
use Rattle.ndc_model_sets.specs.Reading.{named}
use Rattle.ndc_model_sets.specs.Sets.{ComeAfter, Has, IsSet, PointsBack, Rise, batch_at, earlier}
use Rattle.ndc_model_sets.proofs.KeyLemmas.{key_eq-self}
use Rattle.ndc_model_sets.proofs.PathLemmas.{GoesOn, from, other-key}
use Rattle.ndc_model_sets.proofs.SetLemmas.{after-trans, at-cases, found-all, found-has, found-key}
use Rattle.ndc_resend.specs.Serving.{chain_to}

-- a step keeps how walks go on
goes_on-over : (b : Batch) (more : List Batch) (one two : Walk) → GoesOn more one two → GoesOn more (ancestors_over b one) (ancestors_over b two)
goes_on-over b more one two g = by (is_wanted two.wanted b) refl
  where
    same : is_wanted one.wanted b ≡ is_wanted two.wanted b
    same = ap (λ w. is_wanted w b) g.wanted

    by : (t : Bool) → is_wanted two.wanted b ≡ t → GoesOn more (ancestors_over b one) (ancestors_over b two)
    by true e = let f : is_wanted one.wanted b ≡ true = same ∙ e in
        record { wanted = rw (e, f) refl; path = rw (e, f) (ap (λ p. b ∷ p) g.path) }
    by false e = let f : is_wanted one.wanted b ≡ false = same ∙ e in
        record { wanted = rw (e, f) g.wanted; path = rw (e, f) g.path }

-- nothing is found where nothing is wanted, or a key that is not there
pub none-wanted : (batches : List Batch) → ancestors_down batches (from None) ≡ from None
none-wanted [] = refl
none-wanted (b ∷ batches) = ap (ancestors_over b) (none-wanted batches)

passed : (b : Batch) (key : BatchKey) → key_eq b.key key ≡ false → ancestors_over b (from (Some key)) ≡ from (Some key)
passed b key e = ap (λ t. if t then record { wanted = earlier b; path = b ∷ [] } else from (Some key)) e

none-found : (batches : List Batch) (key : BatchKey) → ComeAfter key batches → ancestors_down batches (from (Some key)) ≡ from (Some key)
none-found [] key after = refl
none-found (b ∷ batches) key after = ap (ancestors_over b) (none-found batches key after.1) ∙ passed b key (other-key key b.key after.0)

absent : (batches : List Batch) (key : BatchKey) → batch_at key batches ≡ None → ancestors_down batches (from (Some key)) ≡ from (Some key)
absent [] key = λ none. refl
absent (b ∷ batches) key =
    at-cases (λ o. o ≡ None → ancestors_down (b ∷ batches) (from (Some key)) ≡ from (Some key)) b batches key (λ _ h. absurd (cc))
    (λ e h. ap (ancestors_over b) (absent batches key h) ∙ passed b key e)

-- the earlier key is missing where it is that of none
pub missing-earlier : (batches : List Batch) (b : Batch) (key : BatchKey) → earlier b ≡ Some key → batch_at key batches ≡ None → missing_of b batches ≡ Some key
missing-earlier batches b key e none =
    ap (λ (o : Option BatchKey). (ancestors_down batches (from o)).wanted) e ∙ ap (λ (v : Walk). v.wanted) (absent batches key none)

none-behind : (b : Batch) (batches : List Batch) (wanted : Option BatchKey) → ((key : BatchKey) → wanted ≡ Some key → key_lt key b.key ≡ true)
    → ComeAfter b.key batches → ancestors_down (b ∷ batches) (from wanted) ≡ from wanted
none-behind b batches None back after = none-wanted (b ∷ batches)
none-behind b batches (Some key) back after = none-found (b ∷ batches) key (back key refl, after-trans key b.key batches (back key refl) after)

-- the walk from a batch goes on after the walk from its earlier one
walk-earlier : (batches : List Batch) (b : Batch) → Rise batches → PointsBack b → Has batches b → GoesOn (b ∷ []) (ancestors_down batches (from (Some b.key))) (ancestors_down batches (from (earlier b)))
walk-earlier [] b rise back = λ h. absurd (cc)
walk-earlier (c ∷ cs) b rise back =
    at-cases (λ o. o ≡ Some b → GoesOn (b ∷ []) (ancestors_down (c ∷ cs) (from (Some b.key))) (ancestors_down (c ∷ cs) (from (earlier b)))) c cs b.key
    (λ _ h. let same : c ≡ b = cc in
    subst (λ (x : Batch). GoesOn (x ∷ []) (ancestors_down (c ∷ cs) (from (Some x.key))) (ancestors_down (c ∷ cs) (from (earlier x)))) same (here (subst PointsBack (sym same) back)))
    (λ _ h. goes_on-over c (b ∷ []) (ancestors_down cs (from (Some b.key))) (ancestors_down cs (from (earlier b))) (walk-earlier cs b rise.1 back h))
  where
    here : PointsBack c → GoesOn (c ∷ []) (ancestors_down (c ∷ cs) (from (Some c.key))) (ancestors_down (c ∷ cs) (from (earlier c)))
    here own =
        let start : ancestors_down (c ∷ cs) (from (Some c.key)) ≡ record { wanted = earlier c; path = c ∷ [] } =
        ap (ancestors_over c) (none-found cs c.key rise.0) ∙ ap (λ t. if t then record { wanted = earlier c; path = c ∷ [] } else from (Some c.key)) (key_eq-self c.key) in
        let rest : ancestors_down (c ∷ cs) (from (earlier c)) ≡ from (earlier c) = none-behind c cs (earlier c) own rise.0 in
        record {
          wanted = ap (λ (w : Walk). w.wanted) start ∙ sym (ap (λ (w : Walk). w.wanted) rest);
          path = ap (λ (w : Walk). w.path) start ∙ sym (ap (λ (w : Walk). w.path ++ c ∷ []) rest);
        }

-- the batches that lead to this one, and it; none where there is none
abbrev pub chain_of : Option Batch → List Batch → List Batch
chain_of None batches = []
chain_of (Some b) batches = chain_to (Some b.key) batches

pub chain-named : (wanted : Option BatchKey) (batches : List Batch) → chain_of (named wanted batches) batches ≡ chain_to wanted batches
chain-named None batches = sym (ap (λ (w : Walk). w.path) (none-wanted batches))
chain-named (Some key) batches = by (batch_at key batches) refl
  where
    by : (o : Option Batch) → batch_at key batches ≡ o → chain_of o batches ≡ chain_to (Some key) batches
    by None e = sym (ap (λ (w : Walk). w.path) (absent batches key e))
    by (Some b) e = ap (λ (k : BatchKey). chain_to (Some k) batches) (found-key batches key b e)

pub chain-step : (batches : List Batch) (b : Batch) → IsSet batches → Has batches b → chain_of (Some b) batches ≡ chain_of (named (earlier b) batches) batches ++ b ∷ []
chain-step batches b set has =
    (walk-earlier batches b set.ordered (found-all PointsBack batches b.key b set.back has) has).path ∙ ap (λ (l : List Batch). l ++ b ∷ []) (sym (chain-named (earlier b) batches))

named-has : (batches : List Batch) (wanted : Option BatchKey) → IfSome (named wanted batches) (Has batches)
named-has batches None = tt
named-has batches (Some key) = by (batch_at key batches) refl
  where
    by : (o : Option Batch) → batch_at key batches ≡ o → IfSome o (Has batches)
    by None e = tt
    by (Some b) e = found-has batches key b e

-- what leads to the next batch, and after it those gone over, newest first
pub record Climbs (batches : List Batch) (next : Option Batch) (done whole : List Batch) : Type 0 where
  pub rest : chain_of next batches ++ reverse done ≡ whole
  pub has : IfSome next (Has batches)

pub climbs-start : (batches : List Batch) (wanted : Option BatchKey) (next : Option Batch) (done : List Batch) → next ≡ named wanted batches → done ≡ [] → Climbs batches next done (chain_to wanted batches)
climbs-start batches wanted next done e none = record {
  rest = ap (λ l. chain_of next batches ++ reverse l) none ∙ append-nil (chain_of next batches) ∙ ap (λ (o : Option Batch). chain_of o batches) e ∙ chain-named wanted batches;
  has = subst (λ (o : Option Batch). IfSome o (Has batches)) (sym e) (named-has batches wanted);
}

module _ (batches : List Batch) (set : IsSet batches) (b : Batch) (next up : Option Batch) (done whole : List Batch) (at : next ≡ Some b) (climbs : Climbs batches next done whole) (above : up ≡ named (earlier b) batches) where
  step : chain_of next batches ≡ chain_of up batches ++ b ∷ []
  step =
      ap (λ (o : Option Batch). chain_of o batches) at ∙ chain-step batches b set (subst (λ (o : Option Batch). IfSome o (Has batches)) at climbs.has)
      ∙ ap (λ (o : Option Batch). chain_of o batches ++ b ∷ []) (sym above)

  pub climbs-more : (after : List Batch) → after ≡ done ++ b ∷ [] → Climbs batches up after whole
  climbs-more after e = record {
    rest = ap (λ l. chain_of up batches ++ reverse l) e ∙ ap (λ l. chain_of up batches ++ l) (reverse-append done (b ∷ [])) ∙ sym (append_assoc (chain_of up batches) (b ∷ []) (reverse done))
        ∙ ap (λ l. l ++ reverse done) (sym step) ∙ climbs.rest;
    has = subst (λ (o : Option Batch). IfSome o (Has batches)) (sym above) (named-has batches (earlier b));
  }

  pub climbs-less : length (chain_of up batches) < length (chain_of next batches)
  climbs-less =
      let n : length (chain_of next batches) ≡ length (chain_of up batches) + 1 = ap (λ (l : List Batch). length l) step ∙ length-append (chain_of up batches) (b ∷ []) in omega (arith, n)
