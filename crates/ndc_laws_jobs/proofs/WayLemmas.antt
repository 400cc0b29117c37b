-- What lies above a batch is what is found on the way to its ancestors.
use Rattle.std.proofs.Common.{◌≡◌, Bool, true, false, cond, List, [], ◌∷◌, Some, None, ◌⊎◌, inl, inr, refl, sym, ◌∙◌, subst}
use Rattle.ndc_model_cells.specs.Cells.{ancestors_down, ancestry}
use Rattle.ndc_event.specs.declared.batch.Batch.{Batch}
use Rattle.ndc_model_sets.proofs.CurrentLemmas.{key-wanted}
use Rattle.ndc_laws_reached.proofs.WayLemmas.{Follows, way-follows, way-inside}
use Rattle.ndc_model_sets.specs.Learned.{IsClosed, WaitsFor, behind, itself}
use Rattle.ndc_model_sets.specs.Paths.{Walk, is_wanted}
use Rattle.ndc_model_sets.specs.Sets.{Has, IsSet, earlier}
use Rattle.ndc_model_sets.proofs.BranchLemmas.{among-has, same-batch}
use Rattle.ndc_model_sets.proofs.Lists.{Among}
use Rattle.ndc_model_sets.proofs.SetLemmas.{found-has, found-key}

-- one step further up
pub extend : (all : List Batch) (c y b : Batch) → Has all c → Has all y → earlier c ≡ Some y.key → WaitsFor all c b → WaitsFor all y b
extend all c y b c_has y_has e itself = behind c y y.key c_has e y_has itself
extend all c y b c_has y_has e (behind _ before key has f at above) = behind b before key has f at (extend all c y before c_has y_has e above)

-- a walk upwards from a batch through some of a set: what is found lies above, and so does what is wanted next
record IsLineage (all : List Batch) (b : Batch) (walk : Walk) : Type 0 where
  inside : (x : Batch) → Among x walk.path → WaitsFor all x b
  next : (x : Batch) → Has all x → walk.wanted ≡ Some x.key → WaitsFor all x b

module _ (all : List Batch) (b : Batch) (has : Has all b) where
  abbrev start : Walk
  start = record { wanted = earlier b; path = [] }

  lineage : (bs : List Batch) → ((x : Batch) → Among x bs → Has all x) → IsLineage all b (ancestors_down bs (record { wanted = earlier b; path = [] }))
  lineage [] part = record { inside = λ x none. absurd none; next = λ x x_has e. behind b x x.key has e x_has itself }
  lineage (c ∷ bs) part = by (is_wanted (ancestors_down bs (record { wanted = earlier b; path = [] })).wanted c) refl (lineage bs (λ x among. part x (inr among)))
    where
      walk : Walk
      walk = ancestors_down bs (record { wanted = earlier b; path = [] })

      by : (t : Bool) → is_wanted (ancestors_down bs (record { wanted = earlier b; path = [] })).wanted c ≡ t → IsLineage all b (ancestors_down bs (record { wanted = earlier b; path = [] }))
          → IsLineage all b (cond t (record { wanted = earlier c; path = c ∷ (ancestors_down bs (record { wanted = earlier b; path = [] })).path }) (ancestors_down bs (record { wanted = earlier b; path = [] })))
      by false e rest = rest
      by true e rest = record { inside = within; next = further }
        where
          c_has : Has all c
          c_has = part c (inl refl)

          c_above : WaitsFor all c b
          c_above = rest.next c c_has (key-wanted (ancestors_down bs (record { wanted = earlier b; path = [] })).wanted c e)

          within : (x : Batch) → (x ≡ c) ⊎ Among x (ancestors_down bs (record { wanted = earlier b; path = [] })).path → WaitsFor all x b
          within x (inl same) = subst (λ (y : Batch). WaitsFor all y b) (sym same) c_above
          within x (inr among) = rest.inside x among

          further : (x : Batch) → Has all x → earlier c ≡ Some x.key → WaitsFor all x b
          further x x_has f = extend all c x b c_has x_has f c_above

  -- what is on the way lies above
  pub way-above : IsSet all → (x : Batch) → Among x (ancestry b all).path → WaitsFor all x b
  way-above set x among = (lineage all (λ y there. among-has all y set.ordered there)).inside x among

  -- what lies above is on the way
  pub above-way : IsSet all → IsClosed all → (x : Batch) → WaitsFor all x b → (x ≡ b) ⊎ Among x (ancestry b all).path
  above-way set closed x above = from b (inl refl) above
    where
      from : (y : Batch) → (y ≡ b) ⊎ Among y (ancestry b all).path → WaitsFor all x y → (x ≡ b) ⊎ Among x (ancestry b all).path
      from y on itself = on
      from y on (behind _ before key y_has e at rest) = from before (step (way-follows b all set closed has y on)) rest
        where
          step : (earlier y ≡ None) ⊎ Follows (ancestry b all).path y → (before ≡ b) ⊎ Among before (ancestry b all).path
          step (inl none) = absurd (let both_are : None ≡ Some key = sym none ∙ e in cc)
          step (inr found) =
              let keys : Some key ≡ Some found.0.key = sym e ∙ found.2 in
              let k : key ≡ found.0.key = cc in
              let z_has : Has all found.0 = among-has all found.0 set.ordered (way-inside b all set closed has found.0 found.1) in
              let same : found.0 ≡ before = same-batch all found.0 before z_has (found-has all key before at) (sym k ∙ sym (found-key all key before at)) in
              inr (subst (λ (z : Batch). Among z (ancestry b all).path) same found.1)
