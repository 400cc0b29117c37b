-- The keys of what is merged.
use Rattle.std.proofs.Common.{◌≡◌, Bool, true, false, ◌||◌, List, [], ◌∷◌, Some, refl, sym, ap, ◌∙◌, if◌then◌else◌}
use Rattle.std.specs.List.{list_any}
use Rattle.ndc_event.specs.Key.{key_eq, key_lt}
use Rattle.ndc_event.specs.declared.batch.Batch.{Batch}
use Rattle.ndc_event.specs.declared.key.BatchKey.{BatchKey}
use Rattle.ndc_model_sets.specs.Learned.{has_key}
use Rattle.ndc_model_sets.proofs.KeyLemmas.{same-keys}
use Rattle.ndc_explain_union.specs.Takings.{Taking}
use Rattle.ndc_explain_union.specs.Unions.{merged, merged_behind, united, united_behind}

module _ (key : BatchKey) where
  abbrev has : List Batch → Bool
  has batches = has_key (Some key) batches

  has-first : (b : Batch) (batches : List Batch) → has (b ∷ batches) ≡ (key_eq b.key key || has batches)
  has-first b batches = by (key_eq b.key key) refl
    where
      by : (t : Bool) → key_eq b.key key ≡ t → has (b ∷ batches) ≡ (t || has batches)
      by true e = rw e refl
      by false e = rw e refl

  or-swap3 : (a b c : Bool) → (a || (b || c)) ≡ (b || (a || c))
  or-swap3 true true c = refl
  or-swap3 true false c = refl
  or-swap3 false true c = refl
  or-swap3 false false c = refl

  or-group3 : (a b c : Bool) → ((a || b) || c) ≡ (a || (b || c))
  or-group3 true b c = refl
  or-group3 false b c = refl

  or-twice : (a b c : Bool) → (a || (b || c)) ≡ (a || (b || (a || c)))
  or-twice true b c = refl
  or-twice false true c = refl
  or-twice false false c = refl

  -- a batch, then others
  behind-has : (b : Batch) (rest : List Batch → List Batch) (ours : List Batch) → ((theirs : List Batch) → has (rest theirs) ≡ (has ours || has theirs))
      → (theirs : List Batch) → has (merged_behind b rest theirs) ≡ ((key_eq b.key key || has ours) || has theirs)
  behind-has b rest ours further [] =
      has-first b (rest []) ∙ ap (λ (t : Bool). key_eq b.key key || t) (further []) ∙ sym (or-group3 (key_eq b.key key) (has ours) false)
  behind-has b rest ours further (c ∷ theirs) = by (key_lt b.key c.key) (key_eq b.key c.key) refl (behind-has b rest ours further theirs)
    where
      k : Bool
      k = key_eq b.key key

      by : (less same : Bool) → key_eq b.key c.key ≡ same → has (merged_behind b rest theirs) ≡ ((k || has ours) || has theirs)
          → has (if less then b ∷ rest (c ∷ theirs) else if same then b ∷ rest theirs else c ∷ merged_behind b rest theirs) ≡ ((k || has ours) || has (c ∷ theirs))
      by true same e ind = has-first b (rest (c ∷ theirs)) ∙ ap (λ (t : Bool). k || t) (further (c ∷ theirs)) ∙ sym (or-group3 k (has ours) (has (c ∷ theirs)))
      by false true e ind =
          has-first b (rest theirs) ∙ ap (λ (t : Bool). k || t) (further theirs)
          ∙ or-twice k (has ours) (has theirs)
          ∙ ap (λ (x : BatchKey). k || (has ours || (key_eq x key || has theirs))) (same-keys b.key c.key e)
          ∙ ap (λ (t : Bool). k || (has ours || t)) (sym (has-first c theirs))
          ∙ sym (or-group3 k (has ours) (has (c ∷ theirs)))
      by false false e ind =
          has-first c (merged_behind b rest theirs) ∙ ap (λ (t : Bool). key_eq c.key key || t) ind
          ∙ or-swap3 (key_eq c.key key) (k || has ours) (has theirs)
          ∙ ap (λ (t : Bool). (k || has ours) || t) (sym (has-first c theirs))

  merged-has : (ours theirs : List Batch) → has (merged ours theirs) ≡ (has ours || has theirs)
  merged-has [] theirs = refl
  merged-has (b ∷ ours) theirs =
      behind-has b (merged ours) ours (merged-has ours) theirs ∙ ap (λ (t : Bool). t || has theirs) (sym (has-first b ours))

  behind-united : (so_far : List Batch) (takings : List Taking) → has (united_behind so_far takings) ≡ (has so_far || list_any (λ taking. has taking.dump.view.batches) takings)
  behind-united so_far [] = by (has so_far)
    where
      by : (t : Bool) → t ≡ (t || false)
      by true = refl
      by false = refl
  behind-united so_far (taking ∷ takings) =
      behind-united (merged so_far taking.dump.view.batches) takings
      ∙ ap (λ (t : Bool). t || list_any (λ taking. has taking.dump.view.batches) takings) (merged-has so_far taking.dump.view.batches)
      ∙ or-group3 (has so_far) (has taking.dump.view.batches) (list_any (λ taking. has taking.dump.view.batches) takings)

  pub united-has : (takings : List Taking) → has (united takings) ≡ list_any (λ taking. has taking.dump.view.batches) takings
  united-has takings = behind-united [] takings
