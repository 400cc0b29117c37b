-- The least key of what waits for a batch.
use Rattle.std.proofs.Common.{◌≡◌, Bool, true, false, ◌&&◌, ◌||◌, List, [], ◌∷◌, Option, Some, None, IfSome, IfNone, refl, sym, ◌∙◌, ap}
use Rattle.std.specs.Prelude.{MatchOption}
use Rattle.std.specs.List.{AllByRecursion}
use Rattle.ndc_event.specs.Key.{key_eq}
use Rattle.ndc_event.specs.declared.batch.Batch.{Batch}
use Rattle.ndc_event.specs.declared.key.BatchKey.{BatchKey}
use Rattle.ndc_model_cells.specs.Messages.{waits_for}
use Rattle.ndc_model_cells.specs.declared.message.Message.{Message}
use Rattle.ndc_model_sets.proofs.KeyLemmas.{key_eq-self}
use Rattle.ndc_model_sets.specs.Keys.{is_key_among}
use Rattle.ndc_shard_waiting.specs.Linking.{is_woken}

module _ (batches : List Batch) where
  -- where the key of none is woken, none waits
  none-waits : (messages : List Message) → ((one : BatchKey) → is_woken batches one messages ≡ false) → AllByRecursion (λ sent. waits_for batches sent ≡ false) messages
  none-waits [] none = tt
  none-waits (m ∷ messages) none = (first (waits_for batches m) (ap (λ t. (t && waits_for batches m) || is_woken batches m.batch.key messages) (sym (key_eq-self m.batch.key)) ∙ none m.batch.key), none-waits messages rest)
    where
      first : (t : Bool) → ((true && t) || is_woken batches m.batch.key messages) ≡ false → t ≡ false
      first true e = absurd (cc)
      first false e = refl

      rest : (one : BatchKey) → is_woken batches one messages ≡ false
      rest one = by (key_eq m.batch.key one && waits_for batches m) (none one)
        where
          by : (t : Bool) → (t || is_woken batches one messages) ≡ false → is_woken batches one messages ≡ false
          by true e = absurd (cc)
          by false e = e

  -- the least of the keys that are woken
  module _ (keys rest : List BatchKey) (messages : List Message) (woken : (one : BatchKey) → is_key_among one keys ≡ is_woken batches one messages) where
    pub least-woken : (o : Option BatchKey) → MatchOption o (keys ≡ []) (λ key. keys ≡ key ∷ rest) → IfSome o (λ key. is_woken batches key messages ≡ true)
    least-woken None e = tt
    least-woken (Some key) e = sym (woken key) ∙ ap (is_key_among key) e ∙ ap (λ t. t || is_key_among key rest) (key_eq-self key)

    pub none-woken : (o : Option BatchKey) → MatchOption o (keys ≡ []) (λ key. keys ≡ key ∷ rest) → IfNone o (AllByRecursion (λ sent. waits_for batches sent ≡ false) messages)
    none-woken None e = none-waits messages (λ one. sym (woken one) ∙ ap (is_key_among one) e)
    none-woken (Some key) e = tt
