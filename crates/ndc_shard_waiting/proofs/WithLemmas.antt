-- The message that has a batch of a key.
use Rattle.std.proofs.Common.{◌≡◌, Bool, true, false, List, [], ◌∷◌, ◌++◌, Option, Some, None, cond, refl, sym, ◌∙◌, subst, ap, true≢false}
use Rattle.std.specs.Prelude.{is_some, option_to_list, if◌then◌else◌}
use Rattle.std.specs.Option.{option_or}
use Rattle.ndc_model_cells.specs.declared.message.Message.{Message}
use Rattle.ndc_model_cells.specs.Cells.{both}
use Rattle.ndc_model_cells.specs.Messages.{batches_of}
use Rattle.ndc_event.specs.Key.{key_eq}
use Rattle.ndc_event.specs.declared.batch.Batch.{Batch}
use Rattle.ndc_event.specs.declared.key.BatchKey.{BatchKey}
use Rattle.ndc_model_sets.specs.Learned.{has_key}
use Rattle.ndc_model_sets.specs.Sets.{ComeAfter, Rise, batch_at}
use Rattle.ndc_model_sets.proofs.KeyLemmas.{key_eq-self}
use Rattle.ndc_model_sets.proofs.SetLemmas.{at-append, found-all, found-key, none-there}
use Rattle.ndc_shard_waiting.specs.Finding.{carried_at, carried_of, carrier_at, if_carrying, key_before, message_at, message_with}
use Rattle.ndc_shard_waiting.specs.Waiting.{AreWaiting}
use Rattle.ndc_shard_waiting.proofs.GetLemmas.{get-carried}
use Rattle.ndc_shard_waiting.proofs.OrderLemmas.{rise-back, rise-precede}
use Rattle.ndc_shard_waiting.proofs.ShelfLemmas.{message-cases, message-key}

-- where one of the first batches has the key, none of the others has
front-only : (key : BatchKey) (front rest : List Batch) → Rise (front ++ rest) → has_key (Some key) front ≡ true → batch_at key rest ≡ None
front-only key front rest rise has = by (batch_at key front) refl has
  where
    by : (o : Option Batch) → batch_at key front ≡ o → is_some o ≡ true → batch_at key rest ≡ None
    by None e h = absurd (true≢false (sym h))
    by (Some b) e h =
        none-there rest key
        (subst (λ (k : BatchKey). ComeAfter k rest) (found-key front key b e) (found-all (λ (x : Batch). ComeAfter x.key rest) front key b (rise-precede front rest rise) e))

-- a key of none of the batches is one of no message
none-with : (key : BatchKey) (ms : List Message) → batch_at key (batches_of ms) ≡ None → message_with key ms ≡ None
none-with key [] e = refl
none-with key (x ∷ xs) e = by (batch_at key (both x)) (sym (at-append (both x) (batches_of xs) key) ∙ e) (none-with key xs)
  where
    by : (o : Option Batch) → option_or o (batch_at key (batches_of xs)) ≡ None → (batch_at key (batches_of xs) ≡ None → message_with key xs ≡ None)
        → cond (is_some o) (Some x) (message_with key xs) ≡ None
    by None h rest = rest h
    by (Some b) h rest = absurd (cc)

-- a message is found by the key of each of its batches
found-with : (ms : List Message) → Rise (batches_of ms) → (k key : BatchKey) (m : Message) → message_at k ms ≡ Some m → has_key (Some key) (both m) ≡ true → message_with key ms ≡ Some m
found-with [] rise k key m = λ h has. absurd (cc)
found-with (x ∷ xs) rise k key m =
    message-cases (λ o. o ≡ Some m → has_key (Some key) (both m) ≡ true → message_with key (x ∷ xs) ≡ Some m) x xs k
    (λ _ h has. let same : x ≡ m = cc in
    ap (λ t. cond t (Some x) (message_with key xs)) (subst (λ (y : Message). has_key (Some key) (both y) ≡ true) (sym same) has) ∙ ap Some same)
    (λ _ h has. later (found-with xs (rise-back (both x) (batches_of xs) rise) k key m h has))
  where
    later : message_with key xs ≡ Some m → message_with key (x ∷ xs) ≡ Some m
    later e = by (has_key (Some key) (both x)) refl
      where
        by : (t : Bool) → has_key (Some key) (both x) ≡ t → cond t (Some x) (message_with key xs) ≡ Some m
        by true f = let none : message_with key xs ≡ None = none-with key xs (front-only key (both x) (batches_of xs) rise f) in absurd (cc)
        by false f = e

module _ (messages : List Message) (are : AreWaiting messages) where
  -- by its own batch's key
  pub with-own : (key : BatchKey) (m : Message) → message_at key messages ≡ Some m → message_with key messages ≡ Some m
  with-own key m h = found-with messages are.set.ordered key key m h (own key (message-key messages key m h))
    where
      own : (k : BatchKey) → m.batch.key ≡ k → has_key (Some k) (both m) ≡ true
      own k e =
          ap (λ t. is_some (cond t (Some m.batch) (batch_at k (option_to_list m.second)))) (subst (λ (other : BatchKey). key_eq m.batch.key other ≡ true) e (key_eq-self m.batch.key))

  -- any other key is that of what the message one task before carries
  pub with-carried : (key : BatchKey) → message_at key messages ≡ None → carrier_at (key_before key) messages ≡ message_with key messages
  with-carried key none = by (key_before key) (get-carried messages are key none)
    where
      there : (m : Message) (s : Batch) → m.second ≡ Some s → s.key ≡ key → has_key (Some key) (both m) ≡ true
      there m s e k = at (key_eq m.batch.key key)
        where
          same : key_eq s.key key ≡ true
          same = subst (λ (other : BatchKey). key_eq s.key other ≡ true) k (key_eq-self s.key)

          at : (t : Bool) → is_some (cond t (Some m.batch) (batch_at key (option_to_list m.second))) ≡ true
          at true = refl
          at false = ap (λ (o : Option Batch). is_some (batch_at key (option_to_list o))) e ∙ ap (λ t. is_some (cond t (Some s) None)) same

      carries : (before : BatchKey) (m : Message) → message_at before messages ≡ Some m → (o : Option Batch) → m.second ≡ o → o ≡ batch_at key (batches_of messages)
          → (if is_some o then Some m else None) ≡ message_with key messages
      carries before m h None e f = sym (none-with key messages (sym f))
      carries before m h (Some s) e f = sym (found-with messages are.set.ordered before key m h (there m s e (found-key (batches_of messages) key s (sym f))))

      at : (before : BatchKey) (o : Option Message) → message_at before messages ≡ o → carried_of o ≡ batch_at key (batches_of messages) → if_carrying o ≡ message_with key messages
      at before None h f = sym (none-with key messages (sym f))
      at before (Some m) h f = carries before m h m.second refl f

      by : (o : Option BatchKey) → carried_at o messages ≡ batch_at key (batches_of messages) → carrier_at o messages ≡ message_with key messages
      by None f = sym (none-with key messages (sym f))
      by (Some before) f = at before (message_at before messages) refl f
