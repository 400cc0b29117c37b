-- Messages under their keys, keys in a set, and links.
use Rattle.std.proofs.Common.{◌≡◌, Bool, true, false, List, [], ◌∷◌, cond, Some, None, if◌then◌else◌, refl, ap, sym, ◌∙◌, subst}
use Rattle.std.specs.BTreeMap.{insert_entry, is_at}
use Rattle.std.specs.Map.{values_of, lookup, remove_entry}
use Rattle.std.specs.Ordering.{is_eq}
use Rattle.std.specs.declared.cmp.Ordering.{Ordering}
use Rattle.ndc_model_cells.specs.declared.message.Message.{Message}
use Rattle.ndc_event.specs.Key.{key_lt, key_eq}
use Rattle.ndc_event.specs.declared.key.BatchKey.{BatchKey}
use Rattle.ndc_model_sets.proofs.KeyLemmas.{key_eq-self, same-keys}
use Rattle.ndc_model_sets.proofs.KeyOrder.{key_cmp, key_cmp-same}
use Rattle.ndc_shard_waiting.specs.Waiting.{put_off}
use Rattle.ndc_shard_waiting.specs.Finding.{message_at, without_message}
use Rattle.ndc_shard_waiting.specs.MessageFields.{by_key}

-- the messages of those under their keys are the messages
pub values_of-by_key : (messages : List Message) → values_of (by_key messages) ≡ messages
values_of-by_key [] = refl
values_of-by_key (m ∷ messages) = ap (λ l. m ∷ l) (values_of-by_key messages)

module _ (cmp : BatchKey → BatchKey → Ordering) (law : (a b : BatchKey) → cmp a b ≡ key_cmp a b) where
  at-key : (key other : BatchKey) → is_at (cmp key) other ≡ key_eq other key
  at-key key other = ap is_eq (law key other) ∙ key_cmp-same key other

  -- what is found under a key is the message whose batch has this key
  lookup-by_key : (key : BatchKey) (messages : List Message) → lookup (is_at (cmp key)) (by_key messages) ≡ message_at key messages
  lookup-by_key key [] = refl
  lookup-by_key key (m ∷ messages) =
      ap (λ t. cond t (Some m) (lookup (is_at (cmp key)) (by_key messages))) (at-key key m.batch.key)
      ∙ ap (λ o. cond (key_eq m.batch.key key) (Some m) o) (lookup-by_key key messages)

  pub found : (key : BatchKey) (entries : List (BatchKey × Message)) → entries ≡ by_key (values_of entries) → lookup (is_at (cmp key)) entries ≡ message_at key (values_of entries)
  found key entries under = ap (lookup (is_at (cmp key))) under ∙ lookup-by_key key (values_of entries)

  -- a message whose key is new goes to its place
  insert_entry-by_key : (m : Message) (messages : List Message) → message_at m.batch.key messages ≡ None → insert_entry cmp (by_key messages) m.batch.key m ≡ by_key (put_off m messages)
  insert_entry-by_key m [] none = refl
  insert_entry-by_key m (x ∷ xs) none =
      by (key_lt m.batch.key x.batch.key) (key_eq m.batch.key x.batch.key) (key_eq x.batch.key m.batch.key) refl refl refl none (insert_entry-by_key m xs)
    where
      by : (l e r : Bool) → key_lt m.batch.key x.batch.key ≡ l → key_eq m.batch.key x.batch.key ≡ e → key_eq x.batch.key m.batch.key ≡ r
          → cond r (Some x) (message_at m.batch.key xs) ≡ None
          → (message_at m.batch.key xs ≡ None → insert_entry cmp (by_key xs) m.batch.key m ≡ by_key (put_off m xs)) → insert_entry cmp (by_key (x ∷ xs)) m.batch.key m ≡ by_key (put_off m (x ∷ xs))
      by l e true f g r h rest = absurd (cc)
      by true e false f g r h rest = rw (law m.batch.key x.batch.key, f) refl
      by false true false f g r h rest = absurd (apart (same-keys m.batch.key x.batch.key g))
        where
          apart : m.batch.key ≡ x.batch.key → ⊥
          apart same = let eq : key_eq x.batch.key m.batch.key ≡ true = subst (λ (k : BatchKey). key_eq k m.batch.key ≡ true) same (key_eq-self m.batch.key) in absurd (cc)
      by false false false f g r h rest = rw (law m.batch.key x.batch.key, f, g) (ap (λ l. (x.batch.key, x) ∷ l) (rest h))

  -- the entries then stand under their keys, and are the messages with this one
  pub inserted : (m : Message) (before after : List (BatchKey × Message)) → before ≡ by_key (values_of before) → message_at m.batch.key (values_of before) ≡ None
      → after ≡ insert_entry cmp before m.batch.key m → (values_of after ≡ put_off m (values_of before)) × (after ≡ by_key (values_of after))
  inserted m before after under none e =
      let all : after ≡ by_key (put_off m (values_of before)) = e ∙ ap (λ es. insert_entry cmp es m.batch.key m) under ∙ insert_entry-by_key m (values_of before) none in
      let v : values_of after ≡ put_off m (values_of before) = ap (λ es. values_of es) all ∙ values_of-by_key (put_off m (values_of before)) in
      (v, all ∙ ap by_key (sym v))

  remove_entry-by_key : (key : BatchKey) (messages : List Message) → remove_entry (is_at (cmp key)) (by_key messages) ≡ by_key (without_message key messages)
  remove_entry-by_key key [] = refl
  remove_entry-by_key key (m ∷ messages) =
      ap (λ t. cond t (by_key messages) ((m.batch.key, m) ∷ remove_entry (is_at (cmp key)) (by_key messages))) (at-key key m.batch.key)
      ∙ by (key_eq m.batch.key key) (remove_entry-by_key key messages)
    where
      by : (t : Bool) → remove_entry (is_at (cmp key)) (by_key messages) ≡ by_key (without_message key messages)
          → cond t (by_key messages) ((m.batch.key, m) ∷ remove_entry (is_at (cmp key)) (by_key messages)) ≡ by_key (if t then messages else m ∷ without_message key messages)
      by true rest = refl
      by false rest = ap (λ l. (m.batch.key, m) ∷ l) rest

  -- without a key the entries stand under their keys, and are the messages without it
  pub removed : (key : BatchKey) (before after : List (BatchKey × Message)) → before ≡ by_key (values_of before) → after ≡ remove_entry (is_at (cmp key)) before
      → (values_of after ≡ without_message key (values_of before)) × (after ≡ by_key (values_of after))
  removed key before after under e =
      let all : after ≡ by_key (without_message key (values_of before)) = e ∙ ap (λ es. remove_entry (is_at (cmp key)) es) under ∙ remove_entry-by_key key (values_of before) in
      let v : values_of after ≡ without_message key (values_of before) = ap (λ es. values_of es) all ∙ values_of-by_key (without_message key (values_of before)) in
      (v, all ∙ ap by_key (sym v))
