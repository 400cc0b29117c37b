-- Messages that were brought, found by key, and the keys of their batches.
use Rattle.std.proofs.Common.{◌≡◌, Bool, true, false, ◌||◌, cond, List, [], ◌∷◌, ◌++◌, Option, Some, None, if◌then◌else◌, refl, sym, ◌∙◌, ap}
use Rattle.std.specs.BTreeMap.{insert_entry}
use Rattle.std.specs.Map.{values_of}
use Rattle.std.specs.Prelude.{is_some, option_to_list}
use Rattle.std.specs.declared.cmp.Ordering.{Ordering}
use Rattle.ndc_event.specs.Key.{key_eq, key_lt}
use Rattle.ndc_event.specs.declared.batch.Batch.{Batch}
use Rattle.ndc_event.specs.declared.key.BatchKey.{BatchKey}
use Rattle.ndc_model_cells.specs.declared.message.Message.{Message}
use Rattle.ndc_model_cells.specs.Cells.{both}
use Rattle.ndc_model_cells.specs.Messages.{batches_of}
use Rattle.ndc_model_sets.specs.Keys.{is_key_among, with_key}
use Rattle.ndc_model_sets.specs.Learned.{has_key}
use Rattle.ndc_model_sets.specs.Sets.{batch_at}
use Rattle.ndc_model_sets.proofs.KeyLemmas.{same-keys}
use Rattle.ndc_model_sets.proofs.KeyOrder.{key_cmp}
use Rattle.ndc_resend.specs.Bringing.{with_brought}
use Rattle.ndc_world_replication.specs.Brought.{AreKeysOf, by_key}

-- the messages of those under their keys are the messages
values_of-by_key : (messages : List Message) → values_of (by_key messages) ≡ messages
values_of-by_key [] = refl
values_of-by_key (m ∷ messages) = ap (λ l. m ∷ l) (values_of-by_key messages)

module _ (cmp : BatchKey → BatchKey → Ordering) (law : (a b : BatchKey) → cmp a b ≡ key_cmp a b) where
  -- a message goes to its place
  insert_entry-by_key : (m : Message) (messages : List Message) → insert_entry cmp (by_key messages) m.batch.key m ≡ by_key (with_brought m messages)
  insert_entry-by_key m [] = refl
  insert_entry-by_key m (x ∷ xs) = by (key_lt m.batch.key x.batch.key) (key_eq m.batch.key x.batch.key) refl refl (insert_entry-by_key m xs)
    where
      by : (l e : Bool) → key_lt m.batch.key x.batch.key ≡ l → key_eq m.batch.key x.batch.key ≡ e
          → insert_entry cmp (by_key xs) m.batch.key m ≡ by_key (with_brought m xs) → insert_entry cmp (by_key (x ∷ xs)) m.batch.key m ≡ by_key (with_brought m (x ∷ xs))
      by true e f g rest = rw (law m.batch.key x.batch.key, f) refl
      by false true f g rest = rw (law m.batch.key x.batch.key, f, g) (ap (λ (k : BatchKey). (k, m) ∷ by_key xs) (sym (same-keys m.batch.key x.batch.key g)))
      by false false f g rest = rw (law m.batch.key x.batch.key, f, g) (ap (λ l. (x.batch.key, x) ∷ l) rest)

  -- the entries then stand under their keys, and are the messages with this one
  pub inserted : (m : Message) (before after : List (BatchKey × Message)) → before ≡ by_key (values_of before) → after ≡ insert_entry cmp before m.batch.key m
      → (values_of after ≡ with_brought m (values_of before)) × (after ≡ by_key (values_of after))
  inserted m before after under e =
      let all : after ≡ by_key (with_brought m (values_of before)) = e ∙ ap (λ es. insert_entry cmp es m.batch.key m) under ∙ insert_entry-by_key m (values_of before) in
      let v : values_of after ≡ with_brought m (values_of before) = ap (λ es. values_of es) all ∙ values_of-by_key (with_brought m (values_of before)) in
      (v, all ∙ ap by_key (sym v))

-- a key with others
with-key : (new key : BatchKey) (keys : List BatchKey) → is_key_among key (with_key new keys) ≡ (key_eq new key || is_key_among key keys)
with-key new key [] = refl
with-key new key (other ∷ keys) = by (key_lt new other) (key_eq new other) refl (with-key new key keys)
  where
    turn : (s t u : Bool) → (s || (t || u)) ≡ (t || (s || u))
    turn true true u = refl
    turn true false u = refl
    turn false true u = refl
    turn false false u = refl

    once : (t u : Bool) → (t || u) ≡ (t || (t || u))
    once true u = refl
    once false u = refl

    by : (l e : Bool) → key_eq new other ≡ e → is_key_among key (with_key new keys) ≡ (key_eq new key || is_key_among key keys)
        → is_key_among key (if l then new ∷ other ∷ keys else if e then other ∷ keys else other ∷ with_key new keys) ≡ (key_eq new key || is_key_among key (other ∷ keys))
    by true e f rest = refl
    by false true f rest = once (key_eq other key) (is_key_among key keys) ∙ ap (λ (k : BatchKey). key_eq k key || (key_eq other key || is_key_among key keys)) (sym (same-keys new other f))
    by false false f rest = ap (λ t. key_eq other key || t) rest ∙ turn (key_eq other key) (key_eq new key) (is_key_among key keys)

-- whether a key is that of one of some batches
or-found : (t : Bool) (b : Batch) (o : Option Batch) → is_some (cond t (Some b) o) ≡ (t || is_some o)
or-found true b o = refl
or-found false b o = refl

-- the keys of a message's batches are put to others
abbrev both-keys : (b : Batch) → Option Batch → BatchKey → List BatchKey → Bool
both-keys b second key keys = is_some (batch_at key (b ∷ option_to_list second)) || is_key_among key keys

pub keys-lone : (b : Batch) (second : Option Batch) (old new : List BatchKey) → second ≡ None → new ≡ with_key b.key old → (key : BatchKey) → is_key_among key new ≡ both-keys b second key old
keys-lone b second old new none put key =
    ap (is_key_among key) put ∙ with-key b.key key old ∙ by (key_eq b.key key) ∙ ap (λ (o : Option Batch). both-keys b o key old) (sym none)
  where
    by : (t : Bool) → (t || is_key_among key old) ≡ (is_some (cond t (Some b) None) || is_key_among key old)
    by true = refl
    by false = refl

pub keys-both : (b other : Batch) (second : Option Batch) (old one new : List BatchKey) → second ≡ Some other → one ≡ with_key b.key old → new ≡ with_key other.key one
    → (key : BatchKey) → is_key_among key new ≡ both-keys b second key old
keys-both b other second old one new e first then_other key =
    ap (is_key_among key) then_other ∙ with-key other.key key one ∙ ap (λ l. key_eq other.key key || is_key_among key l) first ∙ ap (λ t. key_eq other.key key || t) (with-key b.key key old)
    ∙ by (key_eq b.key key) (key_eq other.key key) ∙ ap (λ (o : Option Batch). both-keys b o key old) (sym e)
  where
    by : (s t : Bool) → (t || (s || is_key_among key old)) ≡ (is_some (cond s (Some b) (cond t (Some other) None)) || is_key_among key old)
    by true true = refl
    by true false = refl
    by false true = refl
    by false false = refl

-- the keys of one more message
pub keys-more : (messages after : List Message) (m : Message) (keys new : List BatchKey) → after ≡ messages ++ m ∷ [] → ((key : BatchKey) → is_key_among key new ≡ (has_key (Some key) (both m) || is_key_among key keys))
    → AreKeysOf messages keys → AreKeysOf after new
keys-more messages after m keys new e put are key =
    put key ∙ ap (λ t. has_key (Some key) (both m) || t) (are key) ∙ sym (ap (λ l. is_some (batch_at key (batches_of l))) e ∙ joined messages)
  where
    turn : (s t u : Bool) → (s || (t || u)) ≡ (t || (s || u))
    turn true true u = refl
    turn true false u = refl
    turn false true u = refl
    turn false false u = refl

    none : (t : Bool) → t ≡ (t || false)
    none true = refl
    none false = refl

    front : (bs cs : List Batch) → is_some (batch_at key (bs ++ cs)) ≡ (is_some (batch_at key bs) || is_some (batch_at key cs))
    front [] cs = refl
    front (b ∷ bs) cs = or-found (key_eq b.key key) b (batch_at key (bs ++ cs)) ∙ ap (λ t. key_eq b.key key || t) (front bs cs) ∙ both-of (key_eq b.key key) b (batch_at key bs) (is_some (batch_at key cs))
      where
        both-of : (t : Bool) (x : Batch) (o : Option Batch) (u : Bool) → (t || (is_some o || u)) ≡ (is_some (cond t (Some x) o) || u)
        both-of true x o u = refl
        both-of false x o u = refl

    joined : (ms : List Message) → is_some (batch_at key (batches_of (ms ++ m ∷ []))) ≡ (has_key (Some key) (both m) || is_some (batch_at key (batches_of ms)))
    joined [] = front (both m) []
    joined (n ∷ ms) =
        front (both n) (batches_of (ms ++ m ∷ [])) ∙ ap (λ t. is_some (batch_at key (both n)) || t) (joined ms)
        ∙ turn (is_some (batch_at key (both n))) (has_key (Some key) (both m)) (is_some (batch_at key (batches_of ms)))
        ∙ ap (λ t. has_key (Some key) (both m) || t) (sym (front (both n) (batches_of ms)))
