-- The batch of a key is that of a message, or carried by the message one task before.
use Rattle.std.proofs.Common.{◌≡◌, ℕ, ◌+◌, ◌-◌, ◌==◌, Bool, true, false, ◌&&◌, ◌||◌, List, [], ◌∷◌, ◌++◌, ◌⊎◌, inl, inr, Option, Some, None, IfSome, Result, Ok, Err, cond, refl, sym, ◌∙◌, subst, ap, true≢false, arith}
use Rattle.std.specs.Prelude.{option_to_list, if◌then◌else◌, OnOk, OnErr}
use Rattle.std.specs.List.{AllByRecursion}
use Rattle.std.proofs.lemmas.Bool.{eqb-true, eq-eqb}
use Rattle.std.specs.declared.alloc.AllocError.{AllocError}
use Rattle.ndc_model_cells.specs.declared.message.Message.{Message}
use Rattle.ndc_model_cells.specs.Cells.{both}
use Rattle.ndc_model_cells.specs.Writing.{key_behind}
use Rattle.ndc_event.specs.Key.{key_lt, key_eq}
use Rattle.ndc_event.specs.declared.batch.Batch.{Batch}
use Rattle.ndc_event.specs.declared.key.BatchKey.{BatchKey}
use Rattle.ndc_model_sets.specs.Sets.{earlier, batch_at}
use Rattle.ndc_model_sets.proofs.KeyLemmas.{before-irrefl, key-parts, same-keys, key_eq-self}
use Rattle.ndc_model_sets.proofs.SetLemmas.{found-key, found-has, has-found}
use Rattle.ndc_model_sets.proofs.BranchLemmas.{has-among}
use Rattle.ndc_model_sets.proofs.ForkLemmas.{among-cases}
use Rattle.ndc_model_sets.proofs.Lists.{Among, all-among}
use Rattle.ndc_model_cells.specs.Messages.{batches_of, IsCarriedBy, IsNewTo}
use Rattle.ndc_shard_waiting.specs.Waiting.{put_off, CanWait, AreWaiting}
use Rattle.ndc_shard_waiting.specs.Finding.{message_at, key_before, carried_of, carried_at}
use Rattle.ndc_shard_waiting.specs.Linking.{is_linked, is_link_for, is_awaited}
use Rattle.ndc_shard_waiting.specs.declared.links.Link.{Link}
use Rattle.ndc_shard_waiting.proofs.OrderLemmas.{all-back}
use Rattle.ndc_shard_waiting.proofs.FreeLemmas.{all-there, own-all}
use Rattle.ndc_shard_waiting.proofs.PutLemmas.{put-waiting}
use Rattle.ndc_shard_waiting.proofs.LoopLemmas.{any-none}
use Rattle.ndc_shard_waiting.proofs.ShelfLemmas.{KeysRise, keys-rise, message-cases, message-key, message-all, any-put, link-only}

-- the key before the next one
pub before-behind : (key : BatchKey) → key_before (key_behind key) ≡ Some key
before-behind key = by (key.task + 1 == 0) refl
  where
    by : (t : Bool) → (key.task + 1 == 0) ≡ t → (if t then None else Some (record { version = key.version; task = key.task + 1 - 1 })) ≡ Some key
    by true e = let z : key.task + 1 ≡ 0 = eqb-true (key.task + 1) 0 e in absurd (omega arith)
    by false e = ap Some (key-parts (record { version = key.version; task = key.task + 1 - 1 }) key refl (omega arith))

pub behind-before : (key before : BatchKey) → key_before key ≡ Some before → key ≡ key_behind before
behind-before key before = by (key.task == 0) refl
  where
    same : (key.task == 0) ≡ false → record { version = key.version; task = key.task - 1 } ≡ before → key ≡ key_behind before
    same e h = key-parts key (key_behind before) (ap (λ (k : BatchKey). k.version) h) (by-task (cases-zero key.task e) (ap (λ (k : BatchKey). k.task) h))
      where
        cases-zero : (n : ℕ) → (n == 0) ≡ false → n ≡ 0 → ⊥
        cases-zero n e z = true≢false (sym (eq-eqb n 0 z) ∙ e)

        by-task : (key.task ≡ 0 → ⊥) → key.task - 1 ≡ before.task → key.task ≡ before.task + 1
        by-task nz t = omega (arith, nz, t)

    by : (t : Bool) → (key.task == 0) ≡ t → (if t then None else Some (record { version = key.version; task = key.task - 1 })) ≡ Some before → key ≡ key_behind before
    by true e h = absurd (cc)
    by false e h = same e (cc)

-- a batch of messages is that of one of them, or carried by it
among-of : (messages : List Message) (b : Batch) → Among b (batches_of messages) → (m : Message) × Among m messages × ((b ≡ m.batch) ⊎ (m.second ≡ Some b))
among-of [] b h = absurd h
among-of (x ∷ xs) b h = by (among-cases b (both x) (batches_of xs) h) (among-of xs b)
  where
    carried : (o : Option Batch) → x.second ≡ o → Among b (option_to_list o) → (m : Message) × Among m (x ∷ xs) × ((b ≡ m.batch) ⊎ (m.second ≡ Some b))
    carried None e k = absurd k
    carried (Some s) e (inl same) = (x, inl refl, inr (e ∙ ap Some (sym same)))
    carried (Some s) e (inr k) = absurd k

    by : Among b (both x) ⊎ Among b (batches_of xs) → (Among b (batches_of xs) → (m : Message) × Among m xs × ((b ≡ m.batch) ⊎ (m.second ≡ Some b)))
        → (m : Message) × Among m (x ∷ xs) × ((b ≡ m.batch) ⊎ (m.second ≡ Some b))
    by (inl (inl same)) rest = (x, inl refl, inl same)
    by (inl (inr k)) rest = carried x.second refl k
    by (inr k) rest = let r = rest k in (r.0, inr r.1, r.2)

-- what holds of the batches holds of what messages carry
second-all : (P : Batch → Type 0) (messages : List Message) → AllByRecursion P (batches_of messages) → AllByRecursion (λ sent. IfSome sent.second P) messages
second-all P [] all = tt
second-all P (sent ∷ messages) all = (by sent.second all.1, second-all P messages (all-back P (both sent) (batches_of messages) all))
  where
    by : (o : Option Batch) → AllByRecursion P (option_to_list o ++ batches_of messages) → IfSome o P
    by None h = tt
    by (Some s) h = h.0

module _ (messages : List Message) (are : AreWaiting messages) where
  each-there : AllByRecursion (λ b. batch_at b.key (batches_of messages) ≡ Some b) (batches_of messages)
  each-there = all-there (batches_of messages) are.set.ordered

  -- a message's own batch is found under its key
  pub get-own : (key : BatchKey) (m : Message) → message_at key messages ≡ Some m → batch_at key (batches_of messages) ≡ Some m.batch
  get-own key m h =
      has-found (batches_of messages) key m.batch (message-key messages key m h)
      (message-all (λ x. batch_at x.batch.key (batches_of messages) ≡ Some x.batch) messages key m (own-all (λ b. batch_at b.key (batches_of messages) ≡ Some b) messages each-there) h)

  there-own : (ms : List Message) → KeysRise ms → (m : Message) → Among m ms → message_at m.batch.key ms ≡ Some m
  there-own [] rise m h = absurd h
  there-own (x ∷ xs) rise m (inl same) = ap (λ (y : Message). cond (key_eq x.batch.key y.batch.key) (Some x) (message_at y.batch.key xs)) same ∙ ap (λ t. cond t (Some x) (message_at x.batch.key xs)) (key_eq-self x.batch.key) ∙ ap Some (sym same)
  there-own (x ∷ xs) rise m (inr h) = ap (λ t. cond t (Some x) (message_at m.batch.key xs)) (apart (key_eq x.batch.key m.batch.key) refl) ∙ there-own xs rise.1 m h
    where
      before : key_lt x.batch.key m.batch.key ≡ true
      before = all-among (λ (y : Message). key_lt x.batch.key y.batch.key ≡ true) xs m rise.0 h

      apart : (t : Bool) → key_eq x.batch.key m.batch.key ≡ t → t ≡ false
      apart true e =
          absurd (before-irrefl x.batch.key (subst (λ (k : BatchKey). key_lt x.batch.key k ≡ true) (sym (same-keys x.batch.key m.batch.key e)) before))
      apart false e = refl

  -- what a message carries has the next key
  carried-key : (m : Message) → Among m messages → (s : Batch) → m.second ≡ Some s → s.key ≡ key_behind m.batch.key
  carried-key m h s e = by m.second e (all-among CanWait messages m are.each h).message.second
    where
      by : (o : Option Batch) → o ≡ Some s → IfSome o (IsCarriedBy m.batch) → s.key ≡ key_behind m.batch.key
      by None f c = absurd (cc)
      by (Some x) f c = let same : x ≡ s = cc in subst (λ (y : Batch). y.key ≡ key_behind m.batch.key) same c.key

  message-among : (ms : List Message) (key : BatchKey) (m : Message) → message_at key ms ≡ Some m → Among m ms
  message-among [] key m = λ h. absurd (cc)
  message-among (x ∷ xs) key m = message-cases (λ o. o ≡ Some m → Among m (x ∷ xs)) x xs key (λ _ h. inl (cc)) (λ _ h. inr (message-among xs key m h))

  -- any other batch is what the message one task before carries
  pub get-carried : (key : BatchKey) → message_at key messages ≡ None → carried_at (key_before key) messages ≡ batch_at key (batches_of messages)
  get-carried key none = by (batch_at key (batches_of messages)) refl
    where
      from-message : (b : Batch) → batch_at key (batches_of messages) ≡ Some b → (m : Message) → Among m messages → (b ≡ m.batch) ⊎ (m.second ≡ Some b) → carried_at (key_before key) messages ≡ Some b
      from-message b h m among (inl same) =
          let k : m.batch.key ≡ key = ap (λ (x : Batch). x.key) (sym same) ∙ found-key (batches_of messages) key b h in
          let there : message_at key messages ≡ Some m = subst (λ (x : BatchKey). message_at x messages ≡ Some m) k (there-own messages (keys-rise messages are.set.ordered) m among) in
          absurd (cc)
      from-message b h m among (inr second) =
          let k : key ≡ key_behind m.batch.key = sym (found-key (batches_of messages) key b h) ∙ carried-key m among b second in
          ap (λ (x : BatchKey). carried_at (key_before x) messages) k ∙ ap (λ o. carried_at o messages) (before-behind m.batch.key)
          ∙ ap carried_of (there-own messages (keys-rise messages are.set.ordered) m among) ∙ second

      second-there : (before : BatchKey) → key_before key ≡ Some before → (m : Message) → message_at before messages ≡ Some m → (o : Option Batch) → m.second ≡ o
          → batch_at key (batches_of messages) ≡ None → o ≡ None
      second-there before e m h None f absent = refl
      second-there before e m h (Some s) f absent =
          let there : IfSome (Some s) (λ (x : Batch). batch_at x.key (batches_of messages) ≡ Some x) =
          subst (λ (o : Option Batch). IfSome o (λ (x : Batch). batch_at x.key (batches_of messages) ≡ Some x)) f
          (message-all (λ y. IfSome y.second (λ (x : Batch). batch_at x.key (batches_of messages) ≡ Some x)) messages before m (second-all (λ b. batch_at b.key (batches_of messages) ≡ Some b) messages each-there) h) in
          let k : s.key ≡ key = carried-key m (message-among messages before m h) s f ∙ ap key_behind (message-key messages before m h) ∙ sym (behind-before key before e) in
          let found : batch_at key (batches_of messages) ≡ Some s = subst (λ (x : BatchKey). batch_at x (batches_of messages) ≡ Some s) k there in
          absurd (cc)

      nothing : (o : Option BatchKey) → key_before key ≡ o → batch_at key (batches_of messages) ≡ None → carried_at o messages ≡ None
      nothing None e absent = refl
      nothing (Some before) e absent = inner (message_at before messages) refl
        where
          inner : (o : Option Message) → message_at before messages ≡ o → carried_of o ≡ None
          inner None f = refl
          inner (Some m) f = second-there before e m f m.second refl absent

      by : (o : Option Batch) → batch_at key (batches_of messages) ≡ o → carried_at (key_before key) messages ≡ o
      by None h = nothing (key_before key) refl h
      by (Some b) h =
          let r = among-of messages b (has-among (batches_of messages) b (found-has (batches_of messages) key b h)) in from-message b h r.0 r.1 r.2

  -- the key of a message that is new is that of none
  pub own-new : (new : Message) → IsNewTo (batches_of messages) new → message_at new.batch.key messages ≡ None
  own-new new apart = by (message_at new.batch.key messages) refl
    where
      by : (o : Option Message) → message_at new.batch.key messages ≡ o → o ≡ None
      by None h = refl
      by (Some m) h = let there : batch_at new.batch.key (batches_of messages) ≡ Some m.batch = get-own new.batch.key m h in let absent : batch_at new.batch.key (batches_of messages) ≡ None = apart.0 in absurd (cc)

-- a key of no message is awaited by none
pub none-awaited : (before one : BatchKey) (o : Option BatchKey) (own : BatchKey) (messages : List Message) → message_at own messages ≡ None → (is_link_for before one o own && is_awaited before one messages) ≡ false
none-awaited before one None own messages none = refl
none-awaited before one (Some key) own messages none = by (key_eq key before) (key_eq own one) refl
  where
    by : (s t : Bool) → key_eq own one ≡ t → ((s && t) && is_awaited before one messages) ≡ false
    by false t e = refl
    by true false e = refl
    by true true e = any-none (λ m. is_link_for before one (earlier m.batch) m.batch.key) one (link-only before one) messages (subst (λ (k : BatchKey). message_at k messages ≡ None) (same-keys own one e) none)

-- after a put the messages wait, and are linked
pub put-links : (r : Result (Unit {0}) AllocError) (new : Message) (before after : List Message) (links more : List Link) → AreWaiting before → CanWait new → IsNewTo (batches_of before) new
    → ((a one : BatchKey) → is_linked a one links ≡ is_awaited a one before)
    → OnOk r (after ≡ put_off new before) → OnOk r ((a one : BatchKey) → is_linked a one more ≡ (is_link_for a one (earlier new.batch) new.batch.key || is_linked a one links))
    → OnErr r (after ≡ before) → OnErr r ((a one : BatchKey) → is_linked a one more ≡ is_linked a one links)
    → AreWaiting after × ((a one : BatchKey) → is_linked a one more ≡ is_awaited a one after)
put-links (Ok x) new before after links more are can apart linked e f _ _ = (
  subst AreWaiting (sym e) (put-waiting new before are can apart),
  λ a one. f a one ∙ ap (λ t. is_link_for a one (earlier new.batch) new.batch.key || t) (linked a one)
      ∙ sym (any-put (λ m. is_link_for a one (earlier m.batch) m.batch.key) new before (own-new before are new apart)) ∙ ap (is_awaited a one) (sym e),
)
put-links (Err x) new before after links more are can apart linked _ _ e f =
    (subst AreWaiting (sym e) are, λ a one. f a one ∙ linked a one ∙ ap (is_awaited a one) (sym e))
