-- Messages that wait, looked up, put and taken; and which of them wait for which key.
use Rattle.std.proofs.Common.{◌≡◌, ◌<◌, length, arith, Bool, true, false, not, ◌&&◌, ◌||◌, List, [], ◌∷◌, Option, Some, None, cond, refl, sym, ◌∙◌, subst, ap, true≢false}
use Rattle.std.specs.Prelude.{if◌then◌else◌}
use Rattle.std.specs.List.{AllByRecursion, list_any}
use Rattle.std.proofs.lemmas.Bool.{and_parts}
use Rattle.ndc_model_cells.specs.declared.message.Message.{Message}
use Rattle.ndc_model_cells.specs.Cells.{both}
use Rattle.ndc_event.specs.Key.{key_lt, key_eq}
use Rattle.ndc_event.specs.declared.batch.Batch.{Batch}
use Rattle.ndc_event.specs.declared.key.BatchKey.{BatchKey}
use Rattle.ndc_model_sets.specs.Sets.{Rise, earlier, PointsBack}
use Rattle.ndc_model_sets.proofs.KeyLemmas.{before-irrefl, same-keys, key_eq-self}
use Rattle.ndc_model_cells.specs.Messages.{batches_of, waits_for}
use Rattle.ndc_shard_waiting.specs.Waiting.{put_off, CanWait, AreWaiting}
use Rattle.ndc_shard_waiting.specs.Finding.{message_at, without_message}
use Rattle.ndc_shard_waiting.specs.Linking.{is_link_for, is_awaited}
use Rattle.ndc_model_sets.proofs.Lists.{all-join}
use Rattle.ndc_shard_waiting.proofs.OrderLemmas.{all-front, all-back, rise-join, rise-front, rise-back, rise-precede}
use Rattle.ndc_shard_waiting.proofs.FreedLemmas.{precede-part}
use Rattle.ndc_shard_waiting.proofs.FreeLemmas.{own-all}
use Rattle.ndc_shard_waiting.proofs.PutLemmas.{put-cases}

-- own keys rise
abbrev pub KeysRise : List Message → Type 0
KeysRise [] = Unit {0}
KeysRise (sent ∷ messages) = AllByRecursion (λ m. key_lt sent.batch.key m.batch.key ≡ true) messages × KeysRise messages

pub keys-rise : (messages : List Message) → Rise (batches_of messages) → KeysRise messages
keys-rise [] rise = tt
keys-rise (sent ∷ messages) rise =
    (own-all (λ b. key_lt sent.batch.key b.key ≡ true) messages (rise-precede (both sent) (batches_of messages) rise).0, keys-rise messages (rise-back (both sent) (batches_of messages) rise))

-- looking a message up, by whether the first has the key
pub message-cases : (P : Option Message → Type 0) (sent : Message) (messages : List Message) (key : BatchKey) → (sent.batch.key ≡ key → P (Some sent))
    → (key_eq sent.batch.key key ≡ false → P (message_at key messages)) → P (message_at key (sent ∷ messages))
message-cases P sent messages key here further = by (key_eq sent.batch.key key) refl
  where
    by : (t : Bool) → key_eq sent.batch.key key ≡ t → P (cond t (Some sent) (message_at key messages))
    by true e = here (same-keys sent.batch.key key e)
    by false e = further e

pub message-key : (messages : List Message) (key : BatchKey) (m : Message) → message_at key messages ≡ Some m → m.batch.key ≡ key
message-key [] key m = λ h. absurd (cc)
message-key (sent ∷ messages) key m =
    message-cases (λ o. o ≡ Some m → m.batch.key ≡ key) sent messages key (λ e h. let same : sent ≡ m = cc in subst (λ (x : Message). x.batch.key ≡ key) same e) (λ _ h. message-key messages key m h)

pub message-all : (P : Message → Type 0) (messages : List Message) (key : BatchKey) (m : Message) → AllByRecursion P messages → message_at key messages ≡ Some m → P m
message-all P [] key m all = λ h. absurd (cc)
message-all P (sent ∷ messages) key m all =
    message-cases (λ o. o ≡ Some m → P m) sent messages key (λ e h. let same : sent ≡ m = cc in subst P same all.0) (λ _ h. message-all P messages key m all.1 h)

-- what is left of the messages without one
without-cases : (P : List Message → Type 0) (sent : Message) (messages : List Message) (key : BatchKey) → (sent.batch.key ≡ key → P messages)
    → (key_eq sent.batch.key key ≡ false → P (sent ∷ without_message key messages)) → P (without_message key (sent ∷ messages))
without-cases P sent messages key here further = by (key_eq sent.batch.key key) refl
  where
    by : (t : Bool) → key_eq sent.batch.key key ≡ t → P (if t then messages else sent ∷ without_message key messages)
    by true e = here (same-keys sent.batch.key key e)
    by false e = further e

all-without : (P : Message → Type 0) (key : BatchKey) (messages : List Message) → AllByRecursion P messages → AllByRecursion P (without_message key messages)
all-without P key [] all = tt
all-without P key (sent ∷ messages) all =
    without-cases (AllByRecursion P) sent messages key (λ _. all.1) (λ _. (all.0, all-without P key messages all.1))

batches-without : (P : Batch → Type 0) (key : BatchKey) (messages : List Message) → AllByRecursion P (batches_of messages) → AllByRecursion P (batches_of (without_message key messages))
batches-without P key [] all = tt
batches-without P key (sent ∷ messages) all =
    without-cases (λ l. AllByRecursion P (batches_of l)) sent messages key (λ _. all-back P (both sent) (batches_of messages) all)
    (λ _. all-join P (both sent) (batches_of (without_message key messages)) (all-front P (both sent) (batches_of messages) all) (batches-without P key messages (all-back P (both sent) (batches_of messages) all)))

rise-without : (key : BatchKey) (messages : List Message) → Rise (batches_of messages) → Rise (batches_of (without_message key messages))
rise-without key [] rise = tt
rise-without key (sent ∷ messages) rise =
    without-cases (λ l. Rise (batches_of l)) sent messages key (λ _. rise-back (both sent) (batches_of messages) rise)
    (λ _. rise-join (both sent) (batches_of (without_message key messages)) (rise-front (both sent) (batches_of messages) rise)
    (precede-part (both sent) (batches_of messages) (batches_of (without_message key messages)) (λ P all. batches-without P key messages all) (rise-precede (both sent) (batches_of messages) rise))
    (rise-without key messages (rise-back (both sent) (batches_of messages) rise)))

-- without one they still wait
pub without-waiting : (key : BatchKey) (messages : List Message) → AreWaiting messages → AreWaiting (without_message key messages)
without-waiting key messages are = record {
  set = record { ordered = rise-without key messages are.set.ordered; back = batches-without PointsBack key messages are.set.back };
  each = all-without CanWait key messages are.each;
}

-- a test that only a message of one key passes
module _ (g : Message → Bool) (one : BatchKey) (only : (m : Message) → g m ≡ true → m.batch.key ≡ one) where
  not-other : (m : Message) → key_eq m.batch.key one ≡ false → g m ≡ false
  not-other m n = by (g m) refl
    where
      by : (t : Bool) → g m ≡ t → t ≡ false
      by true e = absurd (true≢false (sym (subst (λ (k : BatchKey). key_eq k one ≡ true) (sym (only m e)) (key_eq-self one)) ∙ n))
      by false e = refl

  pub none-behind : (messages : List Message) → AllByRecursion (λ m. key_lt one m.batch.key ≡ true) messages → list_any g messages ≡ false
  none-behind [] all = refl
  none-behind (m ∷ messages) all =
      ap (λ t. t || list_any g messages) (not-other m (by (key_eq m.batch.key one) refl)) ∙ none-behind messages all.1
    where
      by : (t : Bool) → key_eq m.batch.key one ≡ t → t ≡ false
      by true e = absurd (before-irrefl one (subst (λ (k : BatchKey). key_lt one k ≡ true) (same-keys m.batch.key one e) all.0))
      by false e = refl

  pub any-at : (messages : List Message) (m : Message) → KeysRise messages → message_at one messages ≡ Some m → list_any g messages ≡ g m
  any-at [] m rise = λ h. absurd (cc)
  any-at (sent ∷ messages) m rise =
      message-cases (λ o. o ≡ Some m → list_any g (sent ∷ messages) ≡ g m) sent messages one
      (λ e h. let same : sent ≡ m = cc in
      ap (λ t. g sent || t) (none-behind messages (subst (λ (k : BatchKey). AllByRecursion (λ x. key_lt k x.batch.key ≡ true) messages) e rise.0)) ∙ or-false (g sent) ∙ ap g same)
      (λ n h. ap (λ t. t || list_any g messages) (not-other sent n) ∙ any-at messages m rise.1 h)
    where
      or-false : (t : Bool) → (t || false) ≡ t
      or-false true = refl
      or-false false = refl

  pub any-without-same : (messages : List Message) → KeysRise messages → list_any g (without_message one messages) ≡ false
  any-without-same [] rise = refl
  any-without-same (sent ∷ messages) rise =
      without-cases (λ l. list_any g l ≡ false) sent messages one
      (λ e. none-behind messages (subst (λ (k : BatchKey). AllByRecursion (λ x. key_lt k x.batch.key ≡ true) messages) e rise.0))
      (λ n. ap (λ t. t || list_any g (without_message one messages)) (not-other sent n) ∙ any-without-same messages rise.1)

  pub any-without-other : (key : BatchKey) (messages : List Message) → key_eq key one ≡ false → list_any g (without_message key messages) ≡ list_any g messages
  any-without-other key [] n = refl
  any-without-other key (sent ∷ messages) n =
      without-cases (λ l. list_any g l ≡ list_any g (sent ∷ messages)) sent messages key
      (λ e. ap (λ t. t || list_any g messages) (sym (not-other sent (subst (λ (k : BatchKey). key_eq k one ≡ false) (sym e) n))))
      (λ _. ap (λ t. g sent || t) (any-without-other key messages n))

-- a test of some message, with one message more
pub any-put : (g : Message → Bool) (new : Message) (messages : List Message) → message_at new.batch.key messages ≡ None → list_any g (put_off new messages) ≡ (g new || list_any g messages)
any-put g new [] none = refl
any-put g new (sent ∷ messages) none =
    put-cases (λ l. list_any g l ≡ (g new || list_any g (sent ∷ messages))) new sent messages
    (λ _. refl)
    (λ e. absurd (there e none))
    (λ _. ap (λ t. g sent || t) (any-put g new messages (further (key_eq sent.batch.key new.batch.key) none)) ∙ swap (g sent) (g new) (list_any g messages))
  where
    there : new.batch.key ≡ sent.batch.key → message_at new.batch.key (sent ∷ messages) ≡ None → ⊥
    there e none =
        let h : message_at new.batch.key (sent ∷ messages) ≡ Some sent =
        ap (λ t. cond t (Some sent) (message_at new.batch.key messages)) (subst (λ (k : BatchKey). key_eq sent.batch.key k ≡ true) (sym e) (key_eq-self sent.batch.key)) in cc

    further : (t : Bool) → cond t (Some sent) (message_at new.batch.key messages) ≡ None → message_at new.batch.key messages ≡ None
    further true h = absurd (cc)
    further false h = h

    swap : (a b c : Bool) → (a || (b || c)) ≡ (b || (a || c))
    swap true true c = refl
    swap true false c = refl
    swap false true c = refl
    swap false false c = refl

-- only a message of this key is awaited under it
pub link-only : (before one : BatchKey) (m : Message) → is_link_for before one (earlier m.batch) m.batch.key ≡ true → m.batch.key ≡ one
link-only before one m = by (earlier m.batch)
  where
    by : (o : Option BatchKey) → is_link_for before one o m.batch.key ≡ true → m.batch.key ≡ one
    by None h = absurd (true≢false (sym h))
    by (Some key) h = same-keys m.batch.key one (and_parts (key_eq key before) (key_eq m.batch.key one) h).1

pub woken-only : (batches : List Batch) (one : BatchKey) (m : Message) → (key_eq m.batch.key one && waits_for batches m) ≡ true → m.batch.key ≡ one
woken-only batches one m h = same-keys m.batch.key one (and_parts (key_eq m.batch.key one) (waits_for batches m) h).0

-- which are awaited without a message
pub without-awaited : (key : BatchKey) (messages : List Message) (m : Message) → KeysRise messages → message_at key messages ≡ Some m → (before one : BatchKey)
    → is_awaited before one (without_message key messages) ≡ (not (is_link_for before one (earlier m.batch) key) && is_awaited before one messages)
without-awaited key messages m rise found before one = by (key_eq key one) refl
  where
    off : (o : Option BatchKey) → key_eq key one ≡ false → is_link_for before one o key ≡ false
    off None n = refl
    off (Some k) n = ap (λ t. key_eq k before && t) n ∙ and-false (key_eq k before)
      where
        and-false : (t : Bool) → (t && false) ≡ false
        and-false true = refl
        and-false false = refl

    never : (t : Bool) → (not t && t) ≡ false
    never true = refl
    never false = refl

    same : key ≡ one → is_awaited before one (without_message key messages) ≡ (not (is_link_for before one (earlier m.batch) key) && is_awaited before one messages)
    same e =
        ap (λ k. is_awaited before one (without_message k messages)) e
        ∙ any-without-same (λ x. is_link_for before one (earlier x.batch) x.batch.key) one (link-only before one) messages rise
        ∙ sym (ap (λ t. not (is_link_for before one (earlier m.batch) key) && t)
        (any-at (λ x. is_link_for before one (earlier x.batch) x.batch.key) one (link-only before one) messages m rise (subst (λ (k : BatchKey). message_at k messages ≡ Some m) e found)
        ∙ ap (is_link_for before one (earlier m.batch)) (message-key messages key m found))
        ∙ never (is_link_for before one (earlier m.batch) key))

    by : (t : Bool) → key_eq key one ≡ t → is_awaited before one (without_message key messages) ≡ (not (is_link_for before one (earlier m.batch) key) && is_awaited before one messages)
    by true e = same (same-keys key one e)
    by false e =
        any-without-other (λ x. is_link_for before one (earlier x.batch) x.batch.key) one (link-only before one) key messages e
        ∙ sym (ap (λ t. not t && is_awaited before one messages) (off (earlier m.batch) e))

-- without a message there are fewer
pub without-less : (key : BatchKey) (messages : List Message) (m : Message) → message_at key messages ≡ Some m → length (without_message key messages) < length messages
without-less key [] m = λ h. absurd (cc)
without-less key (sent ∷ messages) m =
    by (key_eq sent.batch.key key) (without-less key messages m)
  where
    by : (t : Bool) → (message_at key messages ≡ Some m → length (without_message key messages) < length messages) → cond t (Some sent) (message_at key messages) ≡ Some m
        → length (if t then messages else sent ∷ without_message key messages) < length (sent ∷ messages)
    by true rest h = omega arith
    by false rest h = let l : length (without_message key messages) < length messages = rest h in omega arith
