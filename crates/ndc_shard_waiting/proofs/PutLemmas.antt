-- A message goes to its place among those that wait.
use Rattle.std.proofs.Common.{◌≡◌, Bool, true, false, List, [], ◌∷◌, ◌++◌, Option, Some, None, IfSome, cond, refl, sym, ◌∙◌, subst, ap}
use Rattle.std.specs.Prelude.{option_to_list, if◌then◌else◌}
use Rattle.std.specs.Option.{option_or}
use Rattle.std.specs.List.{AllByRecursion}
use Rattle.ndc_model_cells.specs.declared.message.Message.{Message}
use Rattle.ndc_model_cells.specs.Cells.{both}
use Rattle.ndc_model_cells.proofs.PlaceLemmas.{key-flip}
use Rattle.ndc_event.specs.Key.{key_lt, key_eq}
use Rattle.ndc_event.specs.declared.batch.Batch.{Batch}
use Rattle.ndc_event.specs.declared.key.BatchKey.{BatchKey}
use Rattle.ndc_model_sets.specs.Sets.{ComeAfter, Rise, batch_at, PointsBack}
use Rattle.ndc_model_sets.proofs.KeyLemmas.{before-trans, before-total, same-keys}
use Rattle.ndc_model_sets.proofs.SetLemmas.{found-all, at-append, at-first, after-trans, found-key}
use Rattle.ndc_model_cells.specs.Messages.{batches_of, IsCarriedBy, IsMessage}
use Rattle.ndc_shard_waiting.specs.Waiting.{put_off, CanWait, AreWaiting}
use Rattle.ndc_model_sets.proofs.Lists.{all-join}
use Rattle.ndc_shard_waiting.proofs.OrderLemmas.{all-front, all-back, all-more, Precede, rise-join, rise-front, rise-back, rise-precede}
use Rattle.ndc_shard_waiting.proofs.FreedLemmas.{or-assoc}
use Rattle.ndc_shard_waiting.proofs.KeptLemmas.{both-all, both-back, carried-after, IsApart, precede-none}
use Rattle.ndc_shard_waiting.proofs.OffLemmas.{after-next}

-- what is not found in two lists is found in neither
pub none-parts : (key : BatchKey) (front back : List Batch) → batch_at key (front ++ back) ≡ None → (batch_at key front ≡ None) × (batch_at key back ≡ None)
none-parts key front back h = by (batch_at key front) refl (sym (at-append front back key) ∙ h)
  where
    by : (o : Option Batch) → batch_at key front ≡ o → option_or o (batch_at key back) ≡ None → (batch_at key front ≡ None) × (batch_at key back ≡ None)
    by None e g = (e, g)
    by (Some x) e g = absurd (cc)

-- lists that are apart are so the other way round
pub apart-flip : (one two : List Batch) → IsApart one two → IsApart two one
apart-flip [] two apart = tt
apart-flip (x ∷ one) two apart = (
  first x two (all-more (λ (b : Batch). batch_at b.key (x ∷ one) ≡ None) (λ b. key_eq x.key b.key ≡ false) (λ b h. (parts b (key_eq x.key b.key) refl h).0) two apart),
  apart-flip one two (all-more (λ (b : Batch). batch_at b.key (x ∷ one) ≡ None) (λ b. batch_at b.key one ≡ None) (λ b h. (parts b (key_eq x.key b.key) refl h).1) two apart),
)
  where
    parts : (b : Batch) → (t : Bool) → key_eq x.key b.key ≡ t → cond t (Some x) (batch_at b.key one) ≡ None → (key_eq x.key b.key ≡ false) × (batch_at b.key one ≡ None)
    parts b true e h = absurd (cc)
    parts b false e h = (e, h)

    first : (x : Batch) (two : List Batch) → AllByRecursion (λ b. key_eq x.key b.key ≡ false) two → batch_at x.key two ≡ None
    first x [] all = refl
    first x (b ∷ two) all = rw (key-flip x.key b.key all.0) (first x two all.1)

-- of lists that are apart either may be looked in first
pub or-swap : (one two : List Batch) (key : BatchKey) → IsApart one two → option_or (batch_at key one) (batch_at key two) ≡ option_or (batch_at key two) (batch_at key one)
or-swap one two key apart = by (batch_at key two) refl (batch_at key one) refl
  where
    at-two : (x : Batch) → batch_at key two ≡ Some x → batch_at key one ≡ None
    at-two x e = subst (λ (k : BatchKey). batch_at k one ≡ None) (found-key two key x e) (all-found x e)
      where
        all-found : (x : Batch) → batch_at key two ≡ Some x → batch_at x.key one ≡ None
        all-found x e = found-all (λ b. batch_at b.key one ≡ None) two key x apart e

    by : (o : Option Batch) → batch_at key two ≡ o → (p : Option Batch) → batch_at key one ≡ p → option_or p o ≡ option_or o p
    by None e None f = refl
    by None e (Some y) f = refl
    by (Some x) e None f = refl
    by (Some x) e (Some y) f = let none : batch_at key one ≡ None = at-two x e in absurd (cc)

-- putting a message to its place, by how its key compares with the first
pub put-cases : (P : List Message → Type 0) (new sent : Message) (waiting : List Message) → (key_lt new.batch.key sent.batch.key ≡ true → P (new ∷ sent ∷ waiting))
    → (new.batch.key ≡ sent.batch.key → P (sent ∷ waiting)) → (key_lt sent.batch.key new.batch.key ≡ true → P (sent ∷ put_off new waiting)) → P (put_off new (sent ∷ waiting))
put-cases P new sent waiting less equal greater = by (key_lt new.batch.key sent.batch.key) refl (key_eq new.batch.key sent.batch.key) refl
  where
    by : (l : Bool) → key_lt new.batch.key sent.batch.key ≡ l → (e : Bool) → key_eq new.batch.key sent.batch.key ≡ e
        → P (if l then new ∷ sent ∷ waiting else if e then sent ∷ waiting else sent ∷ put_off new waiting)
    by true f e g = less f
    by false f true g = equal (same-keys new.batch.key sent.batch.key g)
    by false f false g = greater (before-total new.batch.key sent.batch.key f g)

pub all-put : (P : Message → Type 0) (new : Message) (waiting : List Message) → P new → AllByRecursion P waiting → AllByRecursion P (put_off new waiting)
all-put P new [] p all = (p, tt)
all-put P new (sent ∷ waiting) p all =
    put-cases (AllByRecursion P) new sent waiting (λ _. (p, all)) (λ _. all) (λ _. (all.0, all-put P new waiting p all.1))

pub batches-put : (P : Batch → Type 0) (new : Message) (waiting : List Message) → AllByRecursion P (both new) → AllByRecursion P (batches_of waiting) → AllByRecursion P (batches_of (put_off new waiting))
batches-put P new [] own all = all-join P (both new) [] own tt
batches-put P new (sent ∷ waiting) own all =
    put-cases (λ l. AllByRecursion P (batches_of l)) new sent waiting (λ _. all-join P (both new) (batches_of (sent ∷ waiting)) own all) (λ _. all)
    (λ _. all-join P (both sent) (batches_of (put_off new waiting)) (all-front P (both sent) (batches_of waiting) all)
    (batches-put P new waiting own (all-back P (both sent) (batches_of waiting) all)))

-- a message whose keys are not among those that wait
pub own-apart : (new sent : Message) (rest : List Batch) → IsApart (both sent ++ rest) (both new) → new.batch.key ≡ sent.batch.key → ⊥
own-apart new sent rest apart e =
    let none : batch_at new.batch.key (both sent) ≡ None = (none-parts new.batch.key (both sent) rest apart.0).0 in
    let some : batch_at new.batch.key (both sent) ≡ Some sent.batch = subst (λ (k : BatchKey). batch_at k (both sent) ≡ Some sent.batch) (sym e) (at-first sent.batch (option_to_list sent.second)) in cc

-- both batches of a message come before what comes after the first and is apart
pub both-precede : (sent : Message) (rest : List Batch) → IsMessage sent → ComeAfter sent.batch.key rest → IsApart (both sent) rest → Precede (both sent) rest
both-precede sent rest message after apart = (after, by sent.second message.second apart)
  where
    only : (second : Batch) → IsApart (sent.batch ∷ second ∷ []) rest → IsApart (second ∷ []) rest
    only second apart =
        all-more (λ (b : Batch). batch_at b.key (sent.batch ∷ second ∷ []) ≡ None) (λ b. batch_at b.key (second ∷ []) ≡ None)
        (λ b h. (none-parts b.key (sent.batch ∷ []) (second ∷ []) h).1) rest apart

    by : (o : Option Batch) → IfSome o (IsCarriedBy sent.batch) → IsApart (sent.batch ∷ option_to_list o) rest → Precede (option_to_list o) rest
    by None h apart = tt
    by (Some second) h apart = (after-next sent.batch.key second rest h.key after (only second apart), tt)

-- both batches of a message stand in order
pub both-rise : (sent : Message) → IsMessage sent → Rise (both sent)
both-rise sent message = by sent.second message.second
  where
    by : (o : Option Batch) → IfSome o (IsCarriedBy sent.batch) → Rise (sent.batch ∷ option_to_list o)
    by None h = (tt, tt)
    by (Some second) h = ((carried-after sent.batch second h, tt), (tt, tt))

-- what comes after a key, with the one that it carries
pub both-after : (key : BatchKey) (sent : Message) → IsMessage sent → key_lt key sent.batch.key ≡ true → ComeAfter key (both sent)
both-after key sent message l =
    both-all (λ b. key_lt key b.key ≡ true) sent message l (λ second by. before-trans key sent.batch.key second.key l (carried-after sent.batch second by))

pub put-rise : (new : Message) (waiting : List Message) → IsMessage new → AllByRecursion CanWait waiting → Rise (batches_of waiting) → IsApart (batches_of waiting) (both new)
    → Rise (batches_of (put_off new waiting))
put-rise new [] message each rise apart = rise-join (both new) [] (both-rise new message) (all-nil (both new)) tt
  where
    all-nil : (front : List Batch) → Precede front []
    all-nil [] = tt
    all-nil (b ∷ front) = (tt, all-nil front)
put-rise new (sent ∷ waiting) message each rise apart =
    let rest = rise-back (both sent) (batches_of waiting) rise in
    let before = rise-precede (both sent) (batches_of waiting) rise in
    put-cases (λ l. Rise (batches_of l)) new sent waiting
    (λ l. rise-join (both new) (both sent ++ batches_of waiting) (both-rise new message)
    (both-precede new (both sent ++ batches_of waiting) message
    (l, after-trans new.batch.key sent.batch.key (option_to_list sent.second ++ batches_of waiting) l rise.0)
    (apart-flip (both sent ++ batches_of waiting) (both new) apart)) rise)
    (λ e. absurd (own-apart new sent (batches_of waiting) apart e))
    (λ l. let more = batches_of (put_off new waiting) in
    rise-join (both sent) more (rise-front (both sent) (batches_of waiting) rise)
    (both-precede sent more each.0.message
    (batches-put (λ b. key_lt sent.batch.key b.key ≡ true) new waiting (both-after sent.batch.key new message l) before.0)
    (batches-put (λ b. batch_at b.key (both sent) ≡ None) new waiting
    (all-more (λ (b : Batch). batch_at b.key (both sent ++ batches_of waiting) ≡ None) (λ b. batch_at b.key (both sent) ≡ None)
    (λ b h. (none-parts b.key (both sent) (batches_of waiting) h).0) (both new) apart)
    (precede-none (both sent) (batches_of waiting) before)))
    (put-rise new waiting message each.1 rest
    (all-more (λ (b : Batch). batch_at b.key (both sent ++ batches_of waiting) ≡ None) (λ b. batch_at b.key (batches_of waiting) ≡ None)
    (λ b h. (none-parts b.key (both sent) (batches_of waiting) h).1) (both new) apart)))

-- what is found where a message has gone to its place
pub put-found : (new : Message) (waiting : List Message) (key : BatchKey) → IsApart (batches_of waiting) (both new)
    → batch_at key (batches_of (put_off new waiting)) ≡ option_or (batch_at key (batches_of waiting)) (batch_at key (both new))
put-found new [] key apart = at-append (both new) [] key ∙ all (batch_at key (both new))
  where
    all : (o : Option Batch) → option_or o None ≡ o
    all None = refl
    all (Some x) = refl
put-found new (sent ∷ waiting) key apart =
    put-cases (λ l. batch_at key (batches_of l) ≡ option_or (batch_at key (batches_of (sent ∷ waiting))) (batch_at key (both new))) new sent waiting
    (λ l. at-append (both new) (batches_of (sent ∷ waiting)) key ∙ sym (or-swap (batches_of (sent ∷ waiting)) (both new) key apart))
    (λ e. absurd (own-apart new sent (batches_of waiting) apart e))
    (λ l. at-append (both sent) (batches_of (put_off new waiting)) key
    ∙ ap (option_or (batch_at key (both sent))) (put-found new waiting key
    (all-more (λ (b : Batch). batch_at b.key (both sent ++ batches_of waiting) ≡ None) (λ b. batch_at b.key (batches_of waiting) ≡ None)
    (λ b h. (none-parts b.key (both sent) (batches_of waiting) h).1) (both new) apart))
    ∙ sym (or-assoc (batch_at key (both sent)) (batch_at key (batches_of waiting)) (batch_at key (both new)))
    ∙ ap (λ o. option_or o (batch_at key (both new))) (sym (at-append (both sent) (batches_of waiting) key)))

-- with a message that can wait, whose keys are not there, they are messages that wait
pub put-waiting : (new : Message) (waiting : List Message) → AreWaiting waiting → CanWait new → IsApart (batches_of waiting) (both new) → AreWaiting (put_off new waiting)
put-waiting new waiting are can apart = record {
  set = record {
    ordered = put-rise new waiting can.message are.each are.set.ordered apart;
    back = batches-put PointsBack new waiting (both-back new can.message) are.set.back;
  };
  each = all-put CanWait new waiting can are.each;
}
