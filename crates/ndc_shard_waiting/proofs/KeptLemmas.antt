-- Earlier keys of what is freed are there, those of what is kept are not.
use Rattle.std.proofs.Common.{◌≡◌, Bool, true, false, List, [], ◌∷◌, ◌++◌, inl, inr, Option, Some, None, IfSome, refl, sym, ◌∙◌, subst, ap, true≢false, arith}
use Rattle.std.specs.Prelude.{is_some, ◌||◌, option_to_list}
use Rattle.std.specs.List.{AllByRecursion}
use Rattle.std.proofs.lemmas.List.{append_assoc}
use Rattle.ndc_model_cells.specs.declared.message.Message.{Message}
use Rattle.ndc_model_cells.specs.Cells.{both}
use Rattle.ndc_model_cells.specs.Writing.{key_behind}
use Rattle.ndc_event.specs.Key.{key_lt, key_eq}
use Rattle.ndc_event.specs.declared.batch.Batch.{Batch}
use Rattle.ndc_event.specs.declared.key.BatchKey.{BatchKey}
use Rattle.ndc_model_sets.specs.Learned.{has_key}
use Rattle.ndc_model_sets.specs.Sets.{Rise, earlier, batch_at, PointsBack}
use Rattle.ndc_model_sets.proofs.KeyLemmas.{IsBefore, before-parts, before-total, same-keys, key_eq-self, before-from}
use Rattle.ndc_model_sets.proofs.SetLemmas.{at-append, at-first, none-there}
use Rattle.ndc_model_cells.specs.Messages.{batches_of, IsCarriedBy, IsMessage}
use Rattle.ndc_shard_waiting.specs.Waiting.{CanWait, freed_by, kept_by}
use Rattle.ndc_model_sets.proofs.Lists.{all-join}
use Rattle.ndc_shard_waiting.proofs.OrderLemmas.{all-front, all-back, all-more, all-two, Precede, rise-back, rise-precede, not-at, has-append}
use Rattle.ndc_shard_waiting.proofs.FreedLemmas.{freed-cases, batches-freed, precede-part}

-- what holds of both batches of a message
pub both-all : (P : Batch → Type 0) (sent : Message) → IsMessage sent → P sent.batch → ((second : Batch) → IsCarriedBy sent.batch second → P second) → AllByRecursion P (both sent)
both-all P sent message own carried = (own, by sent.second message.second)
  where
    by : (o : Option Batch) → IfSome o (IsCarriedBy sent.batch) → AllByRecursion P (option_to_list o)
    by None h = tt
    by (Some second) h = (carried second h, tt)

-- a carried batch waits for its carrier
pub carried-earlier : (b second : Batch) → IsCarriedBy b second → earlier second ≡ Some b.key
carried-earlier b second by = rw (by.parent, by.carrier) refl

-- the next key comes after
pub behind-after : (key : BatchKey) → key_lt key (key_behind key) ≡ true
behind-after key = before-from key (key_behind key) (inr (refl, omega arith))

-- a key that comes after and is not the next one comes after the next one
pub behind-next : (low key : BatchKey) → key_lt low key ≡ true → key_eq (key_behind low) key ≡ false → key_lt (key_behind low) key ≡ true
behind-next low key l n = by (before-parts low key l)
  where
    by : IsBefore low key → key_lt (key_behind low) key ≡ true
    by (inl v) = before-from (key_behind low) key (inl v)
    by (inr (v, t)) = further (key_lt key (key_behind low)) refl
      where
        further : (b : Bool) → key_lt key (key_behind low) ≡ b → key_lt (key_behind low) key ≡ true
        further false e = before-total key (key_behind low) e (by-eq (key_eq key (key_behind low)) refl)
          where
            by-eq : (b : Bool) → key_eq key (key_behind low) ≡ b → b ≡ false
            by-eq false f = refl
            by-eq true f =
                let same : key_eq (key_behind low) key ≡ true = subst (λ (k : BatchKey). key_eq (key_behind low) k ≡ true) (sym (same-keys key (key_behind low) f)) (key_eq-self (key_behind low)) in
                absurd (true≢false (sym same ∙ n))
        further true e = absurd (between (before-parts key (key_behind low) e))
          where
            between : IsBefore key (key_behind low) → ⊥
            between (inl w) = absurd (omega arith)
            between (inr (w, u)) = absurd (omega arith)

pub carried-after : (b second : Batch) → IsCarriedBy b second → key_lt b.key second.key ≡ true
carried-after b second by = subst (λ (k : BatchKey). key_lt b.key k ≡ true) (sym by.key) (behind-after b.key)

-- both batches of a message point back
pub both-back : (sent : Message) → IsMessage sent → AllByRecursion PointsBack (both sent)
both-back sent message =
    both-all PointsBack sent message message.back
    (λ second by key e. let same : Some sent.batch.key ≡ Some key = sym (carried-earlier sent.batch second by) ∙ e in
    let is : sent.batch.key ≡ key = cc in subst (λ (k : BatchKey). key_lt k second.key ≡ true) is (carried-after sent.batch second by))

-- a key that is there stays there in more
pub has-front : (o : Option BatchKey) (front back : List Batch) → has_key o front ≡ true → has_key o (front ++ back) ≡ true
has-front None front back h = refl
has-front (Some key) front back h = rw (has-append key front back, h) refl

pub has-back : (o : Option BatchKey) (front back : List Batch) → has_key o back ≡ true → has_key o (front ++ back) ≡ true
has-back None front back h = refl
has-back (Some key) front back h = has-append key front back ∙ by (has_key (Some key) front) h
  where
    by : (t : Bool) → has_key (Some key) back ≡ true → (t || has_key (Some key) back) ≡ true
    by true e = refl
    by false e = e

pub has-neither : (o : Option BatchKey) (front back : List Batch) → has_key o front ≡ false → has_key o back ≡ false → has_key o (front ++ back) ≡ false
has-neither None front back h g = absurd (true≢false h)
has-neither (Some key) front back h g = rw (has-append key front back, h, g) refl

pub at-neither : (key : BatchKey) (front back : List Batch) → batch_at key front ≡ None → batch_at key back ≡ None → batch_at key (front ++ back) ≡ None
at-neither key front back h g = rw (at-append front back key, h, g) refl

own-there : (sent : Message) → has_key (Some sent.batch.key) (both sent) ≡ true
own-there sent = ap is_some (at-first sent.batch (option_to_list sent.second))

-- each freed batch has its earlier key among the first batches and the freed ones
pub freed-closed : (so_far : List Batch) (waiting : List Message) → AllByRecursion CanWait waiting
    → AllByRecursion (λ b. has_key (earlier b) (so_far ++ batches_of (freed_by so_far waiting)) ≡ true) (batches_of (freed_by so_far waiting))
freed-closed so_far [] each = tt
freed-closed so_far (sent ∷ waiting) each =
    freed-cases (λ f _. AllByRecursion (λ b. has_key (earlier b) (so_far ++ batches_of f) ≡ true) (batches_of f)) so_far sent waiting
    (λ frees. let rest = batches_of (freed_by (so_far ++ both sent) waiting) in
    all-join (λ b. has_key (earlier b) (so_far ++ (both sent ++ rest)) ≡ true) (both sent) rest
    (both-all (λ b. has_key (earlier b) (so_far ++ (both sent ++ rest)) ≡ true) sent each.0.message
    (has-front (earlier sent.batch) so_far (both sent ++ rest) frees)
    (λ second by. rw (carried-earlier sent.batch second by)
    (has-back (Some sent.batch.key) so_far (both sent ++ rest) (has-front (Some sent.batch.key) (both sent) rest (own-there sent)))))
    (all-more (λ b. has_key (earlier b) ((so_far ++ both sent) ++ rest) ≡ true) (λ b. has_key (earlier b) (so_far ++ (both sent ++ rest)) ≡ true)
    (λ b h. subst (λ (l : List Batch). has_key (earlier b) l ≡ true) (append_assoc so_far (both sent) rest) h)
    rest (freed-closed (so_far ++ both sent) waiting each.1)))
    (λ _. freed-closed so_far waiting each.1)

pub all-each : {X : Type 0} (P : X → Type 0) → ((x : X) → P x) → (xs : List X) → AllByRecursion P xs
all-each P f [] = tt
all-each P f (x ∷ xs) = (f x, all-each P f xs)

-- what comes after is not before
pub precede-none : (front rest : List Batch) → Precede front rest → AllByRecursion (λ x. batch_at x.key front ≡ None) rest
precede-none [] rest before = all-each (λ x. batch_at x.key [] ≡ None) (λ x. refl) rest
precede-none (b ∷ front) rest before =
    all-two (λ (x : Batch). key_lt b.key x.key ≡ true) (λ x. batch_at x.key front ≡ None) (λ x. batch_at x.key (b ∷ front) ≡ None)
    (λ x l n. rw (not-at x.key b l) n) rest before.0 (precede-none front rest before.1)

-- the batches are apart from those that wait: no key is there
abbrev pub IsApart : List Batch → List Batch → Type 0
IsApart so_far batches = AllByRecursion (λ b. batch_at b.key so_far ≡ None) batches

pub apart-join : (so_far front rest : List Batch) → IsApart so_far (front ++ rest) → Precede front rest → IsApart (so_far ++ front) rest
apart-join so_far front rest apart before =
    all-two (λ (b : Batch). batch_at b.key so_far ≡ None) (λ b. batch_at b.key front ≡ None) (λ b. batch_at b.key (so_far ++ front) ≡ None)
    (λ b h g. at-neither b.key so_far front h g) rest (all-back (λ b. batch_at b.key so_far ≡ None) front rest apart) (precede-none front rest before)

-- each batch before has a key that does not come after
pub front-none : (front rest : List Batch) → Precede front rest → AllByRecursion (λ b. batch_at b.key rest ≡ None) front
front-none [] rest before = tt
front-none (b ∷ front) rest before = (none-there rest b.key before.0, front-none front rest before.1)

-- no kept batch is among the first batches and the freed ones
pub kept-apart : (so_far : List Batch) (waiting : List Message) → Rise (batches_of waiting) → IsApart so_far (batches_of waiting)
    → IsApart (so_far ++ batches_of (freed_by so_far waiting)) (batches_of (kept_by so_far waiting))
kept-apart so_far [] rise apart = tt
kept-apart so_far (sent ∷ waiting) rise apart =
    let rest = rise-back (both sent) (batches_of waiting) rise in
    let before = rise-precede (both sent) (batches_of waiting) rise in
    freed-cases (λ f k. IsApart (so_far ++ batches_of f) (batches_of k)) so_far sent waiting
    (λ _. let f = batches_of (freed_by (so_far ++ both sent) waiting) in
    subst (λ (l : List Batch). IsApart l (batches_of (kept_by (so_far ++ both sent) waiting))) (append_assoc so_far (both sent) f)
    (kept-apart (so_far ++ both sent) waiting rest (apart-join so_far (both sent) (batches_of waiting) apart before)))
    (λ _. let f = batches_of (freed_by so_far waiting) in
    all-join (λ b. batch_at b.key (so_far ++ f) ≡ None) (both sent) (batches_of (kept_by so_far waiting))
    (all-two (λ b. batch_at b.key so_far ≡ None) (λ b. batch_at b.key f ≡ None) (λ b. batch_at b.key (so_far ++ f) ≡ None)
    (λ b h g. at-neither b.key so_far f h g) (both sent) (all-front (λ b. batch_at b.key so_far ≡ None) (both sent) (batches_of waiting) apart)
    (front-none (both sent) f (precede-part (both sent) (batches_of waiting) f (λ P all. (batches-freed P so_far waiting all).0) before)))
    (kept-apart so_far waiting rest (all-back (λ b. batch_at b.key so_far ≡ None) (both sent) (batches_of waiting) apart)))
