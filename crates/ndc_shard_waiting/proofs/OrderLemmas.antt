-- Lists of batches in key order: joined, taken apart, and looked up in.
use Rattle.std.proofs.Common.{◌≡◌, Bool, true, false, List, [], ◌∷◌, ◌++◌, Option, Some, None, cond, refl, sym, ◌∙◌, subst, ap}
use Rattle.std.specs.Prelude.{is_some, ◌||◌, if◌then◌else◌}
use Rattle.std.specs.Option.{option_or}
use Rattle.std.specs.List.{AllByRecursion}
use Rattle.ndc_event.specs.Key.{key_lt, key_eq}
use Rattle.ndc_event.specs.declared.batch.Batch.{Batch}
use Rattle.ndc_event.specs.declared.key.BatchKey.{BatchKey}
use Rattle.ndc_model_sets.specs.Learned.{has_key}
use Rattle.ndc_model_sets.specs.Sets.{ComeAfter, Rise, batch_at, arrived}
use Rattle.ndc_model_sets.proofs.KeyLemmas.{before-irrefl, same-keys}
use Rattle.ndc_model_sets.proofs.SetLemmas.{at-append, none-there, after-trans}
use Rattle.ndc_model_sets.proofs.ArrivalLemmas.{same_batches}
use Rattle.ndc_model_sets.proofs.Lists.{all-join}

pub all-front : {X : Type 0} (P : X → Type 0) (xs ys : List X) → AllByRecursion P (xs ++ ys) → AllByRecursion P xs
all-front P [] ys all = tt
all-front P (x ∷ xs) ys all = (all.0, all-front P xs ys all.1)

pub all-back : {X : Type 0} (P : X → Type 0) (xs ys : List X) → AllByRecursion P (xs ++ ys) → AllByRecursion P ys
all-back P [] ys all = all
all-back P (x ∷ xs) ys all = all-back P xs ys all.1

pub all-more : {X : Type 0} (P Q : X → Type 0) → ((x : X) → P x → Q x) → (xs : List X) → AllByRecursion P xs → AllByRecursion Q xs
all-more P Q f [] all = tt
all-more P Q f (x ∷ xs) all = (f x all.0, all-more P Q f xs all.1)

pub all-two : {X : Type 0} (P Q R : X → Type 0) → ((x : X) → P x → Q x → R x) → (xs : List X) → AllByRecursion P xs → AllByRecursion Q xs → AllByRecursion R xs
all-two P Q R f [] all other = tt
all-two P Q R f (x ∷ xs) all other = (f x all.0 other.0, all-two P Q R f xs all.1 other.1)

-- each of the first batches comes before all of the others
abbrev pub Precede : List Batch → List Batch → Type 0
Precede front rest = AllByRecursion (λ b. ComeAfter b.key rest) front

pub rise-join : (front rest : List Batch) → Rise front → Precede front rest → Rise rest → Rise (front ++ rest)
rise-join [] rest rise before other = other
rise-join (b ∷ front) rest rise before other =
    (all-join (λ x. key_lt b.key x.key ≡ true) front rest rise.0 before.0, rise-join front rest rise.1 before.1 other)

pub rise-front : (front rest : List Batch) → Rise (front ++ rest) → Rise front
rise-front [] rest rise = tt
rise-front (b ∷ front) rest rise = (all-front (λ x. key_lt b.key x.key ≡ true) front rest rise.0, rise-front front rest rise.1)

pub rise-back : (front rest : List Batch) → Rise (front ++ rest) → Rise rest
rise-back [] rest rise = rise
rise-back (b ∷ front) rest rise = rise-back front rest rise.1

pub rise-precede : (front rest : List Batch) → Rise (front ++ rest) → Precede front rest
rise-precede [] rest rise = tt
rise-precede (b ∷ front) rest rise = (all-back (λ x. key_lt b.key x.key ≡ true) front rest rise.0, rise-precede front rest rise.1)

-- a key that is not that of a batch, by how it compares
pub not-at : (key : BatchKey) (b : Batch) → key_lt b.key key ≡ true → key_eq b.key key ≡ false
not-at key b l = by (key_eq b.key key) refl
  where
    by : (t : Bool) → key_eq b.key key ≡ t → t ≡ false
    by true e = absurd (before-irrefl key (subst (λ (k : BatchKey). key_lt k key ≡ true) (same-keys b.key key e) l))
    by false e = refl

-- batches with the same look-ups are the same
pub same-found : (one two : List Batch) → Rise one → Rise two → ((key : BatchKey) → batch_at key one ≡ batch_at key two) → one ≡ two
same-found one two rise other same = same_batches one two rise other (λ b has. sym (same b.key) ∙ has) (λ b has. same b.key ∙ has)

-- what is found where a batch has arrived
pub arrived-at : (new : Batch) (batches : List Batch) (key : BatchKey) → Rise batches → batch_at key (arrived new batches) ≡ option_or (batch_at key batches) (batch_at key (new ∷ []))
arrived-at new [] key rise = refl
arrived-at new (b ∷ batches) key rise = by (key_lt new.key b.key) refl (key_eq new.key b.key) refl (arrived-at new batches key rise.1)
  where
    front : key_lt new.key b.key ≡ true → (t : Bool) → key_eq new.key key ≡ t
        → cond t (Some new) (batch_at key (b ∷ batches)) ≡ option_or (batch_at key (b ∷ batches)) (cond t (Some new) None)
    front l true e =
        let none : batch_at key (b ∷ batches) ≡ None = none-there (b ∷ batches) key
        (subst (λ (k : BatchKey). ComeAfter k (b ∷ batches)) (same-keys new.key key e) (l, after-trans new.key b.key batches l rise.0)) in rw none refl
    front l false e = none-or (batch_at key (b ∷ batches))
      where
        none-or : (o : Option Batch) → o ≡ option_or o None
        none-or (Some x) = refl
        none-or None = refl

    same : new.key ≡ b.key → (t : Bool) → key_eq b.key key ≡ t → cond t (Some b) (batch_at key batches) ≡ option_or (cond t (Some b) (batch_at key batches)) (batch_at key (new ∷ []))
    same e true f = refl
    same e false f = rw (subst (λ (k : BatchKey). key_eq k key ≡ false) (sym e) f) (none-or (batch_at key batches))
      where
        none-or : (o : Option Batch) → o ≡ option_or o None
        none-or (Some x) = refl
        none-or None = refl

    behind : (t : Bool) → batch_at key (arrived new batches) ≡ option_or (batch_at key batches) (batch_at key (new ∷ []))
        → cond t (Some b) (batch_at key (arrived new batches)) ≡ option_or (cond t (Some b) (batch_at key batches)) (batch_at key (new ∷ []))
    behind true rest = refl
    behind false rest = rest

    by : (l : Bool) → key_lt new.key b.key ≡ l → (e : Bool) → key_eq new.key b.key ≡ e
        → batch_at key (arrived new batches) ≡ option_or (batch_at key batches) (batch_at key (new ∷ []))
        → batch_at key (if l then new ∷ b ∷ batches else if e then b ∷ batches else b ∷ arrived new batches) ≡ option_or (batch_at key (b ∷ batches)) (batch_at key (new ∷ []))
    by true f e g rest = front f (key_eq new.key key) refl
    by false f true g rest = same (same-keys new.key b.key g) (key_eq b.key key) refl
    by false f false g rest = behind (key_eq b.key key) rest

-- whether a key is there, of two lists
pub has-append : (key : BatchKey) (front back : List Batch) → has_key (Some key) (front ++ back) ≡ (has_key (Some key) front || has_key (Some key) back)
has-append key front back = ap is_some (at-append front back key) ∙ by (batch_at key front)
  where
    by : (o : Option Batch) → is_some (option_or o (batch_at key back)) ≡ (is_some o || is_some (batch_at key back))
    by (Some x) = refl
    by None = refl
