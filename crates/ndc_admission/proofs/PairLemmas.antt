-- A message's own batch, and its second where there is one.
use Rattle.std.proofs.Common.{◌≡◌, Bool, true, false, ◌&&◌, not, ◌∷◌, Option, Some, None, IfSome, is_some, is_none, refl, sym, ◌∙◌, ap}
use Rattle.std.specs.List.{AllByRecursion}
use Rattle.std.specs.Prelude.{option_to_list}
use Rattle.std.proofs.lemmas.Bool.{and_parts, and_from}
use Rattle.ndc_event.specs.Batch.{fault_of}
use Rattle.ndc_event.specs.Key.{key_eq}
use Rattle.ndc_event.specs.declared.batch.Batch.{Batch}
use Rattle.ndc_event.specs.declared.key.BatchKey.{BatchKey}
use Rattle.ndc_model_cells.specs.declared.message.Message.{Message}
use Rattle.ndc_model_cells.specs.Cells.{both}
use Rattle.ndc_model_cells.specs.Messages.{IsCarriedBy}
use Rattle.ndc_model_cells.specs.Writing.{key_behind}
use Rattle.ndc_model_sets.specs.Keys.{is_key}
use Rattle.ndc_model_sets.proofs.KeyLemmas.{key_eq-self, same-keys}
use Rattle.ndc_admission.specs.Faults.{second_fault, second_is, is_carried_by}

-- what holds of the batch, and of the second where there is one, holds of both
pub both-all : (P : Batch → Type 0) (sent : Message) → P sent.batch → IfSome sent.second P → AllByRecursion P (both sent)
both-all P sent own other = by sent.second other
  where
    by : (second : Option Batch) → IfSome second P → AllByRecursion P (sent.batch ∷ option_to_list second)
    by None h = (own, tt)
    by (Some b) h = (own, (h, tt))

-- what holds of both holds of the second, where there is one
pub all-second : (P : Batch → Type 0) (sent : Message) → AllByRecursion P (both sent) → IfSome sent.second P
all-second P sent all = by sent.second all.1
  where
    by : (second : Option Batch) → AllByRecursion P (option_to_list second) → IfSome second P
    by None h = tt
    by (Some b) h = h.0

-- what follows for each batch follows for the second
pub if-weaker : (P Q : Batch → Type 0) (second : Option Batch) → ((b : Batch) → P b → Q b) → IfSome second P → IfSome second Q
if-weaker P Q None f h = tt
if-weaker P Q (Some b) f h = f b h

-- both of two facts
pub if-both : (P Q : Batch → Type 0) (second : Option Batch) → IfSome second P → IfSome second Q → IfSome second (λ b. P b × Q b)
if-both P Q None h k = tt
if-both P Q (Some b) h k = (h, k)

pub not-false : (t : Bool) → not t ≡ false → t ≡ true
not-false true e = refl
not-false false e = absurd (cc)

pub not-true : (t : Bool) → t ≡ true → not t ≡ false
not-true t e = ap not e

-- the second passes a test that it does not fail
pub if-test : (test : Batch → Bool) (second : Option Batch) → second_is (λ b. not (test b)) second ≡ false → IfSome second (λ b. test b ≡ true)
if-test test None e = tt
if-test test (Some b) e = not-false (test b) e

pub test-if : (test : Batch → Bool) (second : Option Batch) → IfSome second (λ b. test b ≡ true) → second_is (λ b. not (test b)) second ≡ false
test-if test None h = refl
test-if test (Some b) h = not-true (test b) h

pub if-fault : (second : Option Batch) → second_fault second ≡ None → IfSome second (λ b. fault_of b ≡ None)
if-fault None e = tt
if-fault (Some b) e = e

pub fault-if : (second : Option Batch) → IfSome second (λ b. fault_of b ≡ None) → second_fault second ≡ None
fault-if None h = refl
fault-if (Some b) h = h

-- there is a second exactly where the test holds
pub paired : (t : Bool) (second : Option Batch) → (t && is_none second) ≡ false → (not t && is_some second) ≡ false → is_some second ≡ t
paired true None one two = absurd (cc)
paired true (Some b) one two = refl
paired false None one two = refl
paired false (Some b) one two = absurd (cc)

pub pair-one : (t : Bool) (second : Option Batch) → is_some second ≡ t → (t && is_none second) ≡ false
pair-one true None e = absurd (cc)
pair-one true (Some b) e = refl
pair-one false None e = refl
pair-one false (Some b) e = refl

pub pair-two : (t : Bool) (second : Option Batch) → is_some second ≡ t → (not t && is_some second) ≡ false
pair-two true None e = refl
pair-two true (Some b) e = refl
pair-two false None e = refl
pair-two false (Some b) e = absurd (cc)

none-is : {X : Type 0} → (o : Option X) → is_none o ≡ true → o ≡ None
none-is None e = refl
none-is (Some x) e = absurd (cc)

is-key : (key : BatchKey) (o : Option BatchKey) → is_key key o ≡ true → o ≡ Some key
is-key key None e = absurd (cc)
is-key key (Some other) e = ap Some (sym (same-keys key other e))

-- the test for the batch that is carried is that fact
pub carried-is : (b second : Batch) → is_carried_by b second ≡ true → IsCarriedBy b second
carried-is b second e =
    let all = and_parts (key_eq second.key (key_behind b.key) && is_none second.parent) (is_key b.key second.carrier) e in
    let front = and_parts (key_eq second.key (key_behind b.key)) (is_none second.parent) all.0 in
    record {
      key = same-keys second.key (key_behind b.key) front.0;
      parent = none-is second.parent front.1;
      carrier = is-key b.key second.carrier all.1;
    }

pub is-carried : (b second : Batch) → IsCarriedBy b second → is_carried_by b second ≡ true
is-carried b second h =
    and_from (key_eq second.key (key_behind b.key) && is_none second.parent) (is_key b.key second.carrier)
    (and_from (key_eq second.key (key_behind b.key)) (is_none second.parent) (ap (λ (k : BatchKey). key_eq k (key_behind b.key)) h.key ∙ key_eq-self (key_behind b.key)) (ap (λ (o : Option BatchKey). is_none o) h.parent))
    (ap (is_key b.key) h.carrier ∙ key_eq-self b.key)
