-- What a batch without a fault is.
use Rattle.std.proofs.Common.{◌≡◌, Bool, true, false, not, List, [], ◌∷◌, Option, Some, None, refl, subst}
use Rattle.std.specs.Prelude.{if◌then◌else◌}
use Rattle.ndc_event.specs.declared.batch.Batch.{Batch}
use Rattle.ndc_event.specs.declared.batch.BatchFault.{BatchFault}
use Rattle.ndc_event.specs.declared.batch.Event.{Event}
use Rattle.ndc_event.specs.Batch.{follow_from, are_consecutive, are_of_version, is_first_fit, is_parent_fit, is_carrier_fit, fault_at, fault_of}

-- the tests that a batch without a fault passes
pub record Passes (b : Batch) : Type 0 where
  pub event : Event
  pub events : List Event
  pub are : b.events ≡ event ∷ events
  pub consecutive : follow_from event.id events ≡ true
  pub versions : are_of_version b.key.version b.events ≡ true
  pub first : is_first_fit b event.id b.parent ≡ true
  pub parent : is_parent_fit b.key b.parent ≡ true
  pub carrier : is_carrier_fit b.key b.parent b.carrier ≡ true

-- where a chain of tests finds no fault, the first test passes, and the rest finds none
passed : (t : Bool) (fault : BatchFault) (rest : Option BatchFault) → (if not t then Some fault else rest) ≡ None → (t ≡ true) × (rest ≡ None)
passed true fault rest e = (refl, e)
passed false fault rest e = absurd (cc)

pub passes : (b : Batch) → fault_of b ≡ None → Passes b
passes b e = by b.events refl e
  where
    by : (events : List Event) → b.events ≡ events → fault_at b events ≡ None → Passes b
    by [] at f = absurd (cc)
    by (event ∷ events) at f =
        let one = passed (are_consecutive b.events) _ _ f in
        let two = passed (are_of_version b.key.version b.events) _ _ one.1 in
        let three = passed (is_first_fit b event.id b.parent) _ _ two.1 in
        let four = passed (is_parent_fit b.key b.parent) _ _ three.1 in
        let five = passed (is_carrier_fit b.key b.parent b.carrier) _ _ four.1 in
        record {
          event = event;
          events = events;
          are = at;
          consecutive = subst (λ (l : List Event). are_consecutive l ≡ true) at one.0;
          versions = two.0;
          first = three.0;
          parent = four.0;
          carrier = five.0;
        }
