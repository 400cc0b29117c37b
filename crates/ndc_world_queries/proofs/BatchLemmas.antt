-- Batches are one exactly where they pass the test.
use Rattle.std.proofs.Common.{◌≡◌, ◌↔◌, Bool, true, ◌&&◌, ◌==◌, IsTrue, List, Option, Some, None, refl, sym, ap, subst, true≢false}
use Rattle.std.specs.Bool.{Decides}
use Rattle.std.specs.Option.{option_eq}
use Rattle.std.specs.Str.{bytes_eq}
use Rattle.std.proofs.lemmas.Bool.{and_from, and_parts}
use Rattle.std.proofs.lemmas.Bool.Decides.{Decides-eqb}
use Rattle.std.proofs.lemmas.Slice.Eq.{bytes_eq-Decides, slice_eq-Decides}
use Rattle.ndc_event.specs.Attributes.{copied_origin, first_name, next_run, second_name}
use Rattle.ndc_event.specs.Key.{key_eq}
use Rattle.ndc_event.specs.Kind.{kind_name}
use Rattle.ndc_event.specs.declared.batch.Batch.{Batch}
use Rattle.ndc_event.specs.declared.batch.Event.{Event}
use Rattle.ndc_event.specs.declared.key.BatchKey.{BatchKey}
use Rattle.ndc_event.specs.declared.key.Origin.{Origin}
use Rattle.ndc_event.specs.declared.key.RunId.{RunId}
use Rattle.ndc_event.specs.declared.kind.EventKind.{EventKind}
use Rattle.ndc_event.proofs.SameKind as kinds
use Rattle.ndc_model_sets.proofs.KeyLemmas.{key_eq-self, same-keys}
use Rattle.ndc_model_sets.specs.Branches.{same_run}
use Rattle.ndc_state.specs.Origins.{same_origin}
use Rattle.ndc_world_queries.specs.Same.{same_batch, same_batches, same_event, same_kind}
use Rattle.ndc_world_queries.proofs.TableLemmas.{decided}

option-decides : {T : Type 0} {E : T → T → Bool} → ((a b : T) → Decides (E a b) (a ≡ b)) → (x y : Option T) → Decides (option_eq E x y) (x ≡ y)
option-decides each None None = (λ e. refl, λ e. refl)
option-decides each None (Some b) = (λ e. absurd (true≢false (sym e)), λ e. absurd (cc))
option-decides each (Some a) None = (λ e. absurd (true≢false (sym e)), λ e. absurd (cc))
option-decides each (Some a) (Some b) = (λ e. ap Some ((each a b).0 e), λ e. (each a b).1 (inner e))
  where
    inner : Some a ≡ Some b → a ≡ b
    inner e = cc

run-decides : (one two : RunId) → Decides (same_run one two) (one ≡ two)
run-decides one two = (λ e. (λ i. record { value = (Decides-eqb one.value two.value).0 e i }), λ e. (Decides-eqb one.value two.value).1 (ap (λ (run : RunId). run.value) e))

key-decides : (one two : BatchKey) → Decides (key_eq one two) (one ≡ two)
key-decides one two = (same-keys one two, λ e. subst (λ (key : BatchKey). key_eq one key ≡ true) e (key_eq-self one))

origin-itself : (one : Origin) → same_origin one one ≡ true
origin-itself one =
    and_from ((one.run.value == one.run.value) && (one.event == one.event)) (one.version == one.version)
    (and_from (one.run.value == one.run.value) (one.event == one.event) ((Decides-eqb one.run.value one.run.value).1 refl) ((Decides-eqb one.event one.event).1 refl))
    ((Decides-eqb one.version one.version).1 refl)

origin-decides : (one two : Origin) → Decides (same_origin one two) (one ≡ two)
origin-decides one two = (passes, λ e. subst (λ (origin : Origin). same_origin one origin ≡ true) e (origin-itself one))
  where
    passes : same_origin one two ≡ true → one ≡ two
    passes e =
        let last = and_parts ((one.run.value == two.run.value) && (one.event == two.event)) (one.version == two.version) e in
        let first = and_parts (one.run.value == two.run.value) (one.event == two.event) last.0 in
        let run = (run-decides one.run two.run).0 first.0 in
        let event = (Decides-eqb one.event two.event).0 first.1 in
        let version = (Decides-eqb one.version two.version).0 last.1 in
        λ i. record { run = run i; event = event i; version = version i }

kind-itself : (one : EventKind) → same_kind one one ≡ true
kind-itself one =
    and_from (bytes_eq (kind_name one) (kind_name one)) _ ((bytes_eq-Decides (kind_name one) (kind_name one)).1 refl)
    (and_from (option_eq bytes_eq (first_name one) (first_name one)) _ ((option-decides bytes_eq-Decides (first_name one) (first_name one)).1 refl)
    (and_from (option_eq bytes_eq (second_name one) (second_name one)) _ ((option-decides bytes_eq-Decides (second_name one) (second_name one)).1 refl)
    (and_from (option_eq same_run (next_run one) (next_run one)) _ ((option-decides run-decides (next_run one) (next_run one)).1 refl)
    ((option-decides origin-decides (copied_origin one) (copied_origin one)).1 refl))))

kind-decides : (one two : EventKind) → Decides (same_kind one two) (one ≡ two)
kind-decides one two = (passes, λ e. subst (λ (kind : EventKind). same_kind one kind ≡ true) e (kind-itself one))
  where
    passes : same_kind one two ≡ true → one ≡ two
    passes e =
        let name = and_parts (bytes_eq (kind_name one) (kind_name two)) _ e in
        let first = and_parts (option_eq bytes_eq (first_name one) (first_name two)) _ name.1 in
        let second = and_parts (option_eq bytes_eq (second_name one) (second_name two)) _ first.1 in
        let next = and_parts (option_eq same_run (next_run one) (next_run two)) _ second.1 in
        kinds.same_kind one two ((bytes_eq-Decides (kind_name one) (kind_name two)).0 name.0) ((option-decides bytes_eq-Decides (first_name one) (first_name two)).0 first.0)
        ((option-decides bytes_eq-Decides (second_name one) (second_name two)).0 second.0) ((option-decides run-decides (next_run one) (next_run two)).0 next.0)
        ((option-decides origin-decides (copied_origin one) (copied_origin two)).0 next.1)

event-decides : (one two : Event) → Decides (same_event one two) (one ≡ two)
event-decides one two = (passes, λ e. subst (λ (event : Event). same_event one event ≡ true) e itself)
  where
    itself : same_event one one ≡ true
    itself = and_from (one.id == one.id) _ ((Decides-eqb one.id one.id).1 refl) (and_from (one.version == one.version) _ ((Decides-eqb one.version one.version).1 refl) (kind-itself one.kind))

    passes : same_event one two ≡ true → one ≡ two
    passes e =
        let id = and_parts (one.id == two.id) _ e in
        let version = and_parts (one.version == two.version) _ id.1 in
        let ids = (Decides-eqb one.id two.id).0 id.0 in
        let versions = (Decides-eqb one.version two.version).0 version.0 in
        let same = (kind-decides one.kind two.kind).0 version.1 in
        λ i. record { id = ids i; version = versions i; kind = same i }

batch-decides : (one two : Batch) → Decides (same_batch one two) (one ≡ two)
batch-decides one two = (passes, λ e. subst (λ (batch : Batch). same_batch one batch ≡ true) e itself)
  where
    itself : same_batch one one ≡ true
    itself =
        and_from (key_eq one.key one.key) _ (key_eq-self one.key)
        (and_from (same_run one.run one.run) _ ((run-decides one.run one.run).1 refl)
        (and_from (option_eq key_eq one.parent one.parent) _ ((option-decides key-decides one.parent one.parent).1 refl)
        (and_from (option_eq key_eq one.carrier one.carrier) _ ((option-decides key-decides one.carrier one.carrier).1 refl)
        (and_from (bytes_eq one.domain one.domain) _ ((bytes_eq-Decides one.domain one.domain).1 refl)
        (and_from (bytes_eq one.workflow one.workflow) _ ((bytes_eq-Decides one.workflow one.workflow).1 refl)
        ((slice_eq-Decides event-decides one.events one.events _ refl).1 refl))))))

    passes : same_batch one two ≡ true → one ≡ two
    passes e =
        let key = and_parts (key_eq one.key two.key) _ e in
        let run = and_parts (same_run one.run two.run) _ key.1 in
        let parent = and_parts (option_eq key_eq one.parent two.parent) _ run.1 in
        let carrier = and_parts (option_eq key_eq one.carrier two.carrier) _ parent.1 in
        let domain = and_parts (bytes_eq one.domain two.domain) _ carrier.1 in
        let workflow = and_parts (bytes_eq one.workflow two.workflow) _ domain.1 in
        let keys = (key-decides one.key two.key).0 key.0 in
        let runs = (run-decides one.run two.run).0 run.0 in
        let parents = (option-decides key-decides one.parent two.parent).0 parent.0 in
        let carriers = (option-decides key-decides one.carrier two.carrier).0 carrier.0 in
        let domains = (bytes_eq-Decides one.domain two.domain).0 domain.0 in
        let workflows = (bytes_eq-Decides one.workflow two.workflow).0 workflow.0 in
        let same = (slice_eq-Decides event-decides one.events two.events _ refl).0 workflow.1 in
        λ i. record { key = keys i; run = runs i; parent = parents i; carrier = carriers i; domain = domains i; workflow = workflows i; events = same i }

-- lists of batches pass the test exactly where they are one
pub batches_decide : (one two : List Batch) → Decides (same_batches one two) (one ≡ two)
unfolding same_batches
batches_decide one two = slice_eq-Decides batch-decides one two (same_batches one two) refl

-- what is true exactly where two lists of batches are one is the test
pub batches_told : (one two : List Batch) (same : Bool) → IsTrue same ↔ (one ≡ two) → same ≡ same_batches one two
batches_told one two same iff = decided same (same_batches one two) iff (batches_decide one two)
