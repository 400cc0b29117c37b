-- What the batches that have arrived of a workflow carry.
use Rattle.std.proofs.Common.{◌≡◌, Bool, true, false, List, [], ◌++◌, Option, Some, None, refl, sym, ◌∙◌, subst, ap, true≢false, if◌then◌else◌}
use Rattle.std.specs.Prelude.{◌&&◌, find}
use Rattle.std.specs.List.{AllByRecursion, filter_map}
use Rattle.ndc_model_cells.specs.declared.message.Message.{Message}
use Rattle.ndc_model_cells.specs.Cells.{carries, own_message}
use Rattle.ndc_model_cells.specs.Places.{is_of}
use Rattle.ndc_event.specs.Key.{key_eq}
use Rattle.ndc_event.specs.declared.batch.Batch.{Batch}
use Rattle.ndc_event.specs.declared.key.BatchKey.{BatchKey}
use Rattle.ndc_model_sets.specs.Keys.{is_key}
use Rattle.ndc_model_sets.specs.Learned.{learned}
use Rattle.ndc_model_sets.specs.Paths.{is_wanted}
use Rattle.ndc_model_sets.specs.Sets.{IsSet, Has, batch_at}
use Rattle.ndc_model_sets.proofs.KeyLemmas.{key_eq-self, same-keys}
use Rattle.ndc_model_sets.specs.Reading.{named}
use Rattle.ndc_model_cells.specs.Messages.{batches_of}
use Rattle.ndc_shard_waiting.proofs.FreeLemmas.{all-there}
use Rattle.ndc_shard_waiting.proofs.LearnLemmas.{set-all}
use Rattle.ndc_model_cells.specs.Workflow.{WorkflowValue}
use Rattle.ndc_shard_workflows.specs.Workflow.{IsWorkflow}
use Rattle.ndc_shard_workflows.proofs.PutOffLemmas.{found-known}
use Rattle.ndc_shard_workflows.specs.Messages.{carrier_in, first_key, is_beside, is_under, least_of, least_with, lesser, noted_at}
use Rattle.ndc_shard_workflows.proofs.FirstKeyLemmas.{all-in, first-all, first-batch, least-first}
use Rattle.ndc_shard_runs.proofs.FollowLemmas.{and-false}

-- the least key, when all that is learned, and all that waits, was gone over
pub least-all : (test : Batch → Bool) (w : WorkflowValue) → IsWorkflow w → least_of test (batches_of w.waiting) (least_of test (learned w.arrived) None) ≡ first_key test w.arrived
least-all test w is =
    ap (least_of test (batches_of w.waiting)) (least-first test (learned w.arrived) is.apart.set.ordered)
    ∙ sym (first-all test (batches_of w.waiting) (learned w.arrived) is.apart.messages.set.ordered is.apart.set.ordered is.apart.apart)
    ∙ ap (first_key test) (sym (all-in w.waiting (learned w.arrived))) ∙ ap (λ (v : WorkflowValue). first_key test v.arrived) (sym is.parts)

-- the same, where both lists were gone over
pub least-found : (test : Batch → Bool) (w : WorkflowValue) → IsWorkflow w → (known waiting : List Batch) (found result : Option BatchKey) → known ≡ learned w.arrived → waiting ≡ batches_of w.waiting
    → found ≡ least_of test known None → result ≡ least_of test waiting found → result ≡ first_key test w.arrived
least-found test w is known waiting found result first second one two =
    two ∙ ap (λ (l : List Batch). least_of test l found) second ∙ ap (least_of test (batches_of w.waiting)) (one ∙ ap (λ (l : List Batch). least_of test l None) first) ∙ least-all test w is

-- the same, where the first of what is learned was found
pub least-behind : (test : Batch → Bool) (w : WorkflowValue) → IsWorkflow w → (waiting : List Batch) (found result : Option BatchKey) → waiting ≡ batches_of w.waiting
    → found ≡ first_key test (learned w.arrived) → result ≡ least_of test waiting found → result ≡ first_key test w.arrived
least-behind test w is waiting found result second one two =
    least-found test w is (learned w.arrived) waiting found result refl second (one ∙ sym (least-first test (learned w.arrived) is.apart.set.ordered)) two

arrived-set : (w : WorkflowValue) → IsWorkflow w → IsSet w.arrived
arrived-set w is = subst (λ (v : WorkflowValue). IsSet v.arrived) (sym is.parts) (set-all (learned w.arrived) w.waiting is.apart)

-- the batch of the first key is the first batch
pub first-found : (test : Batch → Bool) (w : WorkflowValue) → IsWorkflow w → named (first_key test w.arrived) w.arrived ≡ find test w.arrived
first-found test w is = first-batch test w.arrived (arrived-set w is).ordered

-- what is learned has arrived
learned-arrived : (w : WorkflowValue) → IsWorkflow w → (b : Batch) → batch_at b.key (learned w.arrived) ≡ Some b → Has w.arrived b
learned-arrived w is b has = ap (λ (v : WorkflowValue). batch_at b.key v.arrived) is.parts ∙ sym (found-known (learned w.arrived) w.waiting is.apart b.key b (sym has))

pub each-learned : (w : WorkflowValue) → IsWorkflow w → AllByRecursion (λ b. batch_at b.key (learned w.arrived) ≡ Some b) (learned w.arrived)
each-learned w is = all-there (learned w.arrived) is.apart.set.ordered

-- before the first batch is gone over
pub none-yet : (w : WorkflowValue) → IsWorkflow w → (items : List Message) (batches : List Batch) → items ≡ [] → batches ≡ learned w.arrived
    → (items ++ filter_map (own_message (learned w.arrived) w.arrived) batches ≡ filter_map (own_message (learned w.arrived) w.arrived) (learned w.arrived))
    × AllByRecursion (λ b. batch_at b.key (learned w.arrived) ≡ Some b) batches
none-yet w is items batches none all = (
  ap (λ (l : List Message). l ++ filter_map (own_message (learned w.arrived) w.arrived) batches) none ∙ ap (filter_map (own_message (learned w.arrived) w.arrived)) all,
  subst (λ (l : List Batch). AllByRecursion (λ b. batch_at b.key (learned w.arrived) ≡ Some b) l) (sym all) (each-learned w is),
)

-- of a batch that has arrived, what it carries is what has its key as that of the carrier
under-is : (all : List Batch) (b : Batch) → Has all b → (other : Batch) → is_under all b.key other ≡ carries b other
under-is all b has other = by other.carrier
  where
    here : (t : Bool) (key : BatchKey) → key_eq b.key key ≡ true → is_key b.key (if t then Some key else None) ≡ (t && key_eq b.key key)
    here true key e = refl
    here false key e = refl

    off : (t : Bool) (key : BatchKey) → key_eq b.key key ≡ false → is_key b.key (if t then Some key else None) ≡ false
    off true key e = e
    off false key e = refl

    at : (key : BatchKey) (t : Bool) → key_eq b.key key ≡ t → is_key b.key (if is_beside (batch_at key all) other then Some key else None) ≡ (is_of b.domain b.workflow other && key_eq b.key key)
    at key true e =
        ap (λ (o : Option Batch). is_key b.key (if is_beside o other then Some key else None)) (subst (λ (k : BatchKey). batch_at k all ≡ Some b) (same-keys b.key key e) has)
        ∙ here (is_of b.domain b.workflow other) key e
    at key false e = off (is_beside (batch_at key all) other) key e ∙ sym (ap (λ t. is_of b.domain b.workflow other && t) e ∙ and-false (is_of b.domain b.workflow other))

    by : (o : Option BatchKey) → is_key b.key (carrier_in all other o) ≡ (is_of b.domain b.workflow other && is_wanted o b)
    by None = sym (and-false (is_of b.domain b.workflow other))
    by (Some key) = at key (key_eq b.key key) refl

-- the batch of the key that is noted for a learned batch is the first that it carries
pub second-found : (w : WorkflowValue) → IsWorkflow w → (b : Batch) → batch_at b.key (learned w.arrived) ≡ Some b → (found : Option BatchKey) → found ≡ first_key (is_under w.arrived b.key) w.arrived
    → named found w.arrived ≡ find (carries b) w.arrived
second-found w is b has found e =
    ap (λ (o : Option BatchKey). named o w.arrived) e ∙ first-found (is_under w.arrived b.key) w is
    ∙ ap (λ (t : Batch → Bool). find t w.arrived) (λ i other. under-is w.arrived b (learned-arrived w is b has) other i)

-- a batch was noted under its carrier's key
pub noted : (all : List Batch) (b : Batch) (carrier least : BatchKey) (before after : List (BatchKey × BatchKey)) → Some carrier ≡ carrier_in all b b.carrier → least ≡ lesser b.key (noted_at carrier before)
    → ((one : BatchKey) → noted_at one after ≡ (if key_eq carrier one then Some least else noted_at one before)) → (one : BatchKey) → noted_at one after ≡ least_with (is_under all one) b (noted_at one before)
noted all b carrier least before after named is set one =
    set one ∙ by (key_eq carrier one) refl ∙ ap (λ o. if is_key one o then Some (lesser b.key (noted_at one before)) else noted_at one before) named
  where
    flip : (t : Bool) → key_eq carrier one ≡ t → key_eq one carrier ≡ t
    flip true e = subst (λ (k : BatchKey). key_eq one k ≡ true) (sym (same-keys carrier one e)) (key_eq-self one)
    flip false e = no (key_eq one carrier) refl
      where
        no : (t : Bool) → key_eq one carrier ≡ t → t ≡ false
        no true f = absurd (true≢false (sym (subst (λ (k : BatchKey). key_eq carrier k ≡ true) (sym (same-keys one carrier f)) (key_eq-self carrier)) ∙ e))
        no false f = refl

    by : (t : Bool) → key_eq carrier one ≡ t → (if t then Some least else noted_at one before) ≡ (if key_eq one carrier then Some (lesser b.key (noted_at one before)) else noted_at one before)
    by true e =
        ap Some (is ∙ ap (λ (k : BatchKey). lesser b.key (noted_at k before)) (same-keys carrier one e))
        ∙ sym (ap (λ t. if t then Some (lesser b.key (noted_at one before)) else noted_at one before) (flip true e))
    by false e = sym (ap (λ t. if t then Some (lesser b.key (noted_at one before)) else noted_at one before) (flip false e))

pub not-noted : (all : List Batch) (b : Batch) (entries : List (BatchKey × BatchKey)) → None ≡ carrier_in all b b.carrier → (one : BatchKey) → noted_at one entries ≡ least_with (is_under all one) b (noted_at one entries)
not-noted all b entries none one = ap (λ o. if is_key one o then Some (lesser b.key (noted_at one entries)) else noted_at one entries) none
