-- A workflow of its names stays one after an arrival, and after what is written there.
use Rattle.std.proofs.Common.{◌≡◌, Bool, true, false, not, List, [], ◌∷◌, Option, Some, None, Ok, refl, sym, ◌∙◌, subst, ap, if◌then◌else◌}
use Rattle.std.specs.Prelude.{IfSome}
use Rattle.std.specs.List.{AllByRecursion, filter}
use Rattle.ndc_model_cells.specs.declared.message.Message.{Message}
use Rattle.ndc_model_cells.specs.Laws.{arrived_second}
use Rattle.ndc_model_cells.specs.Places.{is_of}
use Rattle.ndc_event.specs.Key.{key_eq, key_lt}
use Rattle.ndc_event.specs.declared.batch.Batch.{Batch}
use Rattle.ndc_event.specs.declared.name.Name.{Name}
use Rattle.ndc_model_sets.specs.Learned.{has_key, learned}
use Rattle.ndc_model_sets.specs.Sets.{arrived, earlier}
use Rattle.ndc_model_sets.specs.Sound.{IsSound}
use Rattle.ndc_model_sets.proofs.Lists.{filter-cases}
use Rattle.ndc_model_sets.proofs.SoundLemmas.{nothing_is_sound}
use Rattle.ndc_shard_waiting.specs.Learning.{with_message, with_messages}
use Rattle.ndc_shard_waiting.specs.Waiting.{put_off, freed, still_put_off}
use Rattle.ndc_model_cells.specs.Messages.{IsMessage, IsNewTo}
use Rattle.ndc_model_cells.specs.Workflow.{WorkflowValue}
use Rattle.ndc_shard_workflows.specs.Workflow.{IsWorkflow, after_arrival, beside, empty_workflow, has_arrived, with_written, workflow_with}
use Rattle.ndc_shard_workflows.proofs.FreedLemmas.{freed-with, still-put-off}
use Rattle.ndc_shard_workflows.proofs.PutOffLemmas.{beside-is, put-off-beside, put-off-with}
use Rattle.ndc_shard_workflows.proofs.OneWriteLemmas.{CanBeWritten, put-off-still, written-is, written-learned}
use Rattle.ndc_shard_workflows.specs.Workflows.{IsOwn, workflow_or_empty}

-- of three lists, by two tests
all-cases : {X : Type 0} (P : X → Type 0) (s t : Bool) (one two three : List X) → AllByRecursion P one → AllByRecursion P two → AllByRecursion P three
    → AllByRecursion P (if s then one else if t then two else three)
all-cases P true t one two three a b c = a
all-cases P false true one two three a b c = b
all-cases P false false one two three a b c = c

pub all-arrived : (P : Batch → Type 0) (new : Batch) (batches : List Batch) → P new → AllByRecursion P batches → AllByRecursion P (arrived new batches)
all-arrived P new [] p all = (p, tt)
all-arrived P new (b ∷ batches) p all =
    all-cases P (key_lt new.key b.key) (key_eq new.key b.key) (new ∷ b ∷ batches) (b ∷ batches) (b ∷ arrived new batches) (p, all) all (all.0, all-arrived P new batches p all.1)

pub all-second : (P : Batch → Type 0) (second : Option Batch) (batches : List Batch) → IfSome second P → AllByRecursion P batches → AllByRecursion P (arrived_second second batches)
all-second P None batches p all = all
all-second P (Some b) batches p all = all-arrived P b batches p all

pub all-put : (P : Message → Type 0) (new : Message) (waiting : List Message) → P new → AllByRecursion P waiting → AllByRecursion P (put_off new waiting)
all-put P new [] p all = (p, tt)
all-put P new (sent ∷ waiting) p all =
    all-cases P (key_lt new.batch.key sent.batch.key) (key_eq new.batch.key sent.batch.key) (new ∷ sent ∷ waiting) (sent ∷ waiting) (sent ∷ put_off new waiting) (p, all) all (all.0, all-put P new waiting p all.1)

pub all-filtered : {X : Type 0} (P : X → Type 0) (p : X → Bool) (xs : List X) → AllByRecursion P xs → AllByRecursion P (filter p xs)
all-filtered P p [] all = tt
all-filtered P p (x ∷ xs) all = filter-cases (AllByRecursion P) p x xs (λ _. (all.0, all-filtered P p xs all.1)) (λ _. all-filtered P p xs all.1)

-- nothing has arrived
pub empty-is : IsWorkflow empty_workflow
empty-is = beside-is [] [] (record {
  set = record { ordered = tt; back = tt };
  closed = λ b has. absurd (cc);
  messages = record { set = record { ordered = tt; back = tt }; each = tt };
  apart = tt;
  off = tt;
})

pub empty-own : (domain workflow : Name) → IsOwn domain workflow empty_workflow
empty-own domain workflow = record { is = empty-is; sound = nothing_is_sound; arrived = tt; waiting = tt }

pub own-or-empty : (domain workflow : Name) (o : Option WorkflowValue) → IfSome o (IsOwn domain workflow) → IsOwn domain workflow (workflow_or_empty o)
own-or-empty domain workflow None own = empty-own domain workflow
own-or-empty domain workflow (Some w) own = own

module _ (domain workflow : Name) (sent : Message) (w : WorkflowValue) (own : IsOwn domain workflow w) (first : is_of domain workflow sent.batch ≡ true)
    (second : IfSome sent.second (λ b. is_of domain workflow b ≡ true)) where
  arrived-own : AllByRecursion (λ b. is_of domain workflow b ≡ true) (with_message sent w.arrived)
  arrived-own =
      all-second (λ b. is_of domain workflow b ≡ true) sent.second (arrived sent.batch w.arrived) second (all-arrived (λ b. is_of domain workflow b ≡ true) sent.batch w.arrived first own.arrived)

  -- after an arrival
  module _ (message : IsMessage sent) where
    is-with : IsNewTo w.arrived sent → IsWorkflow (workflow_with sent w)
    is-with fresh = subst (λ (v : WorkflowValue). IsWorkflow (workflow_with sent v)) (sym own.is.parts) (by (has_key (earlier sent.batch) (learned w.arrived)) refl)
      where
        new : IsNewTo (with_messages w.waiting (learned w.arrived)) sent
        new = subst (λ (v : WorkflowValue). IsNewTo v.arrived sent) own.is.parts fresh

        by : (t : Bool) → has_key (earlier sent.batch) (learned w.arrived) ≡ t → IsWorkflow (workflow_with sent (beside (learned w.arrived) w.waiting))
        by true e =
            subst IsWorkflow (freed-with (learned w.arrived) w.waiting own.is.apart sent message new e)
            (beside-is (with_messages (freed sent w.waiting) (learned w.arrived)) (still_put_off sent w.waiting) (still-put-off (learned w.arrived) w.waiting own.is.apart sent message new e))
        by false e =
            subst IsWorkflow (put-off-with (learned w.arrived) w.waiting own.is.apart sent message new e)
            (beside-is (learned w.arrived) (put_off sent w.waiting) (put-off-beside (learned w.arrived) w.waiting own.is.apart sent message new e))

    own-with : IsNewTo w.arrived sent → IsSound (learned (workflow_with sent w).arrived) → IsOwn domain workflow (workflow_with sent w)
    own-with fresh sound = record {
      is = is-with fresh;
      sound = sound;
      arrived = arrived-own;
      waiting = all-filtered (λ m. is_of domain workflow m.batch ≡ true) (λ m. not (has_key (Some m.batch.key) (learned (with_message sent w.arrived)))) (put_off sent w.waiting)
          (all-put (λ m. is_of domain workflow m.batch ≡ true) sent w.waiting first own.waiting);
    }

    pub own-after : (has_arrived sent.batch.key w ≡ false → IsNewTo w.arrived sent) → IsSound (learned (after_arrival sent w).arrived) → IsOwn domain workflow (after_arrival sent w)
    unfolding after_arrival
    own-after new = by (has_arrived sent.batch.key w) refl
      where
        by : (t : Bool) → has_arrived sent.batch.key w ≡ t → IsSound (learned (if t then w else workflow_with sent w).arrived) → IsOwn domain workflow (if t then w else workflow_with sent w)
        by true e sound = own
        by false e sound = own-with (new e) sound

  -- after what is written
  pub own-written : CanBeWritten sent w → IsOwn domain workflow (with_written sent w)
  own-written can = record { is = is; sound = sound; arrived = arrived-own; waiting = own.waiting }
    where
      can-beside : CanBeWritten sent (beside (learned w.arrived) w.waiting)
      can-beside = subst (CanBeWritten sent) own.is.parts can

      sound : IsSound (learned (with_written sent w).arrived)
      sound =
          subst (λ (v : WorkflowValue). IsSound (learned (with_message sent v.arrived))) (sym own.is.parts)
          (subst IsSound (sym (ap (λ (v : WorkflowValue). learned v.arrived) (sym (written-is (learned w.arrived) w.waiting own.is.apart sent can-beside))
          ∙ written-learned (learned w.arrived) w.waiting own.is.apart sent can-beside)) can-beside.sound)

      is : IsWorkflow (with_written sent w)
      is =
          subst (λ (v : WorkflowValue). IsWorkflow (with_written sent v)) (sym own.is.parts)
          (subst IsWorkflow (written-is (learned w.arrived) w.waiting own.is.apart sent can-beside)
          (beside-is (with_message sent (learned w.arrived)) w.waiting
          (put-off-still (learned w.arrived) w.waiting own.is.apart sent can-beside {A = Unit {0}} {E = Unit {0}} (Ok tt) (with_message sent (learned w.arrived)) refl tt)))
