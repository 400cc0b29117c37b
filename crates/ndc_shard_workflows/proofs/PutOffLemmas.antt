-- A workflow where a message is put off, and what its put-off batches miss.
use Rattle.std.proofs.Common.{◌≡◌, false, not, List, [], ◌∷◌, Option, Some, None, IsSome, cond, refl, sym, ◌∙◌, subst, ap, true≢false}
use Rattle.std.specs.Prelude.{is_some, map, unwrap_or}
use Rattle.std.specs.Option.{option_or}
use Rattle.std.specs.List.{AllByRecursion, filter}
use Rattle.ndc_model_cells.specs.declared.message.Message.{Message}
use Rattle.ndc_model_cells.specs.declared.job.Arrived.TheVariants.{PutOff}
use Rattle.ndc_model_cells.specs.Arrival.{arrival_in}
use Rattle.ndc_model_cells.specs.Cells.{both, missing_of}
use Rattle.ndc_event.specs.declared.batch.Batch.{Batch}
use Rattle.ndc_event.specs.declared.key.BatchKey.{BatchKey}
use Rattle.ndc_model_sets.specs.Learned.{has_key, learned}
use Rattle.ndc_model_sets.specs.Sets.{earlier, batch_at}
use Rattle.ndc_model_sets.proofs.BranchLemmas.{Rise-filter}
use Rattle.ndc_model_sets.proofs.SetLemmas.{found-key, found-all}
use Rattle.ndc_shard_waiting.specs.Learning.{with_message, with_messages, ArePutOff}
use Rattle.ndc_model_cells.specs.Messages.{batches_of, IsMessage, IsNewTo, HasSmallIds}
use Rattle.ndc_shard_waiting.specs.Waiting.{put_off, missing_from, CanWait}
use Rattle.ndc_shard_waiting.specs.Waiting as waits
use Rattle.ndc_shard_waiting.proofs.FreeLemmas.{filter-found, all-there, none_learned, more_put_off, arrived_more}
use Rattle.ndc_shard_waiting.proofs.LawLemmas.{nothing_new, answers_missing}
use Rattle.ndc_shard_waiting.proofs.LearnLemmas.{learned_is, set-all, found-all-of}
use Rattle.ndc_shard_waiting.proofs.MissingLemmas.{missing_is}
use Rattle.ndc_shard_waiting.proofs.OrderLemmas.{same-found}
use Rattle.ndc_shard_waiting.proofs.PutLemmas.{batches-put}
use Rattle.ndc_model_cells.specs.Workflow.{WorkflowValue}
use Rattle.ndc_shard_workflows.specs.Workflow.{IsWorkflow, beside, off_in, still_waiting, all_missing, workflow_with, learned_with}

abbrev pair : BatchKey → Option BatchKey → BatchKey × Option BatchKey
pair key missing = (key, missing)

module _ (known : List Batch) (waiting : List Message) (are : ArePutOff known waiting) where
  -- what is not learned is new to what is learned and to what waits
  new-parts : (batches : List Batch) → AllByRecursion (λ b. batch_at b.key (with_messages waiting known) ≡ None) batches
      → AllByRecursion (λ b. batch_at b.key known ≡ None) batches × AllByRecursion (λ b. batch_at b.key (batches_of waiting) ≡ None) batches
  new-parts [] all = (tt, tt)
  new-parts (b ∷ batches) all =
      let rest = new-parts batches all.1 in
      let here = split (batch_at b.key known) (batch_at b.key (batches_of waiting)) (sym (found-all-of known waiting are b.key) ∙ all.0) in
      ((here.0, rest.0), (here.1, rest.1))
    where
      split : (one two : Option Batch) → option_or one two ≡ None → (one ≡ None) × (two ≡ None)
      split None two e = (refl, e)
      split (Some x) two e = absurd (cc)

  pub new-to-known : (new : Message) → IsNewTo (with_messages waiting known) new → IsNewTo known new
  new-to-known new fresh = (new-parts (both new) fresh).0

  pub new-to-waiting : (new : Message) → IsNewTo (with_messages waiting known) new → IsNewTo (batches_of waiting) new
  new-to-waiting new fresh = (new-parts (both new) fresh).1

  -- what is learned has arrived, and what waits has
  pub found-known : (key : BatchKey) (b : Batch) → Some b ≡ batch_at key known → Some b ≡ batch_at key (with_messages waiting known)
  found-known key b e = sym (found-all-of known waiting are key ∙ ap (λ o. option_or o (batch_at key (batches_of waiting))) (sym e))

  pub found-waiting : (key : BatchKey) → None ≡ batch_at key known → batch_at key (batches_of waiting) ≡ batch_at key (with_messages waiting known)
  found-waiting key e = sym (found-all-of known waiting are key ∙ ap (λ o. option_or o (batch_at key (batches_of waiting))) (sym e))

  -- what is put off is what waits
  pub waits-are : off_in (beside known waiting) ≡ batches_of waiting
  waits-are =
      ap (λ l. filter (λ b. not (has_key (Some b.key) l)) (with_messages waiting known)) (learned_is known waiting are)
      ∙ same-found (filter (λ b. not (has_key (Some b.key) known)) (with_messages waiting known)) (batches_of waiting)
      (Rise-filter (λ b. not (has_key (Some b.key) known)) (with_messages waiting known) (set-all known waiting are).ordered) are.messages.set.ordered
      (λ key. filter-found (λ k. not (has_key (Some k) known)) (with_messages waiting known) key
      ∙ ap (λ o. cond (not (has_key (Some key) known)) o None) (found-all-of known waiting are key) ∙ by key (batch_at key known) refl)
    where
      none : (key : BatchKey) (x : Batch) → batch_at key known ≡ Some x → (o : Option Batch) → batch_at key (batches_of waiting) ≡ o → None ≡ batch_at key (batches_of waiting)
      none key x e None g = sym g
      none key x e (Some y) g =
          let out : batch_at y.key known ≡ None = found-all (λ b. batch_at b.key known ≡ None) (batches_of waiting) key y are.apart g in
          let here : batch_at key known ≡ None = subst (λ (k : BatchKey). batch_at k known ≡ None) (found-key (batches_of waiting) key y g) out in absurd (cc)

      by : (key : BatchKey) (o : Option Batch) → batch_at key known ≡ o
          → cond (not (is_some (batch_at key known))) (option_or (batch_at key known) (batch_at key (batches_of waiting))) None ≡ batch_at key (batches_of waiting)
      by key None e = ap (λ o. cond (not (is_some o)) (option_or o (batch_at key (batches_of waiting))) None) e
      by key (Some x) e = ap (λ o. cond (not (is_some o)) (option_or o (batch_at key (batches_of waiting))) None) e ∙ none key x e (batch_at key (batches_of waiting)) refl

  -- what they miss is found among what waits
  pub all-missed : all_missing (beside known waiting) ≡ waits.all_missing (batches_of waiting)
  all-missed =
      ap (map {B = BatchKey × Option BatchKey} (λ b. (b.key, missing_of b (with_messages waiting known)))) waits-are
      ∙ each (batches_of waiting) (all-there (batches_of waiting) are.messages.set.ordered)
    where
      each : (batches : List Batch) → AllByRecursion (λ b. batch_at b.key (batches_of waiting) ≡ Some b) batches
          → map {B = BatchKey × Option BatchKey} (λ b. (b.key, missing_of b (with_messages waiting known))) batches
          ≡ map {B = BatchKey × Option BatchKey} (λ b. (b.key, missing_from (Some b.key) (batches_of waiting))) batches
      each [] all = refl
      each (b ∷ batches) all =
          ap (λ (o : Option BatchKey). pair b.key o ∷ map {B = BatchKey × Option BatchKey} (λ x. (x.key, missing_of x (with_messages waiting known))) batches) (missing_is known waiting are b all.0)
          ∙ ap (λ l. pair b.key (missing_from (Some b.key) (batches_of waiting)) ∷ l) (each batches all.1)

  -- a message whose earlier key is not learned
  module _ (new : Message) (message : IsMessage new) (fresh : IsNewTo (with_messages waiting known) new) (off : has_key (earlier new.batch) known ≡ false) where
    pub can-wait : CanWait new
    can-wait = record { message = message; waits = by (earlier new.batch) off }
      where
        by : (o : Option BatchKey) → has_key o known ≡ false → IsSome o
        by None h = absurd (true≢false h)
        by (Some key) h = refl

    -- is put off
    pub put-off-beside : ArePutOff known (put_off new waiting)
    put-off-beside = more_put_off known waiting new are can-wait (new-to-known new fresh) (new-to-waiting new fresh) off

    arrived-is : with_message new (with_messages waiting known) ≡ with_messages (put_off new waiting) known
    arrived-is = arrived_more known waiting new are can-wait (new-to-known new fresh) (new-to-waiting new fresh) off

    learned-same : learned (with_message new (with_messages waiting known)) ≡ known
    learned-same = ap learned arrived-is ∙ learned_is known (put_off new waiting) put-off-beside

    waiting-is : filter (λ sent. not (has_key (Some sent.batch.key) (learned (with_message new (with_messages waiting known))))) (put_off new waiting) ≡ put_off new waiting
    waiting-is =
        ap (λ l. filter (λ sent. not (has_key (Some sent.batch.key) l)) (put_off new waiting)) learned-same ∙ none_learned known (put_off new waiting) put-off-beside

    -- the workflow is what is learned, and beside it what is put off then
    pub put-off-with : beside known (put_off new waiting) ≡ workflow_with new (beside known waiting)
    put-off-with = λ i. record { arrived = (sym arrived-is) i; waiting = (sym waiting-is) i }

    pub put-off-learned : [] ≡ learned_with new (beside known waiting)
    put-off-learned = sym (nothing_new known waiting new are can-wait (new-to-known new fresh) (new-to-waiting new fresh) off)

    pub put-off-answer : PutOff (unwrap_or (missing_from (Some new.batch.key) (batches_of (put_off new waiting))) new.batch.key)
        ≡ arrival_in new (learned_with new (beside known waiting)) (workflow_with new (beside known waiting)).arrived
    put-off-answer = sym (answers_missing known waiting new are can-wait (new-to-known new fresh) (new-to-waiting new fresh) off)

    pub put-off-small : AllByRecursion HasSmallIds (both new) → AllByRecursion HasSmallIds (batches_of waiting) → AllByRecursion HasSmallIds (batches_of (put_off new waiting))
    put-off-small own small = batches-put HasSmallIds new waiting own small

-- of a workflow, the batches that are put off are those of the messages that wait
pub put_off_waits : (w : WorkflowValue) → IsWorkflow w → off_in w ≡ batches_of w.waiting
put_off_waits w is = ap off_in is.parts ∙ waits-are (learned w.arrived) w.waiting is.apart

-- all of them still wait
pub all_wait : (w : WorkflowValue) → IsWorkflow w → still_waiting w ≡ w
all_wait w is = λ i. record { arrived = w.arrived; waiting = none_learned (learned w.arrived) w.waiting is.apart i }

-- what messages are put off beside is a workflow with them
pub beside-is : (known : List Batch) (waiting : List Message) → ArePutOff known waiting → IsWorkflow (beside known waiting)
beside-is known waiting are = record {
  apart = subst (λ l. ArePutOff l waiting) (sym (learned_is known waiting are)) are;
  parts = ap (λ l. beside l waiting) (sym (learned_is known waiting are));
}
