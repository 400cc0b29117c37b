-- A workflow where a message is learned, with what waits for it.
use Rattle.std.proofs.Common.{◌≡◌, true, not, List, Some, sym, ◌∙◌, subst, ap}
use Rattle.std.specs.Prelude.{map}
use Rattle.std.specs.List.{AllByRecursion, filter}
use Rattle.ndc_model_cells.specs.declared.message.Message.{Message}
use Rattle.ndc_model_cells.specs.declared.job.Arrived.TheVariants.{Learned}
use Rattle.ndc_model_cells.specs.Arrival.{arrival_in}
use Rattle.ndc_model_cells.specs.Cells.{both}
use Rattle.ndc_event.specs.declared.batch.Batch.{Batch}
use Rattle.ndc_model_sets.specs.Learned.{has_key, learned}
use Rattle.ndc_model_sets.specs.Sets.{earlier}
use Rattle.ndc_model_sets.specs.Sound.{IsSound}
use Rattle.ndc_shard_waiting.specs.Learning.{with_message, with_messages, ArePutOff}
use Rattle.ndc_model_cells.specs.Messages.{batches_of, IsMessage, IsNewTo, HasSmallIds}
use Rattle.ndc_shard_waiting.specs.Waiting.{put_off, freed, freed_by, still_put_off}
use Rattle.ndc_shard_waiting.proofs.FreedLemmas.{batches-freed}
use Rattle.ndc_shard_waiting.proofs.LawLemmas.{others_put_off, all_arrived, freed_are_new, others_wait, answers_learned, freed_messages}
use Rattle.ndc_shard_waiting.proofs.LearnLemmas.{learned_is}
use Rattle.ndc_shard_waiting.proofs.OrderedLemmas.{freed_learnable}
use Rattle.ndc_model_sets.proofs.Lists.{all-join}
use Rattle.ndc_shard_workflows.specs.Learnable.{CanBeLearned}
use Rattle.ndc_shard_workflows.specs.Workflow.{beside, workflow_with, learned_with}
use Rattle.ndc_shard_workflows.proofs.PutOffLemmas.{new-to-known, new-to-waiting}

module _ (known : List Batch) (waiting : List Message) (are : ArePutOff known waiting) (new : Message) (message : IsMessage new) (fresh : IsNewTo (with_messages waiting known) new)
    (reached : has_key (earlier new.batch) known ≡ true) where
  abbrev later : List Batch
  later = with_messages (freed new waiting) known

  pub still-put-off : ArePutOff later (still_put_off new waiting)
  still-put-off = others_put_off known waiting new are message (new-to-known known waiting are new fresh) (new-to-waiting known waiting are new fresh) reached

  arrived-is : with_message new (with_messages waiting known) ≡ with_messages (still_put_off new waiting) later
  arrived-is = all_arrived known waiting new are message (new-to-known known waiting are new fresh) (new-to-waiting known waiting are new fresh) reached

  pub learned-later : learned (with_message new (with_messages waiting known)) ≡ later
  learned-later = ap learned arrived-is ∙ learned_is later (still_put_off new waiting) still-put-off

  waiting-is : filter (λ sent. not (has_key (Some sent.batch.key) (learned (with_message new (with_messages waiting known))))) (put_off new waiting) ≡ still_put_off new waiting
  waiting-is =
      ap (λ l. filter (λ sent. not (has_key (Some sent.batch.key) l)) (put_off new waiting)) learned-later
      ∙ others_wait known waiting new are message (new-to-known known waiting are new fresh) (new-to-waiting known waiting are new fresh) reached

  -- the workflow is what is learned then, and beside it what still is put off
  pub freed-with : beside later (still_put_off new waiting) ≡ workflow_with new (beside known waiting)
  freed-with = λ i. record { arrived = (sym arrived-is) i; waiting = (sym waiting-is) i }

  pub freed-learned : batches_of (freed new waiting) ≡ learned_with new (beside known waiting)
  freed-learned = sym (freed_are_new known waiting new are message (new-to-known known waiting are new fresh) (new-to-waiting known waiting are new fresh) reached)

  pub freed-answer : Learned (map (λ b. b.key) (batches_of (freed new waiting))) ≡ arrival_in new (learned_with new (beside known waiting)) (workflow_with new (beside known waiting)).arrived
  freed-answer = sym (answers_learned known waiting new are message (new-to-known known waiting are new fresh) (new-to-waiting known waiting are new fresh) reached)

  -- what is freed can be learned
  pub freed-can : AllByRecursion HasSmallIds (both new) → AllByRecursion HasSmallIds (batches_of waiting) → IsSound (learned (with_message new (with_messages waiting known)))
      → CanBeLearned known (freed new waiting)
  unfolding freed
  freed-can own small sound = record {
    set = are.set;
    closed = are.closed;
    order = freed_learnable known waiting new are message (new-to-known known waiting are new fresh) (new-to-waiting known waiting are new fresh) reached;
    each = freed_messages known waiting new are message;
    sound = subst IsSound learned-later sound;
    small = all-join HasSmallIds (both new) (batches_of (freed_by (both new) waiting)) own (batches-freed HasSmallIds (both new) waiting small).0;
  }

  pub still-small : AllByRecursion HasSmallIds (batches_of waiting) → AllByRecursion HasSmallIds (batches_of (still_put_off new waiting))
  unfolding still_put_off
  still-small small = (batches-freed HasSmallIds (both new) waiting small).1
