-- What an arrival makes learned, as its laws say it.
use Rattle.std.proofs.Common.{◌≡◌, map, true, false, not, List, [], ◌∷◌, Some, ◌∙◌, ap}
use Rattle.std.specs.Prelude.{is_some, unwrap_or, option_to_list, if◌then◌else◌}
use Rattle.std.specs.Option.{option_or}
use Rattle.std.specs.List.{AllByRecursion, filter}
use Rattle.ndc_model_cells.specs.declared.message.Message.{Message}
use Rattle.ndc_model_cells.specs.Arrival.{arrival_in, newly_learned}
use Rattle.ndc_model_cells.specs.Cells.{both, missing_of}
use Rattle.ndc_model_cells.specs.declared.job.Arrived.TheVariants.{Learned, PutOff}
use Rattle.ndc_event.specs.declared.batch.Batch.{Batch}
use Rattle.ndc_model_sets.specs.Learned.{has_key, learned}
use Rattle.ndc_model_sets.specs.Sets.{earlier, batch_at, IsSet, Has}
use Rattle.ndc_shard_waiting.specs.Learning.{with_message, with_messages, ArePutOff}
use Rattle.ndc_model_cells.specs.Messages.{waits_for, batches_of, IsMessage, IsNewTo}
use Rattle.ndc_shard_waiting.specs.Waiting.{put_off, CanWait, freed, freed_by, still_put_off, missing_from}
use Rattle.ndc_shard_waiting.proofs.FreedLemmas.{all-freed}
use Rattle.ndc_shard_waiting.proofs.LearnLemmas.{learned_is}
use Rattle.ndc_shard_waiting.proofs.FreeLemmas.{all-there, filter-none, kept-put-off, rise-news, back-news, arrived-parts, news-are, kept-are, more_put_off, arrived_more}
use Rattle.ndc_model_sets.proofs.SetLemmas.{at-append, at-first}
use Rattle.ndc_shard_waiting.proofs.MissingLemmas.{missing_is}
use Rattle.ndc_shard_waiting.proofs.OrderLemmas.{all-more}
use Rattle.ndc_shard_waiting.proofs.LoopLemmas.{none-freed}
use Rattle.ndc_shard_waiting.proofs.PutLemmas.{put-found}

module _ (known : List Batch) (waiting : List Message) (new : Message) (are : ArePutOff known waiting) where
  module _ (can : CanWait new) (fresh : IsNewTo known new) (apart : IsNewTo (batches_of waiting) new) (off : has_key (earlier new.batch) known ≡ false) where
    pub nothing_new : newly_learned (learned (with_messages waiting known)) (learned (with_message new (with_messages waiting known))) ≡ []
    nothing_new =
        ap (λ l. newly_learned l (learned (with_message new (with_messages waiting known)))) (learned_is known waiting are)
        ∙ ap (λ l. newly_learned known (learned l)) (arrived_more known waiting new are can fresh apart off)
        ∙ ap (newly_learned known) (learned_is known (put_off new waiting) (more_put_off known waiting new are can fresh apart off))
        ∙ filter-none (λ b. not (has_key (Some b.key) known)) known
        (all-more (λ (b : Batch). batch_at b.key known ≡ Some b) (λ b. not (has_key (Some b.key) known) ≡ false) (λ b h. ap (λ o. not (is_some o)) h) known (all-there known are.set.ordered))

    new-there : Has (batches_of (put_off new waiting)) new.batch
    new-there =
        put-found new waiting new.batch.key apart ∙ ap (λ o. option_or o (batch_at new.batch.key (both new))) apart.0 ∙ at-first new.batch (option_to_list new.second)

    -- the answer names what the message misses
    pub answers_missing : arrival_in new (newly_learned (learned (with_messages waiting known)) (learned (with_message new (with_messages waiting known)))) (with_message new (with_messages waiting known))
        ≡ PutOff (unwrap_or (missing_from (Some new.batch.key) (batches_of (put_off new waiting))) new.batch.key)
    answers_missing =
        ap (λ l. arrival_in new l (with_message new (with_messages waiting known))) nothing_new
        ∙ ap (λ o. PutOff (unwrap_or o new.batch.key)) (ap (missing_of new.batch) (arrived_more known waiting new are can fresh apart off)
        ∙ missing_is known (put_off new waiting) (more_put_off known waiting new are can fresh apart off) new.batch new-there)

  module _ (message : IsMessage new) (fresh : IsNewTo known new) (apart : IsNewTo (batches_of waiting) new) (reached : has_key (earlier new.batch) known ≡ true) where
    pub others_put_off : ArePutOff (with_messages (freed new waiting) known) (still_put_off new waiting)
    unfolding freed still_put_off
    others_put_off = kept-put-off known waiting new are message fresh apart reached

    pub all_arrived : with_message new (with_messages waiting known) ≡ with_messages (still_put_off new waiting) (with_messages (freed new waiting) known)
    unfolding freed still_put_off
    all_arrived = arrived-parts known waiting new are message fresh apart reached

    news : newly_learned known (with_messages (freed new waiting) known) ≡ batches_of (freed new waiting)
    unfolding freed
    news = news-are known waiting new are message fresh apart reached

    pub freed_are_new : newly_learned (learned (with_messages waiting known)) (learned (with_message new (with_messages waiting known))) ≡ batches_of (freed new waiting)
    freed_are_new =
        ap (λ l. newly_learned l (learned (with_message new (with_messages waiting known)))) (learned_is known waiting are)
        ∙ ap (λ l. newly_learned known (learned l)) all_arrived
        ∙ ap (newly_learned known) (learned_is (with_messages (freed new waiting) known) (still_put_off new waiting) others_put_off)
        ∙ news

    pub others_wait : filter (λ sent. not (has_key (Some sent.batch.key) (with_messages (freed new waiting) known))) (put_off new waiting) ≡ still_put_off new waiting
    unfolding freed still_put_off
    others_wait = kept-are known waiting new are message fresh apart reached

    new-freed : has_key (Some new.batch.key) (batches_of (freed new waiting)) ≡ true
    unfolding freed
    new-freed =
        ap is_some (at-append (both new) (batches_of (freed_by (both new) waiting)) new.batch.key
        ∙ ap (λ o. option_or o (batch_at new.batch.key (batches_of (freed_by (both new) waiting)))) (at-first new.batch (option_to_list new.second)))

    -- the answer names what is learned
    pub answers_learned : arrival_in new (newly_learned (learned (with_messages waiting known)) (learned (with_message new (with_messages waiting known)))) (with_message new (with_messages waiting known))
        ≡ Learned (map (λ b. b.key) (batches_of (freed new waiting)))
    answers_learned =
        ap (λ l. arrival_in new l (with_message new (with_messages waiting known))) freed_are_new
        ∙ ap (λ t. if t then Learned (map (λ b. b.key) (batches_of (freed new waiting)))
        else PutOff (unwrap_or (missing_of new.batch (with_message new (with_messages waiting known))) new.batch.key)) new-freed

pub frees_none : (waiting : List Message) (new : Message) → AllByRecursion (λ sent. waits_for (both new) sent ≡ false) waiting → freed new waiting ≡ new ∷ []
unfolding freed
frees_none waiting new none = ap (λ l. new ∷ l) (none-freed (both new) waiting none).0

pub none_goes : (waiting : List Message) (new : Message) → AllByRecursion (λ sent. waits_for (both new) sent ≡ false) waiting → still_put_off new waiting ≡ waiting
unfolding still_put_off
none_goes waiting new none = (none-freed (both new) waiting none).1

pub freed_messages : (known : List Batch) (waiting : List Message) (new : Message) → ArePutOff known waiting → IsMessage new → AllByRecursion IsMessage (freed new waiting)
unfolding freed
freed_messages known waiting new are message =
    (message, all-more CanWait IsMessage (λ sent can. can.message) (freed_by (both new) waiting) (all-freed CanWait (both new) waiting are.messages.each).0)

pub freed_set : (known : List Batch) (waiting : List Message) (new : Message) → ArePutOff known waiting → IsMessage new → IsNewTo known new → IsNewTo (batches_of waiting) new
    → has_key (earlier new.batch) known ≡ true → IsSet (batches_of (freed new waiting))
unfolding freed
freed_set known waiting new are message fresh apart reached =
    record { ordered = rise-news known waiting new are message fresh apart reached; back = back-news known waiting new are message fresh apart reached }
