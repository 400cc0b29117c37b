-- What is freed can be learned message by message.
use Rattle.std.proofs.Common.{◌≡◌, Bool, true, false, ◌||◌, List, [], ◌∷◌, ◌++◌, Option, Some, None, refl, sym, ◌∙◌, ap}
use Rattle.std.specs.Option.{option_or}
use Rattle.std.specs.List.{AllByRecursion}
use Rattle.ndc_model_cells.specs.declared.message.Message.{Message}
use Rattle.ndc_model_cells.specs.Cells.{both}
use Rattle.ndc_event.specs.declared.batch.Batch.{Batch}
use Rattle.ndc_event.specs.declared.key.BatchKey.{BatchKey}
use Rattle.ndc_model_sets.specs.Learned.{has_key}
use Rattle.ndc_model_sets.specs.Sets.{Rise, IsSet, earlier, batch_at}
use Rattle.ndc_model_cells.specs.Messages.{batches_of, IsMessage, IsNewTo}
use Rattle.ndc_shard_waiting.specs.Waiting.{CanWait, freed_by, freed}
use Rattle.ndc_shard_waiting.specs.Learning.{with_message, ArePutOff, AreLearnable}
use Rattle.ndc_shard_waiting.proofs.OrderLemmas.{all-front, all-back, all-two, rise-back, rise-precede, has-append}
use Rattle.ndc_shard_waiting.proofs.FreedLemmas.{freed-cases}
use Rattle.ndc_shard_waiting.proofs.KeptLemmas.{IsApart, both-back, precede-none, has-back}
use Rattle.ndc_shard_waiting.proofs.PutLemmas.{apart-flip}
use Rattle.ndc_shard_waiting.proofs.LearnLemmas.{with-set, with-found, has-found-or}

-- where each of some keys is learned, each is where a message is learned too, with the message's own
within-more : (so_far known : List Batch) (sent : Message) → IsSet known → IsMessage sent → ((key : BatchKey) → has_key (Some key) so_far ≡ true → has_key (Some key) known ≡ true)
    → (key : BatchKey) → has_key (Some key) (so_far ++ both sent) ≡ true → has_key (Some key) (with_message sent known) ≡ true
within-more so_far known sent set message within key h =
    has-found-or (Some key) known (both sent) (with_message sent known) (λ q. with-found sent known q set message.back) ∙ has-append key known (both sent)
    ∙ by (has_key (Some key) so_far) refl (sym (has-append key so_far (both sent)) ∙ h)
  where
    or-true : (t : Bool) → (t || true) ≡ true
    or-true true = refl
    or-true false = refl

    by : (t : Bool) → has_key (Some key) so_far ≡ t → (t || has_key (Some key) (both sent)) ≡ true → (has_key (Some key) known || has_key (Some key) (both sent)) ≡ true
    by true e g = ap (λ t. t || has_key (Some key) (both sent)) (within key e)
    by false e g = ap (λ t. has_key (Some key) known || t) g ∙ or-true (has_key (Some key) known)

-- what is apart from what is learned and from a message is apart from both
apart-more : (known : List Batch) (sent : Message) (batches : List Batch) → IsSet known → IsMessage sent → IsApart known batches → IsApart (both sent) batches → IsApart (with_message sent known) batches
apart-more known sent batches set message apart own =
    all-two (λ (b : Batch). batch_at b.key known ≡ None) (λ b. batch_at b.key (both sent) ≡ None) (λ b. batch_at b.key (with_message sent known) ≡ None)
    (λ b h g. with-found sent known b.key set message.back ∙ ap (λ o. option_or o (batch_at b.key (both sent))) h ∙ g) batches apart own

learnable : (so_far known : List Batch) (waiting : List Message) → AllByRecursion CanWait waiting → Rise (batches_of waiting) → IsSet known
    → ((key : BatchKey) → has_key (Some key) so_far ≡ true → has_key (Some key) known ≡ true) → IsApart known (batches_of waiting) → AreLearnable known (freed_by so_far waiting)
learnable so_far known [] each rise set within apart = tt
learnable so_far known (sent ∷ waiting) each rise set within apart =
    let rest = rise-back (both sent) (batches_of waiting) rise in
    let before = rise-precede (both sent) (batches_of waiting) rise in
    let others = all-back (λ (b : Batch). batch_at b.key known ≡ None) (both sent) (batches_of waiting) apart in
    freed-cases (λ f _. AreLearnable known f) so_far sent waiting
    (λ frees. (
      (all-front (λ (b : Batch). batch_at b.key known ≡ None) (both sent) (batches_of waiting) apart, by (earlier sent.batch) frees),
      learnable (so_far ++ both sent) (with_message sent known) waiting each.1 rest (with-set sent known set (both-back sent each.0.message))
          (within-more so_far known sent set each.0.message within)
          (apart-more known sent (batches_of waiting) set each.0.message others (precede-none (both sent) (batches_of waiting) before)),
    ))
    (λ _. learnable so_far known waiting each.1 rest set within others)
  where
    by : (o : Option BatchKey) → has_key o so_far ≡ true → has_key o known ≡ true
    by None h = refl
    by (Some key) h = within key h

pub freed_learnable : (known : List Batch) (waiting : List Message) (new : Message) → ArePutOff known waiting → IsMessage new → IsNewTo known new → IsNewTo (batches_of waiting) new
    → has_key (earlier new.batch) known ≡ true → AreLearnable known (freed new waiting)
unfolding freed
freed_learnable known waiting new are message fresh apart reached = (
  (fresh, reached),
  learnable (both new) (with_message new known) waiting are.messages.each are.messages.set.ordered (with-set new known are.set (both-back new message))
      (λ key h. has-found-or (Some key) known (both new) (with_message new known) (λ q. with-found new known q are.set message.back) ∙ has-back (Some key) known (both new) h)
      (apart-more known new (batches_of waiting) are.set message are.apart (apart-flip (batches_of waiting) (both new) apart)),
)
