-- What is learned beside what waits, and what an arrival makes of both.
use Rattle.std.proofs.Common.{◌≡◌, false, List, [], ◌∷◌, ◌++◌, ◌⊎◌, inl, inr, Option, Some, None, refl, sym, ◌∙◌, ap, true≢false}
use Rattle.std.specs.Prelude.{is_some, option_to_list}
use Rattle.std.specs.Option.{option_or}
use Rattle.std.specs.List.{AllByRecursion}
use Rattle.ndc_model_cells.specs.declared.message.Message.{Message}
use Rattle.ndc_model_cells.specs.Cells.{both}
use Rattle.ndc_model_cells.specs.Laws.{arrived_second}
use Rattle.ndc_event.specs.declared.batch.Batch.{Batch}
use Rattle.ndc_event.specs.declared.key.BatchKey.{BatchKey}
use Rattle.ndc_model_sets.specs.Learned.{has_key, learned, ReachesTop, top, up}
use Rattle.ndc_model_sets.specs.Sets.{IsSet, earlier, batch_at, Has, PointsBack, arrived}
use Rattle.ndc_model_sets.proofs.SetLemmas.{at-append, found-key, found-all, has-found}
use Rattle.ndc_model_sets.proofs.ArrivalLemmas.{arrival_keeps_sets, equal_sets}
use Rattle.ndc_model_sets.proofs.LearnedLemmas.{IsSet-learned, learned-reaches, closed_part}
use Rattle.ndc_model_cells.specs.Messages.{batches_of}
use Rattle.ndc_shard_waiting.specs.Learning.{with_message, with_messages, ArePutOff}
use Rattle.ndc_shard_waiting.proofs.OrderLemmas.{all-front, all-back, arrived-at}
use Rattle.ndc_shard_waiting.proofs.FreedLemmas.{or-assoc}

-- a set in which a message arrives
pub with-set : (sent : Message) (batches : List Batch) → IsSet batches → AllByRecursion PointsBack (both sent) → IsSet (with_message sent batches)
with-set sent batches set back = by sent.second back.1
  where
    by : (o : Option Batch) → AllByRecursion PointsBack (option_to_list o) → IsSet (arrived_second o (arrived sent.batch batches))
    by None h = arrival_keeps_sets sent.batch batches set back.0
    by (Some second) h = arrival_keeps_sets second (arrived sent.batch batches) (arrival_keeps_sets sent.batch batches set back.0) h.0

pub with-found : (sent : Message) (batches : List Batch) (key : BatchKey) → IsSet batches → PointsBack sent.batch
    → batch_at key (with_message sent batches) ≡ option_or (batch_at key batches) (batch_at key (both sent))
with-found sent batches key set back = by sent.second
  where
    by : (o : Option Batch) → batch_at key (arrived_second o (arrived sent.batch batches)) ≡ option_or (batch_at key batches) (batch_at key (sent.batch ∷ option_to_list o))
    by None = arrived-at sent.batch batches key set.ordered
    by (Some second) =
        arrived-at second (arrived sent.batch batches) key (arrival_keeps_sets sent.batch batches set back).ordered
        ∙ ap (λ o. option_or o (batch_at key (second ∷ []))) (arrived-at sent.batch batches key set.ordered)
        ∙ or-assoc (batch_at key batches) (batch_at key (sent.batch ∷ [])) (batch_at key (second ∷ []))
        ∙ ap (option_or (batch_at key batches)) (sym (at-append (sent.batch ∷ []) (second ∷ []) key))

pub all-set : (messages : List Message) (batches : List Batch) → IsSet batches → AllByRecursion PointsBack (batches_of messages) → IsSet (with_messages messages batches)
all-set [] batches set back = set
all-set (sent ∷ messages) batches set back =
    all-set messages (with_message sent batches) (with-set sent batches set (all-front PointsBack (both sent) (batches_of messages) back)) (all-back PointsBack (both sent) (batches_of messages) back)

pub all-found : (messages : List Message) (batches : List Batch) (key : BatchKey) → IsSet batches → AllByRecursion PointsBack (batches_of messages)
    → batch_at key (with_messages messages batches) ≡ option_or (batch_at key batches) (batch_at key (batches_of messages))
all-found [] batches key set back = all (batch_at key batches)
  where
    all : (o : Option Batch) → o ≡ option_or o None
    all None = refl
    all (Some x) = refl
all-found (sent ∷ messages) batches key set back =
    all-found messages (with_message sent batches) key (with-set sent batches set (all-front PointsBack (both sent) (batches_of messages) back)) (all-back PointsBack (both sent) (batches_of messages) back)
    ∙ ap (λ o. option_or o (batch_at key (batches_of messages))) (with-found sent batches key set back.0)
    ∙ or-assoc (batch_at key batches) (batch_at key (both sent)) (batch_at key (batches_of messages))
    ∙ ap (option_or (batch_at key batches)) (sym (at-append (both sent) (batches_of messages) key))

-- whether a key is there, by what is found in two lists
pub has-found-or : (o : Option BatchKey) (one two all : List Batch) → ((key : BatchKey) → batch_at key all ≡ option_or (batch_at key one) (batch_at key two)) → has_key o all ≡ has_key o (one ++ two)
has-found-or None one two all same = refl
has-found-or (Some key) one two all same = ap is_some (same key ∙ sym (at-append one two key))

module _ (known : List Batch) (waiting : List Message) (are : ArePutOff known waiting) where
  pub set-all : IsSet (with_messages waiting known)
  set-all = all-set waiting known are.set are.messages.set.back

  pub found-all-of : (key : BatchKey) → batch_at key (with_messages waiting known) ≡ option_or (batch_at key known) (batch_at key (batches_of waiting))
  found-all-of key = all-found waiting known key are.set are.messages.set.back

  -- what is there is learned, or waits
  pub known-or-waits : (b : Batch) → Has (with_messages waiting known) b → Has known b ⊎ Has (batches_of waiting) b
  known-or-waits b has = by (batch_at b.key known) refl (sym (found-all-of b.key) ∙ has)
    where
      by : (o : Option Batch) → batch_at b.key known ≡ o → option_or o (batch_at b.key (batches_of waiting)) ≡ Some b → Has known b ⊎ Has (batches_of waiting) b
      by None e h = inr h
      by (Some x) e h = inl (e ∙ h)

  -- what waits has its earlier key elsewhere
  pub waits-off : (b : Batch) → Has (batches_of waiting) b → has_key (earlier b) known ≡ false
  waits-off b has = found-all (λ x. has_key (earlier x) known ≡ false) (batches_of waiting) b.key b are.off has

  -- what reaches the top is learned
  reaches-known : (b : Batch) → ReachesTop (with_messages waiting known) b → Has known b
  reaches-known b (top _ has e) = by (known-or-waits b has)
    where
      by : Has known b ⊎ Has (batches_of waiting) b → Has known b
      by (inl h) = h
      by (inr h) = absurd (true≢false (sym (ap (λ o. has_key o known) e) ∙ waits-off b h))
  reaches-known b (up _ before key has e at r) = by (known-or-waits b has) (reaches-known before r)
    where
      by : Has known b ⊎ Has (batches_of waiting) b → Has known before → Has known b
      by (inl h) k = h
      by (inr h) k =
          let there : batch_at key known ≡ Some before = has-found known key before (found-key (with_messages waiting known) key before at) k in
          absurd (true≢false (sym (ap (λ o. has_key o known) e ∙ ap is_some there) ∙ waits-off b h))

  -- what is learned of all that has arrived is what is learned
  pub learned_is : learned (with_messages waiting known) ≡ known
  learned_is =
      equal_sets (learned (with_messages waiting known)) known (IsSet-learned (with_messages waiting known) set-all) are.set
      (λ b has. reaches-known b (learned-reaches (with_messages waiting known) b set-all has))
      (closed_part (with_messages waiting known) known set-all are.set (λ b has. found-all-of b.key ∙ ap (λ o. option_or o (batch_at b.key (batches_of waiting))) has) are.closed)
