-- Messages that can be learned: the first one, those after it, and the batch and the carried one of a message.
use Rattle.std.proofs.Common.{◌≡◌, Bool, true, List, [], ◌∷◌, ◌++◌, Option, Some, None, refl, sym, ◌∙◌, subst, ap}
use Rattle.std.specs.Prelude.{is_some, option_to_list, if◌then◌else◌}
use Rattle.std.specs.Option.{option_or}
use Rattle.std.specs.List.{AllByRecursion}
use Rattle.ndc_model_cells.specs.declared.message.Message.{Message}
use Rattle.ndc_model_cells.specs.Cells.{both}
use Rattle.ndc_event.specs.declared.batch.Batch.{Batch}
use Rattle.ndc_model_sets.specs.Learned.{has_key, IsClosed, IsPart}
use Rattle.ndc_model_sets.specs.Sets.{IsSet, earlier, batch_at, PointsBack, arrived}
use Rattle.ndc_model_sets.specs.Sound.{IsSound}
use Rattle.ndc_model_sets.proofs.SetLemmas.{at-first, found-all}
use Rattle.ndc_model_sets.proofs.SoundLemmas.{part_is_sound}
use Rattle.ndc_shard_waiting.specs.Learning.{with_message, with_messages}
use Rattle.ndc_model_cells.specs.Messages.{batches_of, IsMessage, HasSmallIds, carrying}
use Rattle.ndc_shard_waiting.proofs.KeptLemmas.{both-all, both-back, carried-earlier, carried-after, has-front, has-back}
use Rattle.ndc_shard_waiting.proofs.LearnLemmas.{with-set, with-found, all-found, has-found-or}
use Rattle.ndc_model_sets.proofs.Lists.{all-join}
use Rattle.ndc_shard_waiting.proofs.OrderLemmas.{all-front, all-back, arrived-at, not-at}
use Rattle.ndc_shard_workflows.specs.Learnable.{CanBeLearned, CanBothBeLearned}

-- the batches of messages point back
pub messages-back : (messages : List Message) → AllByRecursion IsMessage messages → AllByRecursion PointsBack (batches_of messages)
messages-back [] each = tt
messages-back (sent ∷ messages) each = all-join PointsBack (both sent) (batches_of messages) (both-back sent each.0) (messages-back messages each.1)

-- after a message that is learned what is learned is closed
module _ (known : List Batch) (sent : Message) (set : IsSet known) (closed : IsClosed known) (message : IsMessage sent) (reached : has_key (earlier sent.batch) known ≡ true) where
  own-closed : AllByRecursion (λ b. has_key (earlier b) (known ++ both sent) ≡ true) (both sent)
  own-closed =
      both-all (λ b. has_key (earlier b) (known ++ both sent) ≡ true) sent message (has-front (earlier sent.batch) known (both sent) reached)
      (λ second by. rw (carried-earlier sent.batch second by) (has-back (Some sent.batch.key) known (both sent) (ap is_some (at-first sent.batch (option_to_list sent.second)))))

  pub message-closed : IsClosed (with_message sent known)
  message-closed b has =
      has-found-or (earlier b) known (both sent) (with_message sent known) (λ key. with-found sent known key set message.back)
      ∙ by (batch_at b.key known) refl (sym (with-found sent known b.key set message.back) ∙ has)
    where
      by : (o : Option Batch) → batch_at b.key known ≡ o → option_or o (batch_at b.key (both sent)) ≡ Some b → has_key (earlier b) (known ++ both sent) ≡ true
      by None e h = found-all (λ x. has_key (earlier x) (known ++ both sent) ≡ true) (both sent) b.key b own-closed h
      by (Some x) e h = has-front (earlier b) known (both sent) (closed b (e ∙ h))

-- the first message is learned
module _ (known : List Batch) (sent : Message) (messages : List Message) (can : CanBeLearned known (sent ∷ messages)) where
  message : IsMessage sent
  message = can.each.0

  next-set : IsSet (with_message sent known)
  next-set = with-set sent known can.set (both-back sent message)

  next-closed : IsClosed (with_message sent known)
  next-closed = message-closed known sent can.set can.closed message can.order.0.1

  next-part : IsPart (with_message sent known) (with_messages messages (with_message sent known))
  next-part b has =
      all-found messages (with_message sent known) b.key next-set (messages-back messages can.each.1) ∙ ap (λ o. option_or o (batch_at b.key (batches_of messages))) has

  -- what is learned with it is sound
  pub next-sound : IsSound (with_message sent known)
  next-sound = part_is_sound (with_messages messages (with_message sent known)) (with_message sent known) can.sound next-set next-closed next-part

  -- the others can be learned after it
  pub others-can : CanBeLearned (with_message sent known) messages
  others-can = record {
    set = next-set;
    closed = next-closed;
    order = can.order.1;
    each = can.each.1;
    sound = can.sound;
    small = all-back HasSmallIds (both sent) (batches_of messages) can.small;
  }

  -- it can be learned alone, whatever its history
  pub first-can : CanBeLearned known (carrying sent.batch sent.second ∷ [])
  first-can = record {
    set = can.set;
    closed = can.closed;
    order = (can.order.0, tt);
    each = (record { back = message.back; second = message.second }, tt);
    sound = next-sound;
    small = all-join HasSmallIds (both sent) [] (all-front HasSmallIds (both sent) (batches_of messages) can.small) tt;
  }

-- a batch that carries another can be learned
module _ (known : List Batch) (b second : Batch) (can : CanBeLearned known (carrying b (Some second) ∷ [])) where
  -- the key of the carried one is new then too
  second-new : batch_at second.key (arrived b known) ≡ None
  second-new =
      arrived-at b known second.key can.set.ordered ∙ ap (λ o. option_or o (batch_at second.key (b ∷ []))) can.order.0.0.1.0
      ∙ ap (λ (t : Bool). if t then Some b else None) (not-at second.key b (carried-after b second can.each.0.second))

  -- one can be learned after the other
  one-after-other : CanBeLearned known (carrying b None ∷ carrying second None ∷ [])
  one-after-other = record {
    set = can.set;
    closed = can.closed;
    order = (((can.order.0.0.0, tt), can.order.0.1), (((second-new, tt), second-reached), tt));
    each = (record { back = can.each.0.back; second = tt }, (record { back = (both-back (carrying b (Some second)) can.each.0).1.0; second = tt }, tt));
    sound = can.sound;
    small = can.small;
  }
    where
      second-reached : has_key (earlier second) (arrived b known) ≡ true
      second-reached =
          rw (carried-earlier b second can.each.0.second)
          (ap is_some (arrived-at b known b.key can.set.ordered ∙ ap (λ o. option_or o (batch_at b.key (b ∷ []))) can.order.0.0.0 ∙ at-first b []))

-- what can be learned as a message can be learned one after the other
pub both-can : (known : List Batch) (b : Batch) (second : Option Batch) → CanBeLearned known (carrying b second ∷ []) → CanBothBeLearned known b second
both-can known b None can = record { order = can; begins = tt }
both-can known b (Some second) can = record { order = one-after-other known b second can; begins = can.each.0.second.parent }

-- with the first alone the set is sound
pub first-sound : (known : List Batch) (b second : Batch) → CanBothBeLearned known b (Some second) → IsSound (arrived b known)
first-sound known b second can = next-sound known (carrying b None) (carrying second None ∷ []) can.order

-- one more message is learned, where more are left
pub one-more : (known later start : List Batch) (sent : Message) (messages left all : List Message) → left ≡ sent ∷ messages → CanBeLearned known left → with_messages left known ≡ with_messages all start
    → later ≡ with_message sent known → CanBeLearned later messages × (with_messages messages later ≡ with_messages all start)
one-more known later start sent messages left all e can same is = (
  subst (λ l. CanBeLearned l messages) (sym is) (others-can known sent messages (subst (CanBeLearned known) e can)),
  ap (with_messages messages) is ∙ ap (λ l. with_messages l known) (sym e) ∙ same,
)

-- the first of those left can be learned
pub one-can : (known : List Batch) (sent : Message) (messages left : List Message) (second : Option Batch) → left ≡ sent ∷ messages → CanBeLearned known left → second ≡ sent.second
    → CanBothBeLearned known sent.batch second
one-can known sent messages left second e can is =
    subst (CanBothBeLearned known sent.batch) (sym is) (both-can known sent.batch sent.second (first-can known sent messages (subst (CanBeLearned known) e can)))
