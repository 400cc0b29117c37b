-- A workflow in which its cell writes.
use Rattle.std.proofs.Common.{◌≡◌, Bool, true, false, List, [], ◌∷◌, Option, Some, None, Result, Ok, Err, OnOk, OnErr, IfSome, refl, sym, ◌∙◌, subst, ap, true≢false}
use Rattle.std.specs.Prelude.{◌||◌, is_some, option_to_list, if◌then◌else◌}
use Rattle.std.specs.Option.{option_or}
use Rattle.std.specs.List.{AllByRecursion}
use Rattle.ndc_model_cells.specs.declared.message.Message.{Message}
use Rattle.ndc_model_cells.specs.Cells.{both}
use Rattle.ndc_model_cells.specs.Laws.{arrived_second}
use Rattle.ndc_event.specs.Key.{key_lt}
use Rattle.ndc_event.specs.declared.batch.Batch.{Batch}
use Rattle.ndc_event.specs.declared.key.BatchKey.{BatchKey}
use Rattle.ndc_model_sets.specs.Learned.{has_key, learned}
use Rattle.ndc_model_sets.specs.Sets.{arrived, batch_at, earlier, earlier_of, PointsBack}
use Rattle.ndc_model_sets.specs.Sound.{IsSound}
use Rattle.ndc_model_sets.proofs.SetLemmas.{at-first}
use Rattle.ndc_shard_waiting.specs.Learning.{with_message, with_messages, ArePutOff}
use Rattle.ndc_model_cells.specs.Messages.{carrying, waits_for, IsCarriedBy, IsMessage, IsNewTo, HasSmallIds}
use Rattle.ndc_shard_waiting.specs.Waiting.{freed, still_put_off}
use Rattle.ndc_shard_waiting.proofs.KeptLemmas.{behind-after}
use Rattle.ndc_shard_waiting.proofs.LawLemmas.{all_arrived, frees_none, none_goes}
use Rattle.ndc_shard_waiting.proofs.LearnLemmas.{learned_is, set-all}
use Rattle.ndc_shard_waiting.proofs.OrderLemmas.{all-more, arrived-at, has-append, not-at}
use Rattle.ndc_shard_workflows.specs.Learnable.{CanBothBeLearned}
use Rattle.ndc_model_cells.specs.Workflow.{WorkflowValue}
use Rattle.ndc_shard_workflows.specs.Workflow.{beside, with_written}
use Rattle.ndc_shard_workflows.specs.Writing.{GoesBehind, GoTogether}
use Rattle.ndc_shard_workflows.proofs.FreedLemmas.{still-put-off}
use Rattle.ndc_shard_workflows.proofs.PutOffLemmas.{new-to-known, new-to-waiting}

-- batches can be written together in a workflow
pub record CanBeWritten (new : Message) (w : WorkflowValue) : Type 0 where
  pub together : GoTogether new
  pub fresh : IsNewTo w.arrived new
  pub reached : has_key (earlier new.batch) (learned w.arrived) ≡ true
  pub awaited : AllByRecursion (λ sent. waits_for (both new) sent ≡ false) w.waiting
  pub sound : IsSound (with_message new (learned w.arrived))
  pub small : AllByRecursion HasSmallIds (both new)

-- one batch is written
module _ (known : List Batch) (waiting : List Message) (are : ArePutOff known waiting) (b : Batch) (back : PointsBack b) (fresh : batch_at b.key (with_messages waiting known) ≡ None)
    (reached : has_key (earlier b) known ≡ true) (awaited : AllByRecursion (λ sent. waits_for (b ∷ []) sent ≡ false) waiting) where
  abbrev one : Message
  one = carrying b None

  message : IsMessage one
  message = record { back = back; second = tt }

  frees : freed one waiting ≡ one ∷ []
  frees = frees_none waiting one awaited

  goes : still_put_off one waiting ≡ waiting
  goes = none_goes waiting one awaited

  -- it is new to what is learned
  pub one-new : IsNewTo known one
  one-new = new-to-known known waiting are one (fresh, tt)

  -- what waits is put off beside it too
  pub one-put-off : ArePutOff (arrived b known) waiting
  one-put-off =
      subst (λ (l : List Message). ArePutOff (with_messages l known) waiting) frees
      (subst (ArePutOff (with_messages (freed one waiting) known)) goes (still-put-off known waiting are one message (fresh, tt) reached))

  pub one-arrived : with_messages waiting (arrived b known) ≡ arrived b (with_messages waiting known)
  one-arrived =
      sym (all_arrived known waiting one are message one-new (new-to-waiting known waiting are one (fresh, tt)) reached
      ∙ ap (λ (l : List Message). with_messages l (with_messages (freed one waiting) known)) goes ∙ ap (λ (l : List Message). with_messages waiting (with_messages l known)) frees)

-- what waits for neither of two batches waits for none of both
neither : (o : Option BatchKey) (b s : Batch) → has_key o (b ∷ s ∷ []) ≡ false → (has_key o (b ∷ []) ≡ false) × (has_key o (s ∷ []) ≡ false)
neither None b s e = absurd (true≢false e)
neither (Some key) b s e = by (has_key (Some key) (b ∷ [])) (has_key (Some key) (s ∷ [])) (sym (has-append key (b ∷ []) (s ∷ [])) ∙ e)
  where
    by : (t u : Bool) → (t || u) ≡ false → (t ≡ false) × (u ≡ false)
    by true u f = absurd (true≢false f)
    by false u f = (refl, f)

-- a batch that goes right after another
module _ (b s : Batch) (goes : GoesBehind b s) where
  earlier-is : earlier s ≡ s.carrier
  earlier-is = ap (λ (p : Option BatchKey). earlier_of p s.carrier) goes.parent

  pub goes-after : key_lt b.key s.key ≡ true
  goes-after = subst (λ (k : BatchKey). key_lt b.key k ≡ true) (sym goes.key) (behind-after b.key)

  pub goes-back : PointsBack s
  goes-back key e =
      let is : key ≡ b.key = subst (λ (o : Option BatchKey). IfSome o (λ k. k ≡ b.key)) (sym earlier-is ∙ e) goes.carrier in
      subst (λ (k : BatchKey). key_lt k s.key ≡ true) (sym is) goes-after

  pub goes-reached : (batches : List Batch) → has_key (Some b.key) batches ≡ true → has_key (earlier s) batches ≡ true
  goes-reached batches there = subst (λ (o : Option BatchKey). has_key o batches ≡ true) (sym earlier-is) (by s.carrier goes.carrier)
    where
      by : (o : Option BatchKey) → IfSome o (λ k. k ≡ b.key) → has_key o batches ≡ true
      by None h = refl
      by (Some k) h = subst (λ (x : BatchKey). has_key (Some x) batches ≡ true) (sym h) there

-- and then the one that goes right after it
module _ (known : List Batch) (waiting : List Message) (are : ArePutOff known waiting) (b s : Batch) (back : PointsBack b) (goes : GoesBehind b s)
    (fresh : batch_at b.key (with_messages waiting known) ≡ None) (second_fresh : batch_at s.key (with_messages waiting known) ≡ None) (reached : has_key (earlier b) known ≡ true)
    (awaited : AllByRecursion (λ sent. waits_for (b ∷ s ∷ []) sent ≡ false) waiting) where
  first-awaited : AllByRecursion (λ sent. waits_for (b ∷ []) sent ≡ false) waiting
  first-awaited = all-more (λ sent. waits_for (b ∷ s ∷ []) sent ≡ false) (λ sent. waits_for (b ∷ []) sent ≡ false) (λ sent e. (neither (earlier sent.batch) b s e).0) waiting awaited

  second-awaited : AllByRecursion (λ sent. waits_for (s ∷ []) sent ≡ false) waiting
  second-awaited = all-more (λ sent. waits_for (b ∷ s ∷ []) sent ≡ false) (λ sent. waits_for (s ∷ []) sent ≡ false) (λ sent e. (neither (earlier sent.batch) b s e).1) waiting awaited

  first-put-off : ArePutOff (arrived b known) waiting
  first-put-off = one-put-off known waiting are b back fresh reached first-awaited

  first-arrived : with_messages waiting (arrived b known) ≡ arrived b (with_messages waiting known)
  first-arrived = one-arrived known waiting are b back fresh reached first-awaited

  second-there : batch_at s.key (with_messages waiting (arrived b known)) ≡ None
  second-there =
      ap (batch_at s.key) first-arrived ∙ arrived-at b (with_messages waiting known) s.key (set-all known waiting are).ordered
      ∙ ap (λ o. option_or o (batch_at s.key (b ∷ []))) second_fresh ∙ ap (λ (t : Bool). if t then Some b else None) (not-at s.key b (goes-after b s goes))

  first-there : has_key (Some b.key) (arrived b known) ≡ true
  first-there =
      ap is_some (arrived-at b known b.key are.set.ordered ∙ ap (λ o. option_or o (batch_at b.key (b ∷ []))) (one-new known waiting are b back fresh reached first-awaited).0 ∙ at-first b [])

  second-reached : has_key (earlier s) (arrived b known) ≡ true
  second-reached = goes-reached b s goes (arrived b known) first-there

  pub two-put-off : ArePutOff (arrived s (arrived b known)) waiting
  two-put-off = one-put-off (arrived b known) waiting first-put-off s (goes-back b s goes) second-there second-reached second-awaited

  pub two-arrived : with_messages waiting (arrived s (arrived b known)) ≡ arrived s (arrived b (with_messages waiting known))
  two-arrived = one-arrived (arrived b known) waiting first-put-off s (goes-back b s goes) second-there second-reached second-awaited ∙ ap (arrived s) first-arrived

  -- one can be learned after the other
  pub two-can : IsSound (arrived s (arrived b known)) → AllByRecursion HasSmallIds (b ∷ s ∷ []) → CanBothBeLearned known b (Some s)
  two-can sound small = record {
    order = record {
      set = are.set;
      closed = are.closed;
      order = (
        (one-new known waiting are b back fresh reached first-awaited, reached),
        ((one-new (arrived b known) waiting first-put-off s (goes-back b s goes) second-there second-reached second-awaited, second-reached), tt),
      );
      each = (record { back = back; second = tt }, (record { back = goes-back b s goes; second = tt }, tt));
      sound = sound;
      small = small;
    };
    begins = goes.parent;
  }

-- a batch is written, and the other one, where there is one
module _ (known : List Batch) (waiting : List Message) (are : ArePutOff known waiting) (b : Batch) (back : PointsBack b) (reached : has_key (earlier b) known ≡ true) where
  abbrev Fresh : Option Batch → Type 0
  Fresh second = AllByRecursion (λ x. batch_at x.key (with_messages waiting known) ≡ None) (b ∷ option_to_list second)

  abbrev Awaited : Option Batch → Type 0
  Awaited second = AllByRecursion (λ sent. waits_for (b ∷ option_to_list second) sent ≡ false) waiting

  both-put-off : (second : Option Batch) → IfSome second (GoesBehind b) → Fresh second → Awaited second → ArePutOff (arrived_second second (arrived b known)) waiting
  both-put-off None goes fresh awaited = one-put-off known waiting are b back fresh.0 reached awaited
  both-put-off (Some s) goes fresh awaited = two-put-off known waiting are b s back goes fresh.0 fresh.1.0 reached awaited

  both-arrived : (second : Option Batch) → IfSome second (GoesBehind b) → Fresh second → Awaited second
      → with_messages waiting (arrived_second second (arrived b known)) ≡ arrived_second second (arrived b (with_messages waiting known))
  both-arrived None goes fresh awaited = one-arrived known waiting are b back fresh.0 reached awaited
  both-arrived (Some s) goes fresh awaited = two-arrived known waiting are b s back goes fresh.0 fresh.1.0 reached awaited

  both-can : (second : Option Batch) → IfSome second (GoesBehind b) → Fresh second → Awaited second → IsSound (arrived_second second (arrived b known))
      → AllByRecursion HasSmallIds (b ∷ option_to_list second) → CanBothBeLearned known b second
  both-can None goes fresh awaited sound small = record {
    order = record {
      set = are.set;
      closed = are.closed;
      order = ((one-new known waiting are b back fresh.0 reached awaited, reached), tt);
      each = (record { back = back; second = tt }, tt);
      sound = sound;
      small = small;
    };
    begins = tt;
  }
  both-can (Some s) goes fresh awaited sound small = two-can known waiting are b s back goes fresh.0 fresh.1.0 reached awaited sound small

module _ (known : List Batch) (waiting : List Message) (are : ArePutOff known waiting) (new : Message) (can : CanBeWritten new (beside known waiting)) where
  reached : has_key (earlier new.batch) known ≡ true
  reached = subst (λ (l : List Batch). has_key (earlier new.batch) l ≡ true) (learned_is known waiting are) can.reached

  -- they can be learned
  pub written-can : CanBothBeLearned known new.batch new.second
  written-can =
      both-can known waiting are new.batch can.together.back reached new.second can.together.second can.fresh can.awaited
      (subst (λ (l : List Batch). IsSound (with_message new l)) (learned_is known waiting are) can.sound) can.small

  -- what waits is put off beside them too
  put-off-then : ArePutOff (with_message new known) waiting
  put-off-then = both-put-off known waiting are new.batch can.together.back reached new.second can.together.second can.fresh can.awaited

  arrived-then : with_messages waiting (with_message new known) ≡ with_message new (with_messages waiting known)
  arrived-then = both-arrived known waiting are new.batch can.together.back reached new.second can.together.second can.fresh can.awaited

  pub written-is : beside (with_message new known) waiting ≡ with_written new (beside known waiting)
  written-is = λ i. record { arrived = arrived-then i; waiting = waiting }

  pub written-learned : learned (with_messages waiting (with_message new known)) ≡ with_message new (learned (with_messages waiting known))
  written-learned = learned_is (with_message new known) waiting put-off-then ∙ ap (with_message new) (sym (learned_is known waiting are))

  -- whether they are written or not, what waits is put off
  pub put-off-still : {A E : Type 0} (r : Result A E) (after : List Batch) → OnOk r (after ≡ with_message new known) → OnErr r (after ≡ known) → ArePutOff after waiting
  put-off-still (Ok x) after e f = subst (λ (l : List Batch). ArePutOff l waiting) (sym e) put-off-then
  put-off-still (Err x) after e f = subst (λ (l : List Batch). ArePutOff l waiting) (sym f) are

-- a message as cells write them goes together
pub message-together : (new : Message) → IsMessage new → GoTogether new
message-together new message = record { back = message.back; second = by new.second message.second }
  where
    by : (o : Option Batch) → IfSome o (IsCarriedBy new.batch) → IfSome o (GoesBehind new.batch)
    by None h = tt
    by (Some s) h = record { key = h.key; parent = h.parent; carrier = subst (λ (o : Option BatchKey). IfSome o (λ k. k ≡ new.batch.key)) (sym h.carrier) refl }

-- both batches point back
pub together-back : (new : Message) → GoTogether new → IfSome new.second PointsBack
together-back new together = by new.second together.second
  where
    by : (o : Option Batch) → IfSome o (GoesBehind new.batch) → IfSome o PointsBack
    by None h = tt
    by (Some s) h = goes-back new.batch s h
