-- What a shard has written stays as it is where it is handed messages that nobody vouches for.
use Rattle.std.proofs.Common.{◌≡◌, ◌⊎◌, inl, inr, Bool, true, false, not, List, [], ◌∷◌, Option, Some, None, refl, sym, ◌∙◌, ap, subst, if◌then◌else◌, true≢false}
use Rattle.std.specs.Prelude.{IfSome, is_some, option_to_list}
use Rattle.std.specs.List.{AllByRecursion, cons_option, filter}
use Rattle.std.specs.Option.{option_or}
use Rattle.ndc_event.specs.declared.batch.Batch.{Batch}
use Rattle.ndc_event.specs.declared.key.BatchKey.{BatchKey}
use Rattle.ndc_event.specs.declared.name.Name.{Name}
use Rattle.ndc_model_cells.proofs.NameLemmas.{own-names}
use Rattle.ndc_model_cells.proofs.PlaceLemmas.{set_of_workflow}
use Rattle.ndc_model_cells.specs.Cells.{Cell, IsCell, arrived_of, both, carries, learned_of, message_at, own_message}
use Rattle.ndc_model_cells.specs.Messages.{batches_of, IsCarriedBy, IsMessage, IsNewTo}
use Rattle.ndc_model_cells.specs.Places.{is_of}
use Rattle.ndc_model_cells.specs.Workflow.{WorkflowValue, workflow_of}
use Rattle.ndc_model_cells.specs.declared.message.Message.{Message}
use Rattle.ndc_model_cells.specs.declared.place.Place.{Place}
use Rattle.ndc_model_sets.proofs.BranchLemmas.{has-among}
use Rattle.ndc_model_sets.proofs.LearnedLemmas.{closed_whole, learned_closed}
use Rattle.ndc_model_sets.proofs.Lists.{Among, all-among, all-from, among-filter, filter-among}
use Rattle.ndc_model_sets.proofs.SetLemmas.{at-first, found-has, found-key}
use Rattle.ndc_model_sets.proofs.SoundLemmas.{parent-alone}
use Rattle.ndc_model_sets.specs.Learned.{has_key, learned}
use Rattle.ndc_model_sets.specs.Sets.{Has, IsSet, PointsBack, batch_at, earlier, earlier_of}
use Rattle.ndc_model_sets.specs.Sound.{IsSound}
use Rattle.ndc_shard.proofs.SentLemmas.{at-place}
use Rattle.ndc_shard.proofs.StayLemmas.{key-stays}
use Rattle.ndc_shard.specs.Sent.{AreSent, HasCarrier, IsSent, is_lone, messages_at}
use Rattle.ndc_shard.specs.Shards.{having_written}
use Rattle.ndc_shard_waiting.proofs.FreeLemmas.{all-there}
use Rattle.ndc_shard_waiting.proofs.KeptLemmas.{both-back, precede-none}
use Rattle.ndc_shard_waiting.proofs.LearnLemmas.{all-found, with-found, with-set}
use Rattle.ndc_shard_waiting.proofs.OrderLemmas.{all-back, all-front, all-two, rise-back, rise-precede}
use Rattle.ndc_shard_waiting.specs.Learning.{ArePutOff, with_message, with_messages}
use Rattle.ndc_shard_waiting.specs.Waiting.{CanWait}
use Rattle.ndc_shard_workflows.proofs.AdmittedLemmas.{admitted-lone, all-known}
use Rattle.ndc_shard_workflows.proofs.ForgetLemmas.{forgotten-learned, named_batch}
use Rattle.ndc_shard_workflows.proofs.OwnLemmas.{all-filtered}
use Rattle.ndc_shard_workflows.proofs.SameLemmas.{names-of}
use Rattle.ndc_shard_workflows.specs.Admitting.{IsLone}
use Rattle.ndc_shard_workflows.specs.Arriving.{AreArriving, ComesFrom}
use Rattle.ndc_shard_workflows.specs.Forgetting.{IsForgotten}
use Rattle.ndc_shard_workflows.specs.Messages.{own_message_of}
use Rattle.ndc_shard_workflows.specs.Terms.{TermsValue}
use Rattle.ndc_shard_workflows.specs.Workflow.{IsWorkflow, beside}
use Rattle.ndc_shard_workflows.specs.Workflows.{IsAdmittedTo, IsHandedTo, OthersStay}
use Rattle.ndc_shard_workflows.specs.declared.admission.Admission.{Admission}
use Rattle.ndc_shard_workflows.specs.declared.admission.Admission.TheVariants as admission
use Rattle.ndc_shard_workflows.specs.declared.admission.NotAdmitted.TheVariants as refused

-- ---- carried batches of a workflow

-- each batch that another one carries stands beside that, which none carries
abbrev Carried : List Batch → Type 0
Carried all = (b : Batch) → Has all b → IfSome b.carrier (λ key. is_lone (batch_at key all) ≡ true)

-- a message arrives that is new
module _ (all : List Batch) (set : IsSet all) (sent : Message) (message : IsMessage sent) (lone : IsLone sent) (new : IsNewTo all sent) where
  found : (key : BatchKey) → batch_at key (with_message sent all) ≡ option_or (batch_at key all) (batch_at key (both sent))
  found key = with-found sent all key set message.back

  lone-stays : (key : BatchKey) → is_lone (batch_at key all) ≡ true → is_lone (batch_at key (with_message sent all)) ≡ true
  lone-stays key h = ap is_lone (found key) ∙ by (batch_at key all) h
    where
      by : (o : Option Batch) → is_lone o ≡ true → is_lone (option_or o (batch_at key (both sent))) ≡ true
      by None h = absurd (true≢false (sym h))
      by (Some b) h = h

  first-lone : is_lone (batch_at sent.batch.key (with_message sent all)) ≡ true
  first-lone =
      ap is_lone (found sent.batch.key ∙ ap (λ o. option_or o (batch_at sent.batch.key (both sent))) new.0 ∙ at-first sent.batch (option_to_list sent.second))
      ∙ ap (λ o. not (is_some o)) lone

  pub carried-with : Carried all → Carried (with_message sent all)
  carried-with carried b has = by (batch_at b.key all) refl
    where
      own : (x : Batch) → Among x (both sent) → IfSome x.carrier (λ key. is_lone (batch_at key (with_message sent all)) ≡ true)
      own x among = all-among (λ (y : Batch). IfSome y.carrier (λ key. is_lone (batch_at key (with_message sent all)) ≡ true)) (both sent) x (first, second sent.second message.second) among
        where
          first : IfSome sent.batch.carrier (λ key. is_lone (batch_at key (with_message sent all)) ≡ true)
          first = subst (λ (o : Option BatchKey). IfSome o (λ key. is_lone (batch_at key (with_message sent all)) ≡ true)) (sym lone) tt

          second : (o : Option Batch) → IfSome o (IsCarriedBy sent.batch) → AllByRecursion (λ (y : Batch). IfSome y.carrier (λ key. is_lone (batch_at key (with_message sent all)) ≡ true)) (option_to_list o)
          second None is = tt
          second (Some s) is = (subst (λ (o : Option BatchKey). IfSome o (λ key. is_lone (batch_at key (with_message sent all)) ≡ true)) (sym is.carrier) first-lone, tt)

      old : (o : Option BatchKey) → IfSome o (λ key. is_lone (batch_at key all) ≡ true) → IfSome o (λ key. is_lone (batch_at key (with_message sent all)) ≡ true)
      old None h = tt
      old (Some key) h = lone-stays key h

      by : (o : Option Batch) → batch_at b.key all ≡ o → IfSome b.carrier (λ key. is_lone (batch_at key (with_message sent all)) ≡ true)
      by (Some x) e =
          let same : Some b ≡ Some x = sym has ∙ found b.key ∙ ap (λ o. option_or o (batch_at b.key (both sent))) e in
          let is : b ≡ x = cc in
          old b.carrier (carried b (e ∙ ap Some (sym is)))
      by None e =
          let at : Some b ≡ batch_at b.key (both sent) = sym has ∙ found b.key ∙ ap (λ o. option_or o (batch_at b.key (both sent))) e in
          own b (has-among (both sent) b (sym at))

-- messages arrive one after the other
pub carried-comes : (messages : List Message) (all : List Batch) → IsSet all → AreArriving all messages → Carried all → Carried (with_messages messages all)
carried-comes [] all set are carried = carried
carried-comes (sent ∷ messages) all set are carried =
    carried-comes messages (with_message sent all) (with-set sent all set (both-back sent are.0.0)) are.1 (carried-with all set sent are.0.0 are.0.1 are.0.2 carried)

-- the message of a key that is there is the same then
pub key-comes : (messages : List Message) (all : List Batch) → IsSet all → AreArriving all messages → (key : BatchKey) → is_some (own_message_of all (batch_at key (learned all))) ≡ true
    → own_message_of (with_messages messages all) (batch_at key (learned (with_messages messages all))) ≡ own_message_of all (batch_at key (learned all))
key-comes [] all set are key some = refl
key-comes (sent ∷ messages) all set are key some =
    let one = key-stays all set sent are.0.0 are.0.1 are.0.2 key some in
    key-comes messages (with_message sent all) (with-set sent all set (both-back sent are.0.0)) are.1 key (ap is_some one ∙ some) ∙ one

set-comes : (messages : List Message) (all : List Batch) → IsSet all → AreArriving all messages → IsSet (with_messages messages all)
set-comes [] all set are = set
set-comes (sent ∷ messages) all set are = set-comes messages (with_message sent all) (with-set sent all set (both-back sent are.0.0)) are.1

-- what waits can arrive so beside what is learned
waiting-arrives : (waiting : List Message) (known : List Batch) → IsSet known → AllByRecursion CanWait waiting → AllByRecursion IsLone waiting → IsSet (batches_of waiting) → AllByRecursion (λ b. batch_at b.key known ≡ None) (batches_of waiting)
    → AreArriving known waiting
waiting-arrives [] known set can lone rise apart = tt
waiting-arrives (sent ∷ waiting) known set can lone rise apart = (
  (can.0.message, lone.0, new),
  waiting-arrives waiting (with_message sent known) (with-set sent known set (both-back sent can.0.message)) can.1 lone.1
      (record { ordered = rise-back (both sent) (batches_of waiting) rise.ordered; back = all-back PointsBack (both sent) (batches_of waiting) rise.back })
      (all-two (λ (b : Batch). batch_at b.key known ≡ None) (λ b. batch_at b.key (both sent) ≡ None) (λ b. batch_at b.key (with_message sent known) ≡ None)
      (λ b e f. with-found sent known b.key set can.0.message.back ∙ ap (λ o. option_or o (batch_at b.key (both sent))) e ∙ f) (batches_of waiting)
      (all-back (λ (b : Batch). batch_at b.key known ≡ None) (both sent) (batches_of waiting) apart) (precede-none (both sent) (batches_of waiting) (rise-precede (both sent) (batches_of waiting) rise.ordered))),
)
  where
    new : IsNewTo known sent
    new = all-front (λ (b : Batch). batch_at b.key known ≡ None) (both sent) (batches_of waiting) apart

off-arrives : (known : List Batch) (waiting : List Message) → ArePutOff known waiting → AllByRecursion IsLone waiting → AreArriving known waiting
off-arrives known waiting are lone = waiting-arrives waiting known are.set are.messages.each lone are.messages.set are.apart

-- ---- one workflow, before and after

module _ (before after : WorkflowValue) (is : IsWorkflow before) (then_is : IsWorkflow after) (sound : IsSound (learned before.arrived)) (lone : AllByRecursion IsLone before.waiting)
    (lone_then : AllByRecursion IsLone after.waiting) (comes : ComesFrom (learned before.arrived) (learned after.arrived)) where
  abbrev known : List Batch
  known = learned before.arrived

  abbrev known_then : List Batch
  known_then = learned after.arrived

  waits : AreArriving known before.waiting
  waits = off-arrives known before.waiting is.apart lone

  waits-then : AreArriving known_then after.waiting
  waits-then = off-arrives known_then after.waiting then_is.apart lone_then

  before-is : before.arrived ≡ with_messages before.waiting known
  before-is = ap (λ (w : WorkflowValue). w.arrived) is.parts

  after-is : after.arrived ≡ with_messages after.waiting known_then
  after-is = ap (λ (w : WorkflowValue). w.arrived) then_is.parts

  in-known : (b : Batch) → Has known b → Has before.arrived b
  in-known b has = ap (batch_at b.key) before-is ∙ all-found before.waiting known b.key is.apart.set is.apart.messages.set.back ∙ ap (λ o. option_or o (batch_at b.key (batches_of before.waiting))) has

  -- what is learned stands beside its carrier
  carried-known : Carried before.arrived → Carried known
  carried-known carried b has = by b.carrier refl (carried b (in-known b has))
    where
      at : (key : BatchKey) (o : Option Batch) → batch_at key known ≡ o → is_some o ≡ true → is_lone (batch_at key before.arrived) ≡ true → is_lone (batch_at key known) ≡ true
      at key None e some h = absurd (true≢false (sym some))
      at key (Some c) e some h =
          let named : c.key ≡ key = found-key known key c e in
          let there : batch_at key before.arrived ≡ Some c = ap (λ (k : BatchKey). batch_at k before.arrived) (sym named) ∙ in-known c (found-has known key c e) in
          ap is_lone e ∙ sym (ap is_lone there) ∙ h

      top : (o : Option BatchKey) → b.parent ≡ o → (key : BatchKey) → b.carrier ≡ Some key → earlier b ≡ Some key
      top None p key e = ap (λ o. earlier_of o b.carrier) p ∙ e
      top (Some parent) p key e = absurd (parent-alone b parent key (sound.faultless b has) p e)

      by : (o : Option BatchKey) → b.carrier ≡ o → IfSome o (λ key. is_lone (batch_at key before.arrived) ≡ true) → IfSome o (λ key. is_lone (batch_at key known) ≡ true)
      by None e h = tt
      by (Some key) e h = at key (batch_at key known) refl (ap (λ o. has_key o known) (sym (top b.parent refl key e)) ∙ is.apart.closed b has) h

  pub carried-then : Carried before.arrived → Carried after.arrived
  carried-then carried =
      subst Carried (sym after-is) (carried-comes after.waiting known_then then_is.apart.set waits-then
      (subst Carried (sym comes.is) (carried-comes comes.messages known is.apart.set comes.are (carried-known carried))))

  -- the message of what is learned, as what is learned alone has it
  some-known : (key : BatchKey) → is_some (own_message_of before.arrived (batch_at key known)) ≡ true → is_some (own_message_of known (batch_at key (learned known))) ≡ true
  some-known key some = ap (λ (l : List Batch). is_some (own_message_of known (batch_at key l))) (closed_whole known is.apart.set is.apart.closed) ∙ by (batch_at key known) some
    where
      carrier-by : (b : Batch) (o : Option BatchKey) → b.carrier ≡ o → is_some (own_message known before.arrived b) ≡ true → is_some (own_message (learned known) known b) ≡ true
      carrier-by b None e h = ap (λ (c : Option BatchKey). is_some (if is_some c then None else Some (Rattle.ndc_model_cells.specs.Cells.message_of (learned known) known b))) e
      carrier-by b (Some key) e h = absurd (true≢false (sym h ∙ ap (λ (c : Option BatchKey). is_some (if is_some c then None else Some (Rattle.ndc_model_cells.specs.Cells.message_of known before.arrived b))) e))

      by : (o : Option Batch) → is_some (own_message_of before.arrived o) ≡ true → is_some (own_message_of known o) ≡ true
      by None h = h
      by (Some b) h = carrier-by b b.carrier refl h

  pub message-then : (key : BatchKey) → is_some (own_message_of before.arrived (batch_at key (learned before.arrived))) ≡ true
      → own_message_of after.arrived (batch_at key (learned after.arrived)) ≡ own_message_of before.arrived (batch_at key (learned before.arrived))
  message-then key some =
      let base = some-known key some in
      let old = key-comes before.waiting known is.apart.set waits key base in
      let more = key-comes comes.messages known is.apart.set comes.are key base in
      let last = key-comes after.waiting known_then then_is.apart.set waits-then key (subst (λ (l : List Batch). is_some (own_message_of l (batch_at key (learned l))) ≡ true) (sym comes.is) (ap is_some more ∙ base)) in
      ap (λ (l : List Batch). own_message_of l (batch_at key (learned l))) after-is ∙ last
      ∙ ap (λ (l : List Batch). own_message_of l (batch_at key (learned l))) comes.is ∙ more
      ∙ sym (ap (λ (l : List Batch). own_message_of l (batch_at key (learned l))) before-is ∙ old)

-- ---- a cell, before and after

-- what waits in a workflow is carried by none
pub lone-of : (places : List Place) (cell : Cell) → AreSent places cell → (d w : Name) → AllByRecursion IsLone (workflow_of d w cell).waiting
lone-of places cell are d w = all-from IsLone (workflow_of d w cell).waiting (λ m among. all-among IsLone cell.waiting m are.lone (filter-among (λ (x : Message). is_of d w x.batch) cell.waiting m among).1)

-- in the workflow of a batch what is learned came from what was learned, what waits there is carried by none, and each other workflow is as it was
module _ (b : Batch) (old new : Cell) (grows : ComesFrom (learned_of b.domain b.workflow old) (learned_of b.domain b.workflow new)) (others : OthersStay b old new)
    (own_lone : AllByRecursion IsLone (workflow_of b.domain b.workflow new).waiting) (is : IsCell old) (then_is : IsCell new)
    (workflows : (d w : Name) → IsWorkflow (workflow_of d w old)) (workflows_then : (d w : Name) → IsWorkflow (workflow_of d w new)) (sound : IsSound (learned_of b.domain b.workflow old)) (places : List Place) (are : AreSent places old) where
  lone-in : (d w : Name) → AllByRecursion IsLone (workflow_of d w old).waiting
  lone-in = lone-of places old are

  -- of a workflow, by whether it is the batch's
  by-workflow : (P : WorkflowValue → WorkflowValue → Type 0) (d w : Name) → P (workflow_of b.domain b.workflow old) (workflow_of b.domain b.workflow new)
      → ((v : WorkflowValue) → workflow_of d w old ≡ v → P v v) → P (workflow_of d w old) (workflow_of d w new)
  by-workflow P d w own other = by (is_of d w b) refl
    where
      by : (t : Bool) → is_of d w b ≡ t → P (workflow_of d w old) (workflow_of d w new)
      by true e =
          let names = names-of d w b e in
          subst (λ (n : Name). P (workflow_of n w old) (workflow_of n w new)) names.0 (subst (λ (n : Name). P (workflow_of b.domain n old) (workflow_of b.domain n new)) names.1 own)
      by false e = subst (P (workflow_of d w old)) (sym (others d w e)) (other (workflow_of d w old) refl)

  carried-in : (d w : Name) → Carried (arrived_of d w old)
  carried-in d w x has =
      let p = filter-among (is_of d w) old.arrived x (has-among (arrived_of d w old) x has) in
      let names = names-of d w x p.0 in
      subst (λ (n : Name). IfSome x.carrier (λ key. is_lone (batch_at key (arrived_of n w old)) ≡ true)) names.0
      (subst (λ (n : Name). IfSome x.carrier (λ key. is_lone (batch_at key (arrived_of x.domain n old)) ≡ true)) names.1 (all-among (HasCarrier old) old.arrived x are.carried p.1))

  carried-new : (d w : Name) → Carried (arrived_of d w new)
  carried-new d w =
      by-workflow (λ x y. Carried x.arrived → Carried y.arrived) d w
      (carried-then (workflow_of b.domain b.workflow old) (workflow_of b.domain b.workflow new) (workflows b.domain b.workflow)
      (workflows_then b.domain b.workflow) sound (lone-in b.domain b.workflow) own_lone grows)
      (λ v e carried. carried) (carried-in d w)

  place-stays : (place : Place) → IsSent old place → message_at new place ≡ message_at old place
  place-stays place is_sent =
      sym (at-place new place)
      ∙ by-workflow (λ x y. is_some (own_message_of x.arrived (batch_at place.key (learned x.arrived))) ≡ true
      → own_message_of y.arrived (batch_at place.key (learned y.arrived)) ≡ own_message_of x.arrived (batch_at place.key (learned x.arrived))) place.domain place.workflow
      (message-then (workflow_of b.domain b.workflow old) (workflow_of b.domain b.workflow new) (workflows b.domain b.workflow)
      (workflows_then b.domain b.workflow) sound (lone-in b.domain b.workflow) own_lone grows place.key)
      (λ v e some. refl) (ap is_some (at-place old place) ∙ is_sent)
      ∙ at-place old place

  pub others-messages : (list : List Place) → AllByRecursion (IsSent old) list → messages_at list new ≡ messages_at list old
  others-messages [] all = refl
  others-messages (place ∷ list) all =
      ap (λ (o : Option Message). cons_option o (messages_at list new)) (place-stays place all.0) ∙ ap (λ (ms : List Message). cons_option (message_at old place) ms) (others-messages list all.1)

  sent-then : (list : List Place) → AllByRecursion (IsSent old) list → AllByRecursion (IsSent new) list
  sent-then [] all = tt
  sent-then (place ∷ list) all = (ap is_some (place-stays place all.0) ∙ all.0, sent-then list all.1)

  pub others-sent : AreSent places new
  others-sent = record {
    sent = sent-then places are.sent;
    carried = all-from (HasCarrier new) new.arrived (λ x among. carried-new x.domain x.workflow x (there x among));
    lone = all-from IsLone new.waiting (λ m among. lone-there m (among-filter (λ (x : Message). is_of m.batch.domain m.batch.workflow x.batch) new.waiting m (own-names m.batch) among));
  }
    where
      there : (x : Batch) → Among x new.arrived → Has (arrived_of x.domain x.workflow new) x
      there x among =
          all-among (λ (y : Batch). Has (arrived_of x.domain x.workflow new) y) (arrived_of x.domain x.workflow new) x
          (all-there (arrived_of x.domain x.workflow new) (set_of_workflow x.domain x.workflow new then_is).ordered) (among-filter (is_of x.domain x.workflow) new.arrived x (own-names x) among)

      lone-there : (m : Message) → Among m (workflow_of m.batch.domain m.batch.workflow new).waiting → IsLone m
      lone-there m among = all-among IsLone (workflow_of m.batch.domain m.batch.workflow new).waiting m
          (by-workflow (λ x y. AllByRecursion IsLone x.waiting → AllByRecursion IsLone y.waiting) m.batch.domain m.batch.workflow (λ _. own_lone) (λ v e all. all) (lone-in m.batch.domain m.batch.workflow)) among

-- nothing changed, or the message was handed to its workflow
told-cases : (terms : TermsValue) (sent : Message) (told : Admission) (old new : Cell) → IsAdmittedTo terms sent told old new → (new ≡ old) ⊎ IsHandedTo terms sent told old new
told-cases terms sent (admission.Refused (refused.Fault fault)) old new it = inl it.1
told-cases terms sent (admission.Refused refused.OwnVersion) old new it = inr it.1
told-cases terms sent (admission.Refused refused.OwnOrigin) old new it = inr it.1
told-cases terms sent (admission.Refused (refused.Rival key waits)) old new it = inr it.1
told-cases terms sent (admission.Refused refused.History) old new it = inr it.1
told-cases terms sent (admission.Refused (refused.Misfit why)) old new it = inr it.1
told-cases terms sent (admission.Refused refused.Full) old new it = inr it.1
told-cases terms sent admission.Known old new it = inr it.1
told-cases terms sent (admission.PutOff missing) old new it = inr it.1
told-cases terms sent (admission.Learned batches aside) old new it = inr it.1

module _ (terms : TermsValue) (sent : Message) (told : Admission) (old new : Cell) (admitted : IsAdmittedTo terms sent told old new) (is : IsCell old) (then_is : IsCell new)
    (workflows : (d w : Name) → IsWorkflow (workflow_of d w old)) (workflows_then : (d w : Name) → IsWorkflow (workflow_of d w new)) (sound : (d w : Name) → IsSound (learned_of d w old)) (places : List Place) (are : AreSent places old) where
  own-lone : IsHandedTo terms sent told old new → AllByRecursion IsLone (workflow_of sent.batch.domain sent.batch.workflow new).waiting
  own-lone handed =
      admitted-lone terms sent told (workflow_of sent.batch.domain sent.batch.workflow old) (workflow_of sent.batch.domain sent.batch.workflow new) handed.own
      (lone-of places old are sent.batch.domain sent.batch.workflow)

  pub told-sent : AreSent places new
  told-sent = by (told-cases terms sent told old new admitted)
    where
      by : (new ≡ old) ⊎ IsHandedTo terms sent told old new → AreSent places new
      by (inl same) = subst (AreSent places) (sym same) are
      by (inr handed) = others-sent sent.batch old new handed.grows handed.others (own-lone handed) is then_is workflows workflows_then (sound sent.batch.domain sent.batch.workflow) places are

  pub told-messages : messages_at places new ≡ messages_at places old
  told-messages = by (told-cases terms sent told old new admitted)
    where
      by : (new ≡ old) ⊎ IsHandedTo terms sent told old new → messages_at places new ≡ messages_at places old
      by (inl same) = ap (messages_at places) same
      by (inr handed) = others-messages sent.batch old new handed.grows handed.others (own-lone handed) is then_is workflows workflows_then (sound sent.batch.domain sent.batch.workflow) places are places are.sent

-- what comes of a message at a shard, which is seen as its workflows with what it has written
pub told-having : (terms : TermsValue) (sent : Message) (told : Admission) (old new : Cell) (before after : List Message) → after ≡ before → IsAdmittedTo terms sent told old new
    → IsAdmittedTo terms sent told (having_written before old) (having_written after new)
told-having terms sent (admission.Refused (refused.Fault fault)) old new before after same it = (it.0, λ i. having_written (same i) (it.1 i))
told-having terms sent (admission.Refused refused.OwnVersion) old new before after same it = (it.0, record { own = it.1.own; grows = it.1.grows; others = it.1.others })
told-having terms sent (admission.Refused refused.OwnOrigin) old new before after same it = (it.0, record { own = it.1.own; grows = it.1.grows; others = it.1.others })
told-having terms sent (admission.Refused (refused.Rival key waits)) old new before after same it = (it.0, record { own = it.1.own; grows = it.1.grows; others = it.1.others })
told-having terms sent (admission.Refused refused.History) old new before after same it = (it.0, record { own = it.1.own; grows = it.1.grows; others = it.1.others })
told-having terms sent (admission.Refused (refused.Misfit why)) old new before after same it = (it.0, record { own = it.1.own; grows = it.1.grows; others = it.1.others })
told-having terms sent (admission.Refused refused.Full) old new before after same it = (it.0, record { own = it.1.own; grows = it.1.grows; others = it.1.others })
told-having terms sent admission.Known old new before after same it = (it.0, record { own = it.1.own; grows = it.1.grows; others = it.1.others })
told-having terms sent (admission.PutOff missing) old new before after same it = (it.0, record { own = it.1.own; grows = it.1.grows; others = it.1.others })
told-having terms sent (admission.Learned batches aside) old new before after same it = (it.0, record { own = it.1.own; grows = it.1.grows; others = it.1.others })

-- ---- a message that is put off is dropped

module _ (domain workflow : Name) (key : BatchKey) (old new : Cell) (it : IsForgotten domain workflow key old new) (is : IsCell old) (then_is : IsCell new)
    (workflows : (d w : Name) → IsWorkflow (workflow_of d w old)) (workflows_then : (d w : Name) → IsWorkflow (workflow_of d w new)) (sound : IsSound (learned_of domain workflow old)) (places : List Place) (are : AreSent places old) where
  grows-none : ComesFrom (learned_of domain workflow old) (learned_of domain workflow new)
  grows-none = record { messages = []; are = tt; is = forgotten-learned domain workflow key old new it (workflows domain workflow) domain workflow }

  lone-then : AllByRecursion IsLone (workflow_of domain workflow new).waiting
  lone-then = subst (λ (w : WorkflowValue). AllByRecursion IsLone w.waiting) (sym it.own) (all-filtered IsLone _ (workflow_of domain workflow old).waiting (lone-of places old are domain workflow))

  pub forgotten-sent : AreSent places new
  forgotten-sent = others-sent (named_batch domain workflow key) old new grows-none it.others lone-then is then_is workflows workflows_then sound places are

  pub forgotten-messages : messages_at places new ≡ messages_at places old
  forgotten-messages = others-messages (named_batch domain workflow key) old new grows-none it.others lone-then is then_is workflows workflows_then sound places are places are.sent

-- the same of a shard, which is seen as its workflows with what it has written
pub forgotten-having : (domain workflow : Name) (key : BatchKey) (old new : Cell) (before after : List Message) → IsForgotten domain workflow key old new
    → IsForgotten domain workflow key (having_written before old) (having_written after new)
forgotten-having domain workflow key old new before after it = record { own = it.own; others = it.others }
