-- Honest messages are admitted as they arrive.
use Rattle.std.proofs.Common.{◌≡◌, ◌≤◌, ◌^◌, Bool, true, false, not, ◌&&◌, is_some, List, [], ◌∷◌, Option, Some, None, IfSome, IsOk, Result, Ok, Err, ◌⊎◌, inl, inr, refl, sym, ◌∙◌, subst, ap, true≢false, if◌then◌else◌, arith}
use Rattle.std.specs.Prelude.{option_to_list}
use Rattle.std.specs.Option.{option_or}
use Rattle.std.specs.List.{AllByRecursion}
use Rattle.std.proofs.lemmas.Bool.{and_from}
use Rattle.ndc_admission.proofs.EndLemmas.{set_history_ends}
use Rattle.ndc_admission.specs.History.{history_ends}
use Rattle.ndc_admission.proofs.MadeLemmas.{made_message, made_small}
use Rattle.ndc_event.specs.Batch.{fault_of}
use Rattle.ndc_event.specs.Key.{key_eq}
use Rattle.ndc_event.specs.declared.batch.Batch.{Batch}
use Rattle.ndc_event.specs.declared.key.BatchKey.{BatchKey}
use Rattle.ndc_laws_admission.specs.Honest.{IsHonest}
use Rattle.ndc_model_cells.specs.Cells.{both}
use Rattle.ndc_model_cells.specs.Messages.{IsMessage, IsNewTo}
use Rattle.ndc_model_cells.specs.Workflow.{WorkflowValue}
use Rattle.ndc_model_cells.specs.declared.message.Message.{Message}
use Rattle.ndc_model_sets.proofs.BranchLemmas.{has-among}
use Rattle.ndc_model_sets.proofs.KeyLemmas.{same-keys}
use Rattle.ndc_model_sets.proofs.LearnedLemmas.{learned-reaches, learned_closed, reaches-has}
use Rattle.ndc_model_sets.proofs.Lists.{Among, all-among}
use Rattle.ndc_model_sets.proofs.SetLemmas.{found-key}
use Rattle.ndc_model_sets.proofs.SoundLemmas.{part_is_sound}
use Rattle.ndc_model_sets.specs.Learned.{has_key, learned, IsPart}
use Rattle.ndc_model_sets.specs.Sets.{Has, IsSet, batch_at, earlier}
use Rattle.ndc_model_sets.specs.Sound.{IsSound}
use Rattle.ndc_shard_waiting.proofs.KeptLemmas.{both-back}
use Rattle.ndc_shard_waiting.proofs.LearnLemmas.{set-all, with-found, with-set}
use Rattle.ndc_shard_waiting.specs.Learning.{with_message, with_messages}
use Rattle.ndc_shard_workflows.proofs.FreedLemmas.{freed-with}
use Rattle.ndc_shard_workflows.proofs.HonestLemmas.{all-settle, new-fits}
use Rattle.ndc_shard_workflows.specs.Admitting.{HasSmallTask, IsAdmitted, IsNew, IsRefused, Settling, fit_message, is_faultless, is_second_faultless, is_whole, settled_with}
use Rattle.ndc_shard_workflows.specs.Terms.{HasNoRival, HasRival, IsForeign, IsKnown, TermsValue}
use Rattle.ndc_shard_workflows.specs.Workflow.{IsWorkflow, after_arrival, beside, has_arrived, workflow_with}
use Rattle.ndc_shard_workflows.specs.declared.admission.Admission.{Admission}
use Rattle.ndc_shard_workflows.specs.declared.admission.Admission.TheVariants as admission
use Rattle.ndc_shard_workflows.specs.declared.admission.NotAdmitted.{NotAdmitted}
use Rattle.ndc_shard_workflows.specs.declared.admission.NotAdmitted.TheVariants as refused

module _ (terms : TermsValue) (all : List Batch) (sent : Message) (before after : WorkflowValue) (is : IsWorkflow before) (known_sound : IsSound (learned before.arrived)) (honest : IsHonest terms all sent before) where
  abbrev known : List Batch
  known = learned before.arrived

  message : IsMessage sent
  message = made_message sent terms.clusters honest.made

  -- what has arrived is a set
  arrived-set : IsSet before.arrived
  arrived-set = subst (λ (w : WorkflowValue). IsSet w.arrived) (sym is.parts) (set-all known before.waiting is.apart)

  -- batches of the set with one key are one
  same-batch : (key : BatchKey) (one two : Batch) → batch_at key before.arrived ≡ Some one → Has all two → two.key ≡ key → one ≡ two
  same-batch key one two at has named =
      let own : one.key ≡ key = found-key before.arrived key one at in
      let there : Has all one = honest.within one (ap (λ (k : BatchKey). batch_at k before.arrived) own ∙ at) in
      let clash : Some one ≡ Some two = sym there ∙ ap (λ (k : BatchKey). batch_at k all) (own ∙ sym named) ∙ has in
      cc

  alone-by : (b : Batch) → Has all b → (other : Batch) → batch_at b.key before.arrived ≡ Some other → other ≡ b
  alone-by b has other at = same-batch b.key other b at has refl

  -- where its batch has arrived, the message has
  known-by : (o : Option Batch) → batch_at sent.batch.key before.arrived ≡ o → is_some o ≡ true → IsKnown before.arrived sent
  known-by None at some = absurd (true≢false (sym some))
  known-by (Some x) at some =
      let same : x ≡ sent.batch = alone-by sent.batch honest.message.has x at in
      record { first = at ∙ ap Some same; second = seconds sent.second refl }
    where
      seconds : (o : Option Batch) → sent.second ≡ o → IfSome o (λ s. (other : Batch) → batch_at s.key before.arrived ≡ Some other → other ≡ s)
      seconds None e = tt
      seconds (Some s) e = λ other at. alone-by s (subst (λ (o : Option Batch). IfSome o (λ x. Has all x)) e (has-second sent.second honest.message.second)) other at
        where
          has-second : (o : Option Batch) → IfSome o (Rattle.ndc_model_cells.specs.Keeping.IsCarried all sent.batch) → IfSome o (λ x. Has all x)
          has-second None c = tt
          has-second (Some x) c = c.has

  is-known : has_key (Some sent.batch.key) before.arrived ≡ true → IsKnown before.arrived sent
  is-known h = known-by (batch_at sent.batch.key before.arrived) refl h

  -- it has no rival
  no-rival : (key : BatchKey) → HasRival before.arrived sent key → ⊥
  no-rival key rival = by (has_key (Some sent.batch.key) before.arrived) refl
    where
      second : (o : Option Batch) → IfSome o (λ s. has_key (Some s.key) before.arrived ≡ true → has_key (Some sent.batch.key) before.arrived ≡ true)
          → has_key (Some key) (sent.batch ∷ option_to_list o) ≡ true → (t : Bool) → key_eq sent.batch.key key ≡ t → has_key (Some sent.batch.key) before.arrived ≡ true
      second o with_first own true e = ap (λ (k : BatchKey). has_key (Some k) before.arrived) (same-keys sent.batch.key key e) ∙ rival.there
      second None with_first own false e = absurd (true≢false (sym own ∙ ap (λ (t : Bool). is_some (if t then Some sent.batch else None)) e))
      second (Some s) with_first own false e = with_first (by-key (key_eq s.key key) refl)
        where
          by-key : (t : Bool) → key_eq s.key key ≡ t → has_key (Some s.key) before.arrived ≡ true
          by-key true f = ap (λ (k : BatchKey). has_key (Some k) before.arrived) (same-keys s.key key f) ∙ rival.there
          by-key false f = absurd (true≢false (sym own ∙ ap (λ (t : Bool). is_some (if t then Some sent.batch else if key_eq s.key key then Some s else None)) e ∙ ap (λ (t : Bool). is_some (if t then Some s else None)) f))

      by : (t : Bool) → has_key (Some sent.batch.key) before.arrived ≡ t → ⊥
      by true e = rival.unknown (is-known e)
      by false e = true≢false (sym (second sent.second honest.with_first rival.own (key_eq sent.batch.key key) refl) ∙ e)

  -- it is whole
  whole : is_whole sent ≡ true
  whole =
      and_from (not (is_some sent.batch.carrier)) (is_faultless sent.batch && is_second_faultless sent.second) (ap (λ o. not (is_some o)) honest.made.lone)
      (and_from (is_faultless sent.batch) (is_second_faultless sent.second) (ap (λ o. not (is_some o)) honest.made.faultless.0) (by sent.second honest.made.faultless.1))
    where
      by : (o : Option Batch) → AllByRecursion (λ b. fault_of b ≡ None) (option_to_list o) → is_second_faultless o ≡ true
      by None none = refl
      by (Some s) none = ap (λ o. not (is_some o)) none.0

  small-tasks : AllByRecursion HasSmallTask (both sent)
  small-tasks = small-each (both sent) honest.made.tasks
    where
      small-each : (bs : List Batch) → AllByRecursion (λ b. b.key.task ≤ 10 ^ 11) bs → AllByRecursion HasSmallTask bs
      small-each [] few = tt
      small-each (b ∷ bs) few = (let f = few.0 in omega (arith, f), small-each bs few.1)

  -- what is learned with it is sound
  module _ (new : IsNewTo before.arrived sent) where
    with-part : IsPart (with_message sent before.arrived) all
    with-part b has = by (batch_at b.key before.arrived) refl (sym has ∙ with-found sent before.arrived b.key arrived-set message.back)
      where
        own : (x : Batch) → Among x (both sent) → Has all x
        own x among = all-among (Has all) (both sent) x (honest.message.has, seconds sent.second honest.message.second) among
          where
            seconds : (o : Option Batch) → IfSome o (Rattle.ndc_model_cells.specs.Keeping.IsCarried all sent.batch) → AllByRecursion (Has all) (option_to_list o)
            seconds None c = tt
            seconds (Some s) c = (c.has, tt)

        by : (o : Option Batch) → batch_at b.key before.arrived ≡ o → Some b ≡ option_or (batch_at b.key before.arrived) (batch_at b.key (both sent)) → Has all b
        by (Some x) e f =
            let same : Some b ≡ Some x = f ∙ ap (λ o. option_or o (batch_at b.key (both sent))) e in
            let is_x : b ≡ x = cc in
            honest.within b (e ∙ ap Some (sym is_x))
        by None e f = own b (has-among (both sent) b (sym (f ∙ ap (λ o. option_or o (batch_at b.key (both sent))) e)))

    then_set : IsSet (with_message sent before.arrived)
    then_set = with-set sent before.arrived arrived-set (both-back sent message)

    part-with : IsPart (learned (with_message sent before.arrived)) all
    part-with = λ b has. with-part b (reaches-has (with_message sent before.arrived) b (learned-reaches (with_message sent before.arrived) b then_set has))

    sound-with : IsSound (learned (with_message sent before.arrived))
    sound-with =
        let closed = learned_closed (with_message sent before.arrived) then_set in
        part_is_sound all (learned (with_message sent before.arrived)) honest.sound closed.0 closed.1 part-with

    -- new to what is learned and what waits
    new-beside : IsNewTo (with_messages before.waiting known) sent
    new-beside = subst (λ (w : WorkflowValue). IsNewTo w.arrived sent) is.parts new

    sound-beside : IsSound (learned (with_message sent (with_messages before.waiting known)))
    sound-beside = subst (λ (w : WorkflowValue). IsSound (learned (with_message sent w.arrived))) is.parts sound-with

    learned-part : IsPart (learned (with_message sent (with_messages before.waiting known))) all
    learned-part = subst (λ (w : WorkflowValue). IsPart (learned (with_message sent w.arrived)) all) is.parts part-with

    not-arrived : has_arrived sent.batch.key before ≡ false
    not-arrived = ap is_some new.0

    as-arrival : after ≡ workflow_with sent before → after ≡ after_arrival sent before
    unfolding after_arrival
    as-arrival e = e ∙ sym (ap (λ t. if t then before else workflow_with sent before) not-arrived)

    module _ (reached : has_key (earlier sent.batch) known ≡ true) where
      fits : IsOk (fit_message known sent)
      fits =
          new-fits known before.waiting is.apart sent message new-beside reached (made_small sent terms.clusters honest.made) honest.bounds.ids known_sound sound-beside honest.made.lone honest.bounds.lone
          honest.bounds.tasks small-tasks honest.bounds.waiting_tasks all honest.sound learned-part honest.message.history honest.histories

      no-refusal : (why : NotAdmitted) → fit_message known sent ≡ Err why → ⊥
      no-refusal why e = absurd-ok (fit_message known sent) fits e
        where
          absurd-ok : {X : Type 0} (r : Result X NotAdmitted) → IsOk r → r ≡ Err why → ⊥
          absurd-ok (Ok x) ok f = absurd (cc)
          absurd-ok (Err x) ok f = absurd (cc)

      learned-as : after ≡ beside (settled_with sent known before.waiting).known (settled_with sent known before.waiting).waiting → after ≡ after_arrival sent before
      learned-as e =
          as-arrival (e
          ∙ ap (λ (s : Settling). beside s.known s.waiting)
          (all-settle known before.waiting is.apart sent message new-beside reached (made_small sent terms.clusters honest.made) honest.bounds.ids known_sound sound-beside honest.made.lone honest.bounds.lone
          honest.bounds.tasks small-tasks honest.bounds.waiting_tasks all honest.sound learned-part honest.message.history honest.histories)
          ∙ freed-with known before.waiting is.apart sent message new-beside reached ∙ ap (workflow_with sent) (sym is.parts))

  known-as : IsKnown before.arrived sent → after ≡ before → after ≡ after_arrival sent before
  unfolding after_arrival
  known-as known_is e = e ∙ sym (ap (λ t. if t then before else workflow_with sent before) (ap is_some known_is.first))

  pub admitted-as : (told : Admission) → IsAdmitted terms sent told before after → after ≡ after_arrival sent before
  admitted-as (admission.Refused (refused.Fault fault)) it = absurd (it.0)
  admitted-as (admission.Refused refused.OwnVersion) it = absurd (true≢false (sym it.0 ∙ honest.foreign.version))
  admitted-as (admission.Refused refused.OwnOrigin) it = absurd (true≢false (sym it.0.1 ∙ honest.foreign.origins))
  admitted-as (admission.Refused (refused.Rival key waits)) it = absurd (no-rival key it.0.1)
  admitted-as (admission.Refused refused.History) it = absurd (by it.0)
    where
      by : (IsForeign terms known sent × HasNoRival before.arrived sent × (history_ends sent ≡ false)) ⊎ (IsNew terms sent before × IsRefused sent refused.History before) → ⊥
      by (inl at) = true≢false (sym (set_history_ends all sent honest.sound honest.message) ∙ at.2)
      by (inr at) = no-refusal at.0.new (at.1.reached whole) refused.History at.1.why_is
  admitted-as (admission.Refused (refused.Misfit why)) it = absurd (no-refusal it.0.0.new (it.0.1.reached whole) (refused.Misfit why) it.0.1.why_is)
  admitted-as (admission.Refused refused.Full) it = absurd (true≢false (sym honest.room ∙ it.0.2))
  admitted-as admission.Known it = known-as it.1 it.3
  admitted-as (admission.PutOff missing) it = as-arrival it.0.new it.1.waits
  admitted-as (admission.Learned batches aside) it = learned-as it.0.new it.1.reached it.1.workflow_is
