-- What a message that nobody vouches for makes of a workflow.
use Rattle.std.proofs.Common.{◌≡◌, Bool, true, false, not, ◌&&◌, is_some, List, [], ◌∷◌, ◌++◌, Option, Some, None, IfSome, Result, Ok, Err, IsOk, refl, sym, ◌∙◌, subst, ap}
use Rattle.std.specs.Prelude.{option_to_list, if◌then◌else◌}
use Rattle.std.specs.Option.{option_or}
use Rattle.std.specs.List.{AllByRecursion}
use Rattle.std.proofs.lemmas.Bool.{and_parts}
use Rattle.ndc_admission.specs.History.{tells_path}
use Rattle.ndc_event.specs.declared.batch.Batch.{Batch}
use Rattle.ndc_event.specs.declared.key.BatchKey.{BatchKey}
use Rattle.ndc_event.specs.declared.name.Name.{Name}
use Rattle.ndc_model_cells.specs.Cells.{both}
use Rattle.ndc_model_cells.specs.Messages.{batches_of, HasSmallIds, IsMessage, IsNewTo}
use Rattle.ndc_model_cells.specs.Places.{is_of}
use Rattle.ndc_model_cells.specs.Workflow.{WorkflowValue}
use Rattle.ndc_model_cells.specs.declared.message.Message.{Message}
use Rattle.ndc_model_sets.specs.Learned.{has_key, learned, IsPart}
use Rattle.ndc_model_sets.specs.Sets.{Has, IsSet, batch_at, earlier}
use Rattle.ndc_model_sets.specs.Sound.{IsSound}
use Rattle.ndc_model_sets.proofs.BranchLemmas.{has-among}
use Rattle.ndc_model_sets.proofs.Lists.{all-among, all-from, all-join}
use Rattle.ndc_run.specs.Learning.{or_error}
use Rattle.ndc_run.specs.declared.answer.Learned.{Learned}
use Rattle.ndc_shard_runs.specs.Fitting.{fit_of}
use Rattle.ndc_shard_runs.specs.declared.misfit.Misfit.TheVariants.{IllFormed}
use Rattle.ndc_shard_workflows.specs.declared.admission.NotAdmitted.{NotAdmitted}
use Rattle.ndc_shard_workflows.specs.declared.admission.NotAdmitted.TheVariants as refused
use Rattle.ndc_shard_waiting.specs.Learning.{with_message, with_messages, ArePutOff}
use Rattle.ndc_shard_waiting.specs.Waiting.{freed, freed_by, kept_by, put_off, still_put_off}
use Rattle.ndc_shard_waiting.proofs.FreeLemmas.{all-there}
use Rattle.ndc_shard_waiting.proofs.FreedLemmas.{all-freed, batches-freed}
use Rattle.ndc_shard_waiting.proofs.LearnLemmas.{all-found, with-found, with-set}
use Rattle.ndc_shard_waiting.proofs.KeptLemmas.{both-back}
use Rattle.ndc_shard_waiting.proofs.OrderLemmas.{all-back, all-front, all-more}
use Rattle.ndc_shard_waiting.proofs.PutLemmas.{all-put, batches-put}
use Rattle.ndc_shard_workflows.specs.Admitting.{IsAdmitted, IsLone, Settling, fit_message, is_faultless, is_second_faultless, is_whole, settled, settled_one, settled_with, tried}
use Rattle.ndc_shard_workflows.specs.Arriving.{AreArriving, ComesFrom}
use Rattle.ndc_shard_workflows.specs.Settling.{CanSettle, IsSettled}
use Rattle.ndc_shard_workflows.specs.Terms.{TermsValue}
use Rattle.ndc_shard_workflows.specs.declared.admission.Admission.{Admission}
use Rattle.ndc_shard_workflows.specs.declared.admission.Admission.TheVariants as admission
use Rattle.ndc_shard_workflows.specs.declared.admission.SetAside.{SetAside}
use Rattle.ndc_shard_workflows.specs.Workflow.{IsWorkflow}
use Rattle.ndc_shard_workflows.specs.Workflows.{IsOwn}
use Rattle.ndc_shard_workflows.proofs.OwnLemmas.{all-arrived, all-filtered, all-second}
use Rattle.ndc_shard_workflows.proofs.PutOffLemmas.{new-to-known, new-to-waiting}
use Rattle.ndc_shard_workflows.proofs.SettleLemmas.{can-begin, settled-next}

-- ---- what holds of all batches

module _ (P : Batch → Type 0) where
  if-second : (o : Option Batch) → AllByRecursion P (option_to_list o) → IfSome o P
  if-second None all = tt
  if-second (Some b) all = all.0

  with-all : (sent : Message) (known : List Batch) → AllByRecursion P (both sent) → AllByRecursion P known → AllByRecursion P (with_message sent known)
  with-all sent known own all = all-second P sent.second _ (if-second sent.second own.1) (all-arrived P sent.batch known own.0 all)

  pub all-with : (messages : List Message) (known : List Batch) → AllByRecursion P (batches_of messages) → AllByRecursion P known → AllByRecursion P (with_messages messages known)
  all-with [] known each all = all
  all-with (sent ∷ messages) known each all =
      all-with messages (with_message sent known) (all-back P (both sent) (batches_of messages) each) (with-all sent known (all-front P (both sent) (batches_of messages) each) all)

  -- what holds of all that has arrived holds of what is learned, and of what waits
  module _ (known : List Batch) (waiting : List Message) (are : ArePutOff known waiting) (all : AllByRecursion P (with_messages waiting known)) where
    found : (key : BatchKey) → batch_at key (with_messages waiting known) ≡ option_or (batch_at key known) (batch_at key (batches_of waiting))
    found key = all-found waiting known key are.set are.messages.set.back

    of-has : (b : Batch) → Has (with_messages waiting known) b → P b
    of-has b has = all-among P (with_messages waiting known) b all (has-among (with_messages waiting known) b has)

    pub all-known : AllByRecursion P known
    all-known =
        all-more (λ b. Has known b) P (λ b has. of-has b (found b.key ∙ ap (λ o. option_or o (batch_at b.key (batches_of waiting))) has)) known (all-there known are.set.ordered)

    pub all-waiting : AllByRecursion P (batches_of waiting)
    all-waiting = all-from P (batches_of waiting) (λ b among. of-has b (found b.key
        ∙ ap (λ o. option_or o (batch_at b.key (batches_of waiting))) (all-among (λ x. batch_at x.key known ≡ None) (batches_of waiting) b are.apart among)
        ∙ all-among (λ x. batch_at x.key (batches_of waiting) ≡ Some x) (batches_of waiting) b (all-there (batches_of waiting) are.messages.set.ordered) among))

-- ---- messages that are gone over

-- one message is gone over, by three tests
abbrev went : Message → Settling → Bool → Bool → Result Learned NotAdmitted → Settling
went sent s t u r = if t then record s { learned = s.learned ++ sent ∷ [] } else if u then tried r sent s else record s { waiting = put_off sent s.waiting }

-- it holds of what is learned then, and of what waits
abbrev Hold : (Batch → Type 0) → Settling → Type 0
Hold P s = AllByRecursion P s.known × AllByRecursion P (batches_of s.waiting)

module _ (P : Batch → Type 0) where
  one-holds : (sent : Message) (s : Settling) → AllByRecursion P (both sent) → Hold P s → Hold P (settled_one sent s)
  one-holds sent s own hold = by (has_key (Some sent.batch.key) s.known) (has_key (earlier sent.batch) s.known) (fit_message s.known sent)
    where
      by : (t u : Bool) (r : Result Learned NotAdmitted) → Hold P (went sent s t u r)
      by true u r = hold
      by false true (Ok fits) = (with-all P sent s.known own hold.0, hold.1)
      by false true (Err why) = hold
      by false false r = (hold.0, batches-put P sent s.waiting own hold.1)

  pub settled-holds : (messages : List Message) (s : Settling) → AllByRecursion P (batches_of messages) → Hold P s → Hold P (settled messages s)
  settled-holds [] s each hold = hold
  settled-holds (sent ∷ messages) s each hold =
      settled-holds messages (settled_one sent s) (all-back P (both sent) (batches_of messages) each)
      (one-holds sent s (all-front P (both sent) (batches_of messages) each) hold)

-- the same of the messages that wait
module _ (Q : Message → Type 0) where
  one-waits : (sent : Message) (s : Settling) → Q sent → AllByRecursion Q s.waiting → AllByRecursion Q (settled_one sent s).waiting
  one-waits sent s own all = by (has_key (Some sent.batch.key) s.known) (has_key (earlier sent.batch) s.known) (fit_message s.known sent)
    where
      by : (t u : Bool) (r : Result Learned NotAdmitted) → AllByRecursion Q (went sent s t u r).waiting
      by true u r = all
      by false true (Ok fits) = all
      by false true (Err why) = all
      by false false r = all-put Q sent s.waiting own all

  pub settled-wait : (messages : List Message) (s : Settling) → AllByRecursion Q messages → AllByRecursion Q s.waiting → AllByRecursion Q (settled messages s).waiting
  settled-wait [] s each all = all
  settled-wait (sent ∷ messages) s each all = settled-wait messages (settled_one sent s) each.1 (one-waits sent s each.0 all)

-- ---- what is learned then came from what was learned by messages that arrived

lone-of : (o : Option BatchKey) → not (is_some o) ≡ true → o ≡ None
lone-of None e = refl
lone-of (Some key) e = absurd (cc)

-- what is whole is carried by none
pub whole-lone : (sent : Message) → is_whole sent ≡ true → IsLone sent
whole-lone sent e = lone-of sent.batch.carrier (and_parts (not (is_some sent.batch.carrier)) (is_faultless sent.batch && is_second_faultless sent.second) e).0

-- so is what fits
pub fit-lone : (known : List Batch) (sent : Message) → IsOk (fit_message known sent) → IsLone sent
fit-lone known sent ok = by (is_whole sent) refl ok
  where
    by : (t : Bool) → is_whole sent ≡ t
        → IsOk (if t then (if tells_path known sent then or_error refused.Misfit (fit_of known sent.batch sent.second) else Err refused.History) else Err (refused.Misfit IllFormed)) → IsLone sent
    by true e ok = whole-lone sent e
    by false e ok = absurd (cc)

comes-more : (known : List Batch) (sent : Message) (after : List Batch) → IsMessage sent → IsLone sent → IsNewTo known sent → ComesFrom (with_message sent known) after → ComesFrom known after
comes-more known sent after message lone new comes = record { messages = sent ∷ comes.messages; are = ((message, lone, new), comes.are); is = comes.is }

pub settled-comes : (messages : List Message) (known : List Batch) (waiting done : List Message) (aside : List SetAside) → CanSettle known waiting messages
    → ComesFrom known (settled messages (record { known = known; waiting = waiting; learned = done; aside = aside })).known
settled-comes [] known waiting done aside can = record { messages = []; are = tt; is = refl }
settled-comes (sent ∷ messages) known waiting done aside can =
    by (settled-comes messages) (has_key (Some sent.batch.key) known) refl (has_key (earlier sent.batch) known) (fit_message known sent) refl (settled-next known waiting sent messages can done aside)
  where
    by : ((k : List Batch) (w d : List Message) (a : List SetAside) → CanSettle k w messages → ComesFrom k (settled messages (record { known = k; waiting = w; learned = d; aside = a })).known)
        → (t : Bool) → has_key (Some sent.batch.key) known ≡ t → (u : Bool) (r : Result Learned NotAdmitted) → fit_message known sent ≡ r
        → CanSettle (went sent (record { known = known; waiting = waiting; learned = done; aside = aside }) t u r).known (went sent (record { known = known; waiting = waiting; learned = done; aside = aside }) t u r).waiting messages
        → ComesFrom known (settled messages (went sent (record { known = known; waiting = waiting; learned = done; aside = aside }) t u r)).known
    by rest true e u r f next = rest known waiting (done ++ sent ∷ []) aside next
    by rest false e true (Ok fits) f next =
        comes-more known sent (settled messages (went sent (record { known = known; waiting = waiting; learned = done; aside = aside }) false true (Ok fits))).known can.each.0.message
        (fit-lone known sent (subst IsOk (sym f) refl)) (can.each.0.fresh e) (rest (with_message sent known) waiting (done ++ sent ∷ []) aside next)
    by rest false e true (Err why) f next = rest known waiting done (aside ++ record { message = sent; cause = why } ∷ []) next
    by rest false e false r f next = rest known (put_off sent waiting) done aside next

pub come-same : (known after : List Batch) → after ≡ known → ComesFrom known after
come-same known after e = record { messages = []; are = tt; is = e }

-- a message that fits is learned, and what waited for it is gone over
module _ (known : List Batch) (waiting : List Message) (sent : Message) (are : ArePutOff known waiting) (message : IsMessage sent) (new : IsNewTo (with_messages waiting known) sent)
    (reached : has_key (earlier sent.batch) known ≡ true) (small : AllByRecursion HasSmallIds (both sent)) (all_small : AllByRecursion HasSmallIds (batches_of waiting)) where
  pub come-on : (x : Learned) → fit_message known sent ≡ Ok x → (told : Admission) (after first : List Batch) (rest : List Message) → first ≡ with_message sent known
      → IsSettled told (settled (freed sent waiting) (record { known = first; waiting = still_put_off sent waiting; learned = []; aside = [] })) after rest → ComesFrom known after
  come-on x fits told after first rest is end =
      comes-more known sent after message (fit-lone known sent (subst IsOk (sym fits) refl)) (new-to-known known waiting are sent new)
      (subst (ComesFrom (with_message sent known)) (sym (end.known_is ∙ ap (λ (k : List Batch). (settled (freed sent waiting) (record { known = k; waiting = still_put_off sent waiting; learned = []; aside = [] })).known) is))
      (settled-comes (freed sent waiting) (with_message sent known) (still_put_off sent waiting) [] []
      (can-begin known waiting sent are message (new-to-known known waiting are sent new) (new-to-waiting known waiting are sent new) reached small all_small)))

-- ---- a message is handed to a workflow

module _ (sent : Message) (known : List Batch) (waiting : List Message) where
  -- the messages that wait then, where it is learned
  pub learned-waits : (Q : Message → Type 0) → Q sent → AllByRecursion Q waiting → AllByRecursion Q (settled_with sent known waiting).waiting
  unfolding freed still_put_off
  learned-waits Q own all =
      settled-wait Q (sent ∷ freed_by (both sent) waiting) (record { known = with_message sent known; waiting = kept_by (both sent) waiting; learned = []; aside = [] })
      (own, (all-freed Q (both sent) waiting all).0) (all-freed Q (both sent) waiting all).1

  -- the batches that are learned then, and those that wait
  pub learned-holds : (P : Batch → Type 0) → AllByRecursion P (both sent) → AllByRecursion P known → AllByRecursion P (batches_of waiting) → Hold P (settled_with sent known waiting)
  unfolding freed still_put_off
  learned-holds P own all rest =
      settled-holds P (sent ∷ freed_by (both sent) waiting) (record { known = with_message sent known; waiting = kept_by (both sent) waiting; learned = []; aside = [] })
      (all-join P (both sent) (batches_of (freed_by (both sent) waiting)) own (batches-freed P (both sent) waiting rest).0)
      (with-all P sent known own all, (batches-freed P (both sent) waiting rest).1)

-- no other carries the batch of a message that waits then
pub admitted-lone : (terms : TermsValue) (sent : Message) (told : Admission) (before after : WorkflowValue) → IsAdmitted terms sent told before after → AllByRecursion IsLone before.waiting → AllByRecursion IsLone after.waiting
admitted-lone terms sent (admission.Refused cause) before after is all = subst (λ (w : WorkflowValue). AllByRecursion IsLone w.waiting) (sym is.1) all
admitted-lone terms sent admission.Known before after is all = subst (λ (w : WorkflowValue). AllByRecursion IsLone w.waiting) (sym is.3) all
admitted-lone terms sent (admission.PutOff missing) before after is all =
    subst (λ (w : WorkflowValue). AllByRecursion IsLone w.waiting) (sym is.1.waits)
    (all-filtered IsLone _ (put_off sent before.waiting) (all-put IsLone sent before.waiting (whole-lone sent is.1.early.whole) all))
admitted-lone terms sent (admission.Learned batches aside) before after is all =
    subst (λ (w : WorkflowValue). AllByRecursion IsLone w.waiting) (sym is.1.workflow_is)
    (learned-waits sent (learned before.arrived) before.waiting IsLone (fit-lone (learned before.arrived) sent is.1.fits) all)

-- the workflow is one of its names then
module _ (domain workflow : Name) (terms : TermsValue) (sent : Message) (before after : WorkflowValue) (own : IsOwn domain workflow before) (first : is_of domain workflow sent.batch ≡ true)
    (second : IfSome sent.second (λ b. is_of domain workflow b ≡ true)) (is : IsWorkflow after) (sound : IsSound (learned after.arrived)) where
  abbrev Of : Batch → Type 0
  Of b = is_of domain workflow b ≡ true

  each : AllByRecursion Of (both sent)
  each = (first, by sent.second second)
    where
      by : (o : Option Batch) → IfSome o Of → AllByRecursion Of (option_to_list o)
      by None all = tt
      by (Some b) all = (all, tt)

  beside-all : AllByRecursion Of (with_messages before.waiting (learned before.arrived))
  beside-all = subst (λ (w : WorkflowValue). AllByRecursion Of w.arrived) own.is.parts own.arrived

  same-own : after ≡ before → IsOwn domain workflow after
  same-own same = subst (IsOwn domain workflow) (sym same) own

  pub admitted-own : (told : Admission) → IsAdmitted terms sent told before after → IsOwn domain workflow after
  admitted-own (admission.Refused cause) it = same-own it.1
  admitted-own admission.Known it = same-own it.3
  admitted-own (admission.PutOff missing) it = record {
    is = is;
    sound = sound;
    arrived = subst (λ (w : WorkflowValue). AllByRecursion Of w.arrived) (sym it.1.waits) (with-all Of sent before.arrived each own.arrived);
    waiting = subst (λ (w : WorkflowValue). AllByRecursion (λ m. Of m.batch) w.waiting) (sym it.1.waits)
        (all-filtered (λ m. Of m.batch) _ (put_off sent before.waiting) (all-put (λ m. Of m.batch) sent before.waiting first own.waiting));
  }
  admitted-own (admission.Learned batches aside) it =
      let hold = learned-holds sent (learned before.arrived) before.waiting Of each (all-known Of (learned before.arrived) before.waiting own.is.apart beside-all)
      (all-waiting Of (learned before.arrived) before.waiting own.is.apart beside-all) in
      record {
        is = is;
        sound = sound;
        arrived = subst (λ (w : WorkflowValue). AllByRecursion Of w.arrived) (sym it.1.workflow_is)
            (all-with Of (settled_with sent (learned before.arrived) before.waiting).waiting (settled_with sent (learned before.arrived) before.waiting).known hold.1 hold.0);
        waiting = subst (λ (w : WorkflowValue). AllByRecursion (λ m. Of m.batch) w.waiting) (sym it.1.workflow_is)
            (learned-waits sent (learned before.arrived) before.waiting (λ m. Of m.batch) first own.waiting);
      }

-- what is learned only grows
pub comes-part : (known after : List Batch) → IsSet known → ComesFrom known after → IsPart known after
comes-part known after set comes = subst (IsPart known) (sym comes.is) (all-part comes.messages known set comes.are)
  where
    with-part : (sent : Message) (list : List Batch) → IsSet list → IsMessage sent → IsPart list (with_message sent list)
    with-part sent list set message = λ b has. with-found sent list b.key set message.back ∙ ap (λ o. option_or o (batch_at b.key (both sent))) has

    all-part : (messages : List Message) (list : List Batch) → IsSet list → AreArriving list messages → IsPart list (with_messages messages list)
    all-part [] list set are = λ b has. has
    all-part (sent ∷ messages) list set are =
        let rest = all-part messages (with_message sent list) (with-set sent list set (both-back sent are.0.0)) are.1 in
        λ b has. rest b (with-part sent list set are.0.0 b has)
