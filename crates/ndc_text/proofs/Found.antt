-- What the walk gives is in range.
use Rattle.std.proofs.Common.{◌≡◌, ℕ, Bool, true, false, List, [], ◌∷◌, Option, Some, None, Result, Ok, Err, refl, subst}
use Rattle.std.specs.Prelude.{IsTrue, IfOk, codes}
use Rattle.std.specs.Int.{w128, from_be_bytes}
use Rattle.uuid.specs.Text.{parsed}
use Rattle.serde_json.specs.Data.{Data, Items, no_items, item}
use Rattle.ndc_event.specs.Name.{is_name}
use Rattle.ndc_event.specs.Outcome.{◌>>=◌}
use Rattle.ndc_event.specs.declared.batch.Batch.{Batch}
use Rattle.ndc_event.specs.declared.key.Origin.{Origin}
use Rattle.ndc_event.specs.declared.key.RunId.{RunId}
use Rattle.ndc_text.specs.Ranges.{is_id, is_version, is_run, IsName, KeyFits, OptionKeyFits, OriginFits, KindFits, EventFits, EventsFit, InRange}
use Rattle.ndc_text.specs.Table.{attribute_keys, optional_keys}
use Rattle.ndc_text.specs.Walk.{Parts, shaped, number_at, text_at, items_at, nullable_at, optional_at, texts_at, in_range, id_in, version_in, name_in, run_from, run_in, name_at, run_text_at, key_at, key_from, origin_at, origin_from, kind_at, tag_at, event_keys, event_of, event_at, events_at, batch_keys, carrier_keys, parts_at, batch_in, batch_at}
use Rattle.ndc_text.specs.declared.error.TextError.{TextError}
use Rattle.ndc_text.specs.declared.form.TextForm.{TextForm}
use Rattle.ndc_text.specs.declared.form.TextForm.TheVariants.{One}
use Rattle.ndc_text.specs.declared.tag.KindTag.{KindTag}
use Rattle.ndc_text.specs.declared.tag.KindTag.TheVariants as tag

-- what holds after a step holds after two
pub after : {A B : Type 0} (P : B → Type 0) (f : A → Result B TextError) (r : Result A TextError) → ((x : A) → r ≡ Ok x → IfOk (f x) P) → IfOk (r >>= f) P
after P f (Ok x) h = h x refl
after P f (Err e) h = tt

-- what holds of an answer holds of its value
pub holds : {A : Type 0} (P : A → Type 0) (r : Result A TextError) (x : A) → IfOk r P → r ≡ Ok x → P x
holds P (Ok y) x h e = subst P (cc) h
holds P (Err y) x h e = absurd (cc)

-- ---- ranges

by_test : {A : Type 0} (test : A → Bool) (x y : A) (b : Bool) → test x ≡ b → in_range b x ≡ Ok y → test y ≡ true
by_test test x y true t e = let same : x ≡ y = cc in subst (λ z. test z ≡ true) same t
by_test test x y false t e = absurd (cc)

fits : {A : Type 0} (test : A → Bool) (x y : A) → in_range (test x) x ≡ Ok y → test y ≡ true
fits test x y e = by_test test x y (test x) refl e

run_fits_from : (o : Option (List ℕ)) (run : RunId) → run_from o ≡ Ok run → IsTrue (is_run run.value)
run_fits_from None run e = absurd (cc)
run_fits_from (Some bytes) run e = fits (λ (r : RunId). is_run r.value) (record { value = from_be_bytes w128 bytes }) run e

run_fits : (text : List ℕ) (run : RunId) → run_in text ≡ Ok run → IsTrue (is_run run.value)
run_fits text run e = run_fits_from (parsed text) run e

if_named : (text : List ℕ) (b : Bool) → is_name text ≡ b → IfOk (in_range b text) IsName
if_named text true e = e
if_named text false e = tt

name_fits : (key : List ℕ) (d : Data) → IfOk (name_at key d) IsName
name_fits key d = after IsName _ (text_at key d) (λ text _. if_named text (is_name text) refl)

if_run : (r : Result RunId TextError) → ((run : RunId) → r ≡ Ok run → IsTrue (is_run run.value)) → IfOk r (λ run. IsTrue (is_run run.value))
if_run (Ok run) h = h run refl
if_run (Err e) h = tt

run_at_fits : (key : List ℕ) (d : Data) → IfOk (run_text_at key d) (λ run. IsTrue (is_run run.value))
run_at_fits key d = after (λ run. IsTrue (is_run run.value)) _ (text_at key d) (λ text _. if_run (run_in text) (run_fits text))

-- ---- objects inside

key_fits : (d : Data) → IfOk (key_at d) KeyFits
unfolding key_at
key_fits d =
    after KeyFits _ (shaped (codes "task" ∷ codes "version" ∷ []) [] [] d) (λ _ _.
    after KeyFits _ (number_at (codes "task") d) (λ t _.
    after KeyFits _ (number_at (codes "version") d) (λ v _.
    after KeyFits _ (id_in t) (λ task it.
    after KeyFits _ (version_in v) (λ version iv.
    (fits is_id t task it, fits is_version v version iv))))))

key_from_fits : (o : Option Data) → IfOk (key_from o) OptionKeyFits
key_from_fits None = tt
key_from_fits (Some d) = after OptionKeyFits _ (key_at d) (λ key e. holds KeyFits (key_at d) key (key_fits d) e)

origin_fits : (d : Data) → IfOk (origin_at d) (λ o. OriginFits (Some o))
unfolding origin_at
origin_fits d =
    let P : Origin → Type 0 = λ o. OriginFits (Some o) in
    after P _ (shaped (codes "event" ∷ codes "run" ∷ codes "version" ∷ []) [] [] d) (λ _ _.
    after P _ (number_at (codes "event") d) (λ e _.
    after P _ (text_at (codes "run") d) (λ r _.
    after P _ (number_at (codes "version") d) (λ v _.
    after P _ (id_in e) (λ event ie.
    after P _ (run_in r) (λ run ir.
    after P _ (version_in v) (λ version iv.
    (fits is_id e event ie, run_fits r run ir, fits is_version v version iv))))))))

origin_from_fits : (o : Option Data) → IfOk (origin_from o) OriginFits
origin_from_fits None = tt
origin_from_fits (Some d) = after OriginFits _ (origin_at d) (λ origin e. holds (λ o. OriginFits (Some o)) (origin_at d) origin (origin_fits d) e)

kind_fits : (t : KindTag) (origin : Option Data) (d : Data) → IfOk (kind_at t origin d) KindFits
unfolding kind_at
kind_fits tag.WorkflowExecutionStarted origin d =
    after KindFits _ (name_at (codes "workflowType") d) (λ type e_type.
    holds IsName (name_at (codes "workflowType") d) type (name_fits (codes "workflowType") d) e_type)
kind_fits tag.WorkflowExecutionSignaled origin d =
    after KindFits _ (name_at (codes "signalName") d) (λ name e_name.
    after KindFits _ (name_at (codes "input") d) (λ input e_input.
    after KindFits _ (origin_from origin) (λ o e_o.
    (holds IsName (name_at (codes "signalName") d) name (name_fits (codes "signalName") d) e_name, holds IsName (name_at (codes "input") d) input (name_fits (codes "input") d) e_input, holds OriginFits (origin_from origin) o (origin_from_fits origin) e_o))))
kind_fits tag.WorkflowExecutionCancelRequested origin d = tt
kind_fits tag.WorkflowExecutionCompleted origin d =
    after KindFits _ (name_at (codes "result") d) (λ result e_result.
    holds IsName (name_at (codes "result") d) result (name_fits (codes "result") d) e_result)
kind_fits tag.WorkflowExecutionFailed origin d =
    after KindFits _ (name_at (codes "reason") d) (λ reason e_reason.
    holds IsName (name_at (codes "reason") d) reason (name_fits (codes "reason") d) e_reason)
kind_fits tag.WorkflowExecutionCanceled origin d = tt
kind_fits tag.WorkflowExecutionTerminated origin d =
    after KindFits _ (name_at (codes "reason") d) (λ reason e_reason.
    holds IsName (name_at (codes "reason") d) reason (name_fits (codes "reason") d) e_reason)
kind_fits tag.WorkflowExecutionContinuedAsNew origin d =
    after KindFits _ (run_text_at (codes "newExecutionRunId") d) (λ run e_run.
    after KindFits _ (name_at (codes "workflowType") d) (λ type e_type.
    (holds (λ r. IsTrue (is_run r.value)) (run_text_at (codes "newExecutionRunId") d) run (run_at_fits (codes "newExecutionRunId") d) e_run, holds IsName (name_at (codes "workflowType") d) type (name_fits (codes "workflowType") d) e_type)))
kind_fits tag.DecisionTaskScheduled origin d = tt
kind_fits tag.DecisionTaskStarted origin d = tt
kind_fits tag.DecisionTaskCompleted origin d = tt
kind_fits tag.DecisionTaskFailed origin d =
    after KindFits _ (name_at (codes "cause") d) (λ cause e_cause.
    holds IsName (name_at (codes "cause") d) cause (name_fits (codes "cause") d) e_cause)
kind_fits tag.DecisionTaskTimedOut origin d = tt
kind_fits tag.ActivityTaskScheduled origin d =
    after KindFits _ (name_at (codes "activityId") d) (λ id e_id.
    after KindFits _ (name_at (codes "activityType") d) (λ type e_type.
    (holds IsName (name_at (codes "activityId") d) id (name_fits (codes "activityId") d) e_id, holds IsName (name_at (codes "activityType") d) type (name_fits (codes "activityType") d) e_type)))
kind_fits tag.ActivityTaskStarted origin d =
    after KindFits _ (name_at (codes "activityId") d) (λ id e_id.
    holds IsName (name_at (codes "activityId") d) id (name_fits (codes "activityId") d) e_id)
kind_fits tag.ActivityTaskCompleted origin d =
    after KindFits _ (name_at (codes "activityId") d) (λ id e_id.
    after KindFits _ (name_at (codes "result") d) (λ result e_result.
    (holds IsName (name_at (codes "activityId") d) id (name_fits (codes "activityId") d) e_id, holds IsName (name_at (codes "result") d) result (name_fits (codes "result") d) e_result)))
kind_fits tag.ActivityTaskFailed origin d =
    after KindFits _ (name_at (codes "activityId") d) (λ id e_id.
    after KindFits _ (name_at (codes "reason") d) (λ reason e_reason.
    (holds IsName (name_at (codes "activityId") d) id (name_fits (codes "activityId") d) e_id, holds IsName (name_at (codes "reason") d) reason (name_fits (codes "reason") d) e_reason)))
kind_fits tag.ActivityTaskTimedOut origin d =
    after KindFits _ (name_at (codes "activityId") d) (λ id e_id.
    holds IsName (name_at (codes "activityId") d) id (name_fits (codes "activityId") d) e_id)
kind_fits tag.TimerStarted origin d =
    after KindFits _ (name_at (codes "timerId") d) (λ id e_id.
    holds IsName (name_at (codes "timerId") d) id (name_fits (codes "timerId") d) e_id)
kind_fits tag.TimerFired origin d =
    after KindFits _ (name_at (codes "timerId") d) (λ id e_id.
    holds IsName (name_at (codes "timerId") d) id (name_fits (codes "timerId") d) e_id)
kind_fits tag.TimerCanceled origin d =
    after KindFits _ (name_at (codes "timerId") d) (λ id e_id.
    holds IsName (name_at (codes "timerId") d) id (name_fits (codes "timerId") d) e_id)
kind_fits tag.StartChildWorkflowExecutionInitiated origin d =
    after KindFits _ (name_at (codes "workflowId") d) (λ id e_id.
    after KindFits _ (name_at (codes "workflowType") d) (λ type e_type.
    (holds IsName (name_at (codes "workflowId") d) id (name_fits (codes "workflowId") d) e_id, holds IsName (name_at (codes "workflowType") d) type (name_fits (codes "workflowType") d) e_type)))
kind_fits tag.ChildWorkflowExecutionStarted origin d =
    after KindFits _ (name_at (codes "workflowId") d) (λ id e_id.
    holds IsName (name_at (codes "workflowId") d) id (name_fits (codes "workflowId") d) e_id)
kind_fits tag.ChildWorkflowExecutionCompleted origin d =
    after KindFits _ (name_at (codes "workflowId") d) (λ id e_id.
    after KindFits _ (name_at (codes "result") d) (λ result e_result.
    (holds IsName (name_at (codes "workflowId") d) id (name_fits (codes "workflowId") d) e_id, holds IsName (name_at (codes "result") d) result (name_fits (codes "result") d) e_result)))
kind_fits tag.ChildWorkflowExecutionFailed origin d =
    after KindFits _ (name_at (codes "workflowId") d) (λ id e_id.
    after KindFits _ (name_at (codes "reason") d) (λ reason e_reason.
    (holds IsName (name_at (codes "workflowId") d) id (name_fits (codes "workflowId") d) e_id, holds IsName (name_at (codes "reason") d) reason (name_fits (codes "reason") d) e_reason)))
kind_fits tag.MarkerRecorded origin d =
    after KindFits _ (name_at (codes "markerName") d) (λ name e_name.
    holds IsName (name_at (codes "markerName") d) name (name_fits (codes "markerName") d) e_name)

event_of_fits : (t : KindTag) (d : Data) → IfOk (event_of t d) EventFits
unfolding event_of
event_of_fits t d =
    after EventFits _ (shaped event_keys (attribute_keys t) (optional_keys t) d) (λ _ _.
    after EventFits _ (number_at (codes "eventId") d) (λ i _.
    after EventFits _ (number_at (codes "version") d) (λ v _.
    after EventFits _ (texts_at (attribute_keys t) d) (λ _ _.
    after EventFits _ (optional_at (codes "origin") d) (λ origin _.
    after EventFits _ (id_in i) (λ id ii.
    after EventFits _ (version_in v) (λ version iv.
    after EventFits _ (kind_at t origin d) (λ kind ik.
    (fits is_id i id ii, fits is_version v version iv, holds KindFits (kind_at t origin d) kind (kind_fits t origin d) ik)))))))))

event_fits : (d : Data) → IfOk (event_at d) EventFits
event_fits d = after EventFits _ (tag_at d) (λ t _. event_of_fits t d)

events_fit : (ds : Items) → IfOk (events_at ds) EventsFit
events_fit no_items = tt
events_fit (item d ds) =
    after EventsFit _ (event_at d) (λ e ie.
    after EventsFit _ (events_at ds) (λ es ies.
    (holds EventFits (event_at d) e (event_fits d) ie, holds EventsFit (events_at ds) es (events_fit ds) ies)))

-- ---- the batch

parts_fit : (p : Parts) → IfOk (batch_in p) (λ b. InRange b × (key_from p.carrier ≡ Ok b.carrier))
unfolding batch_in
parts_fit p =
    let P : Batch → Type 0 = λ b. InRange b × (key_from p.carrier ≡ Ok b.carrier) in
    after P _ (name_in p.domain) (λ domain id.
    after P _ (run_in p.run) (λ run ir.
    after P _ (id_in p.task) (λ task it.
    after P _ (version_in p.version) (λ version iv.
    after P _ (name_in p.workflow) (λ workflow iw.
    after P _ (key_from p.carrier) (λ carrier ic.
    after P _ (key_from p.parent) (λ parent ip.
    after P _ (events_at p.events) (λ events ie. (
      record {
        domain = fits is_name p.domain domain id;
        run = run_fits p.run run ir;
        key = (fits is_id p.task task it, fits is_version p.version version iv);
        workflow = fits is_name p.workflow workflow iw;
        carrier = holds OptionKeyFits (key_from p.carrier) carrier (key_from_fits p.carrier) ic;
        parent = holds OptionKeyFits (key_from p.parent) parent (key_from_fits p.parent) ip;
        events = holds EventsFit (events_at p.events) events (events_fit p.events) ie;
      },
      ic,
    )))))))))

-- text 1 has no carrier
bare_parts : (d : Data) → IfOk (parts_at One d) (λ p. p.carrier ≡ None)
unfolding parts_at
bare_parts d =
    let P : Parts → Type 0 = λ p. p.carrier ≡ None in
    after P _ (shaped batch_keys [] (carrier_keys One) d) (λ _ _.
    after P _ (text_at (codes "domain") d) (λ _ _.
    after P _ (items_at (codes "events") d) (λ _ _.
    after P _ (nullable_at (codes "parent") d) (λ _ _.
    after P _ (text_at (codes "run") d) (λ _ _.
    after P _ (number_at (codes "task") d) (λ _ _.
    after P _ (number_at (codes "version") d) (λ _ _.
    after P _ (text_at (codes "workflow") d) (λ _ _.
    refl))))))))

first_holds : (Q : Batch → Type 0) (r : Result Batch TextError) → IfOk r (λ b. InRange b × Q b) → IfOk r InRange
first_holds Q (Ok b) h = h.0
first_holds Q (Err e) h = tt

pub batch_fits : (form : TextForm) (d : Data) → IfOk (batch_at form d) InRange
batch_fits form d = after InRange _ (parts_at form d) (λ p _. first_holds (λ b. key_from p.carrier ≡ Ok b.carrier) (batch_in p) (parts_fit p))

no_carrier : (p : Parts) (r : Result Batch TextError) → p.carrier ≡ None → IfOk r (λ b. InRange b × (key_from p.carrier ≡ Ok b.carrier)) → IfOk r (λ b. b.carrier ≡ None)
no_carrier p (Ok b) e h = let known : key_from p.carrier ≡ Ok None = rw e refl in let same = h.1 in cc
no_carrier p (Err x) e h = tt

pub bare_carrier : (d : Data) → IfOk (batch_at One d) (λ b. b.carrier ≡ None)
bare_carrier d = after (λ (b : Batch). b.carrier ≡ None) _ (parts_at One d) (λ p ip. no_carrier p (batch_in p) (holds (λ (q : Parts). q.carrier ≡ None) (parts_at One d) p (bare_parts d) ip) (parts_fit p))
