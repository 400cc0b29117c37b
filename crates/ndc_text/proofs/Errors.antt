-- The walk refuses for its own causes alone: a fault is answered only where the text was read as a batch that has it.
use Rattle.std.proofs.Common.{◌≡◌, ℕ, Bool, true, false, List, [], ◌∷◌, Option, Some, None, Result, Ok, Err, refl, sym, ap, ◌∙◌, true≢false}
use Rattle.std.specs.Prelude.{IfErr, codes, not, if◌then◌else◌}
use Rattle.std.specs.Str.{bytes_eq, is_utf8}
use Rattle.std.specs.Int.{from_be_bytes, w128}
use Rattle.std.proofs.lemmas.Slice.Eq.{bytes_eq-Decides}
use Rattle.uuid.specs.Text.{parsed}
use Rattle.serde_json.specs.Data.{Data, null, boolean, number, string, array, object, Items, no_items, item}
use Rattle.serde_json.specs.Find.{get, as_str}
use Rattle.serde_json.specs.Read.{read}
use Rattle.ndc_event.specs.Batch.{fault_of}
use Rattle.ndc_event.specs.Outcome.{◌>>=◌}
use Rattle.ndc_event.specs.declared.batch.Batch.{Batch}
use Rattle.ndc_event.specs.declared.batch.BatchFault.{BatchFault}
use Rattle.ndc_text.specs.Ranges.{is_id, is_version, is_run, InRange}
use Rattle.ndc_event.specs.Name.{is_name}
use Rattle.ndc_text.specs.Read.{json_at, checked_by, read_of}
use Rattle.ndc_text.specs.Table.{tag_of, attribute_keys, optional_keys}
use Rattle.ndc_text.specs.Text.{batch_text}
use Rattle.ndc_text.specs.Walk.{Parts, wanted, shaped, number_at, text_at, items_at, object_in, nullable_from, nullable_at, optional_from, optional_at, have_texts, texts_at, in_range, id_in, version_in, name_in, run_from, run_in, name_at, run_text_at, key_at, key_from, origin_at, origin_from, kind_at, tag_at, event_keys, event_of, event_at, events_at, batch_keys, carrier_keys, carrier_at, parts_at, batch_in, batch_at}
use Rattle.ndc_text.specs.declared.error.TextError.{TextError}
use Rattle.ndc_text.specs.declared.error.TextError.TheVariants.{NotJson, MissingKey, WrongKind, ExtraKey, Range, NotCanonical, Check, Memory}
use Rattle.ndc_text.specs.declared.form.TextForm.{TextForm}
use Rattle.ndc_text.specs.declared.form.TextForm.TheVariants.{One, Two}
use Rattle.ndc_text.specs.declared.tag.KindTag.{KindTag}
use Rattle.ndc_text.specs.declared.tag.KindTag.TheVariants as tag
use Rattle.ndc_text.proofs.Found.{holds, batch_fits}

-- a cause of the walk
abbrev is_early : TextError → Bool
is_early NotJson = true
is_early MissingKey = true
is_early WrongKind = true
is_early ExtraKey = true
is_early Range = true
is_early NotCanonical = false
is_early (Check fault) = false
is_early Memory = false

abbrev IsEarly : {A : Type 0} → Result A TextError → Type 0
IsEarly r = IfErr r (λ e. is_early e ≡ true)

step : {A B : Type 0} (f : A → Result B TextError) (r : Result A TextError) → IsEarly r → ((x : A) → IsEarly (f x)) → IsEarly (r >>= f)
step f (Ok x) h k = k x
step f (Err e) h k = h

-- ---- members

early_wanted : {A : Type 0} (e : TextError) (o : Option A) → is_early e ≡ true → IsEarly (wanted e o)
early_wanted e None h = h
early_wanted e (Some x) h = tt

early_in_range : {A : Type 0} (b : Bool) (x : A) → IsEarly (in_range b x)
early_in_range true x = tt
early_in_range false x = refl

by_tests : (a b c : Bool) → IsEarly {A = Unit {0}} (if not a then Err WrongKind else if not b then Err MissingKey else if not c then Err ExtraKey else Ok tt)
by_tests false b c = refl
by_tests true false c = refl
by_tests true true false = refl
by_tests true true true = tt

early_shaped : (own more optional : List (List ℕ)) (d : Data) → IsEarly (shaped own more optional d)
unfolding shaped
early_shaped own more optional d = by_tests _ _ _

early_number : (key : List ℕ) (d : Data) → IsEarly (number_at key d)
early_number key d = early_wanted WrongKind _ refl

early_text : (key : List ℕ) (d : Data) → IsEarly (text_at key d)
early_text key d = early_wanted WrongKind _ refl

early_object : (d : Data) → IsEarly (object_in d)
early_object null = refl
early_object (boolean b) = refl
early_object (number n) = refl
early_object (string s) = refl
early_object (array ds) = refl
early_object (object ms) = tt

early_nullable : (o : Option Data) → IsEarly (nullable_from o)
early_nullable None = refl
early_nullable (Some null) = tt
early_nullable (Some (boolean b)) = refl
early_nullable (Some (number n)) = refl
early_nullable (Some (string s)) = refl
early_nullable (Some (array ds)) = refl
early_nullable (Some (object ms)) = tt

early_optional : (o : Option Data) → IsEarly (optional_from o)
early_optional None = tt
early_optional (Some d) = step _ (object_in d) (early_object d) (λ _. tt)

early_texts : (b : Bool) → IsEarly {A = Unit {0}} (if b then Ok tt else Err WrongKind)
early_texts true = tt
early_texts false = refl

early_run_from : (o : Option (List ℕ)) → IsEarly (run_from o)
early_run_from None = refl
early_run_from (Some bytes) = early_in_range (is_run (from_be_bytes w128 bytes)) _

early_run : (text : List ℕ) → IsEarly (run_in text)
early_run text = early_run_from (parsed text)

early_name_at : (key : List ℕ) (d : Data) → IsEarly (name_at key d)
early_name_at key d = step _ (text_at key d) (early_text key d) (λ text. early_in_range (is_name text) text)

early_run_at : (key : List ℕ) (d : Data) → IsEarly (run_text_at key d)
early_run_at key d = step _ (text_at key d) (early_text key d) (λ text. early_run text)

-- ---- objects

early_key : (d : Data) → IsEarly (key_at d)
unfolding key_at
early_key d =
    step _ (shaped (codes "task" ∷ codes "version" ∷ []) [] [] d) (early_shaped _ _ _ d) (λ _.
    step _ (number_at (codes "task") d) (early_number (codes "task") d) (λ t.
    step _ (number_at (codes "version") d) (early_number (codes "version") d) (λ v.
    step _ (id_in t) (early_in_range (is_id t) t) (λ _.
    step _ (version_in v) (early_in_range (is_version v) v) (λ _. tt)))))

early_key_from : (o : Option Data) → IsEarly (key_from o)
early_key_from None = tt
early_key_from (Some d) = step _ (key_at d) (early_key d) (λ _. tt)

early_origin : (d : Data) → IsEarly (origin_at d)
unfolding origin_at
early_origin d =
    step _ (shaped (codes "event" ∷ codes "run" ∷ codes "version" ∷ []) [] [] d) (early_shaped _ _ _ d) (λ _.
    step _ (number_at (codes "event") d) (early_number (codes "event") d) (λ e.
    step _ (text_at (codes "run") d) (early_text (codes "run") d) (λ r.
    step _ (number_at (codes "version") d) (early_number (codes "version") d) (λ v.
    step _ (id_in e) (early_in_range (is_id e) e) (λ _.
    step _ (run_in r) (early_run r) (λ _.
    step _ (version_in v) (early_in_range (is_version v) v) (λ _. tt)))))))

early_origin_from : (o : Option Data) → IsEarly (origin_from o)
early_origin_from None = tt
early_origin_from (Some d) = step _ (origin_at d) (early_origin d) (λ _. tt)

early_kind : (t : KindTag) (origin : Option Data) (d : Data) → IsEarly (kind_at t origin d)
unfolding kind_at
early_kind tag.WorkflowExecutionStarted origin d = step _ (name_at (codes "workflowType") d) (early_name_at (codes "workflowType") d) (λ _. tt)
early_kind tag.WorkflowExecutionSignaled origin d = step _ (name_at (codes "signalName") d) (early_name_at (codes "signalName") d) (λ _. step _ (name_at (codes "input") d) (early_name_at (codes "input") d) (λ _. step _ (origin_from origin) (early_origin_from origin) (λ _. tt)))
early_kind tag.WorkflowExecutionCancelRequested origin d = tt
early_kind tag.WorkflowExecutionCompleted origin d = step _ (name_at (codes "result") d) (early_name_at (codes "result") d) (λ _. tt)
early_kind tag.WorkflowExecutionFailed origin d = step _ (name_at (codes "reason") d) (early_name_at (codes "reason") d) (λ _. tt)
early_kind tag.WorkflowExecutionCanceled origin d = tt
early_kind tag.WorkflowExecutionTerminated origin d = step _ (name_at (codes "reason") d) (early_name_at (codes "reason") d) (λ _. tt)
early_kind tag.WorkflowExecutionContinuedAsNew origin d = step _ (run_text_at (codes "newExecutionRunId") d) (early_run_at (codes "newExecutionRunId") d) (λ _. step _ (name_at (codes "workflowType") d) (early_name_at (codes "workflowType") d) (λ _. tt))
early_kind tag.DecisionTaskScheduled origin d = tt
early_kind tag.DecisionTaskStarted origin d = tt
early_kind tag.DecisionTaskCompleted origin d = tt
early_kind tag.DecisionTaskFailed origin d = step _ (name_at (codes "cause") d) (early_name_at (codes "cause") d) (λ _. tt)
early_kind tag.DecisionTaskTimedOut origin d = tt
early_kind tag.ActivityTaskScheduled origin d = step _ (name_at (codes "activityId") d) (early_name_at (codes "activityId") d) (λ _. step _ (name_at (codes "activityType") d) (early_name_at (codes "activityType") d) (λ _. tt))
early_kind tag.ActivityTaskStarted origin d = step _ (name_at (codes "activityId") d) (early_name_at (codes "activityId") d) (λ _. tt)
early_kind tag.ActivityTaskCompleted origin d = step _ (name_at (codes "activityId") d) (early_name_at (codes "activityId") d) (λ _. step _ (name_at (codes "result") d) (early_name_at (codes "result") d) (λ _. tt))
early_kind tag.ActivityTaskFailed origin d = step _ (name_at (codes "activityId") d) (early_name_at (codes "activityId") d) (λ _. step _ (name_at (codes "reason") d) (early_name_at (codes "reason") d) (λ _. tt))
early_kind tag.ActivityTaskTimedOut origin d = step _ (name_at (codes "activityId") d) (early_name_at (codes "activityId") d) (λ _. tt)
early_kind tag.TimerStarted origin d = step _ (name_at (codes "timerId") d) (early_name_at (codes "timerId") d) (λ _. tt)
early_kind tag.TimerFired origin d = step _ (name_at (codes "timerId") d) (early_name_at (codes "timerId") d) (λ _. tt)
early_kind tag.TimerCanceled origin d = step _ (name_at (codes "timerId") d) (early_name_at (codes "timerId") d) (λ _. tt)
early_kind tag.StartChildWorkflowExecutionInitiated origin d = step _ (name_at (codes "workflowId") d) (early_name_at (codes "workflowId") d) (λ _. step _ (name_at (codes "workflowType") d) (early_name_at (codes "workflowType") d) (λ _. tt))
early_kind tag.ChildWorkflowExecutionStarted origin d = step _ (name_at (codes "workflowId") d) (early_name_at (codes "workflowId") d) (λ _. tt)
early_kind tag.ChildWorkflowExecutionCompleted origin d = step _ (name_at (codes "workflowId") d) (early_name_at (codes "workflowId") d) (λ _. step _ (name_at (codes "result") d) (early_name_at (codes "result") d) (λ _. tt))
early_kind tag.ChildWorkflowExecutionFailed origin d = step _ (name_at (codes "workflowId") d) (early_name_at (codes "workflowId") d) (λ _. step _ (name_at (codes "reason") d) (early_name_at (codes "reason") d) (λ _. tt))
early_kind tag.MarkerRecorded origin d = step _ (name_at (codes "markerName") d) (early_name_at (codes "markerName") d) (λ _. tt)

early_tag : (d : Data) → IsEarly (tag_at d)
early_tag d =
    step _ (object_in d) (early_object d) (λ _.
    step _ (wanted MissingKey (get (codes "eventType") d)) (early_wanted MissingKey _ refl) (λ type.
    step _ (wanted WrongKind (as_str type)) (early_wanted WrongKind _ refl) (λ text. early_wanted Range (tag_of text) refl)))

early_event_of : (t : KindTag) (d : Data) → IsEarly (event_of t d)
unfolding event_of
early_event_of t d =
    step _ (shaped event_keys (attribute_keys t) (optional_keys t) d) (early_shaped _ _ _ d) (λ _.
    step _ (number_at (codes "eventId") d) (early_number (codes "eventId") d) (λ i.
    step _ (number_at (codes "version") d) (early_number (codes "version") d) (λ v.
    step _ (texts_at (attribute_keys t) d) (early_texts (have_texts (attribute_keys t) d)) (λ _.
    step _ (optional_at (codes "origin") d) (early_optional (get (codes "origin") d)) (λ origin.
    step _ (id_in i) (early_in_range (is_id i) i) (λ _.
    step _ (version_in v) (early_in_range (is_version v) v) (λ _.
    step _ (kind_at t origin d) (early_kind t origin d) (λ _. tt))))))))

early_event : (d : Data) → IsEarly (event_at d)
early_event d = step _ (tag_at d) (early_tag d) (λ t. early_event_of t d)

early_events : (ds : Items) → IsEarly (events_at ds)
early_events no_items = tt
early_events (item d ds) = step _ (event_at d) (early_event d) (λ _. step _ (events_at ds) (early_events ds) (λ _. tt))

early_carrier : (form : TextForm) (d : Data) → IsEarly (carrier_at form d)
early_carrier One d = tt
early_carrier Two d = early_optional (get (codes "carrier") d)

early_parts : (form : TextForm) (d : Data) → IsEarly (parts_at form d)
unfolding parts_at
early_parts form d =
    step _ (shaped batch_keys [] (carrier_keys form) d) (early_shaped _ _ _ d) (λ _.
    step _ (carrier_at form d) (early_carrier form d) (λ _.
    step _ (text_at (codes "domain") d) (early_text (codes "domain") d) (λ _.
    step _ (items_at (codes "events") d) (early_wanted WrongKind _ refl) (λ _.
    step _ (nullable_at (codes "parent") d) (early_nullable (get (codes "parent") d)) (λ _.
    step _ (text_at (codes "run") d) (early_text (codes "run") d) (λ _.
    step _ (number_at (codes "task") d) (early_number (codes "task") d) (λ _.
    step _ (number_at (codes "version") d) (early_number (codes "version") d) (λ _.
    step _ (text_at (codes "workflow") d) (early_text (codes "workflow") d) (λ _. tt)))))))))

early_batch_in : (p : Parts) → IsEarly (batch_in p)
unfolding batch_in
early_batch_in p =
    step _ (name_in p.domain) (early_in_range (is_name p.domain) p.domain) (λ _.
    step _ (run_in p.run) (early_run p.run) (λ _.
    step _ (id_in p.task) (early_in_range (is_id p.task) p.task) (λ _.
    step _ (version_in p.version) (early_in_range (is_version p.version) p.version) (λ _.
    step _ (name_in p.workflow) (early_in_range (is_name p.workflow) p.workflow) (λ _.
    step _ (key_from p.carrier) (early_key_from p.carrier) (λ _.
    step _ (key_from p.parent) (early_key_from p.parent) (λ _.
    step _ (events_at p.events) (early_events p.events) (λ _. tt))))))))

early_batch : (form : TextForm) (d : Data) → IsEarly (batch_at form d)
early_batch form d = step _ (parts_at form d) (early_parts form d) (λ p. early_batch_in p)

early_json_at : (bytes : List ℕ) (b : Bool) → IsEarly (if b then wanted NotJson (read bytes) else Err NotJson)
early_json_at bytes true = early_wanted NotJson (read bytes) refl
early_json_at bytes false = refl

early_json : (bytes : List ℕ) → IsEarly (json_at bytes)
early_json bytes = early_json_at bytes (is_utf8 bytes)

-- ---- a fault comes after all of them

-- a step whose causes are early answers a fault only after it
behind : {A B : Type 0} (G : Type 0) (f : A → Result B TextError) (r : Result A TextError) (fault : BatchFault) → IsEarly r → ((x : A) → r ≡ Ok x → f x ≡ Err (Check fault) → G) → (r >>= f) ≡ Err (Check fault) → G
behind G f (Ok x) fault h k e = k x refl e
behind G f (Err y) fault h k e = let same : y ≡ Check fault = cc in absurd (true≢false (sym h ∙ ap is_early same))

-- what is known where a text is refused for this fault
abbrev pub HasFault : List ℕ → BatchFault → Type 0
HasFault bytes fault = (b : Batch) × (InRange b × (bytes ≡ batch_text b) × (fault_of b ≡ Some fault))

by_fault : (b : Batch) (o : Option BatchFault) (fault : BatchFault) → checked_by b o ≡ Err (Check fault) → o ≡ Some fault
by_fault b None fault e = absurd (cc)
by_fault b (Some f) fault e = cc

by_text : (bytes : List ℕ) (b : Batch) (fault : BatchFault) (test : Bool) → bytes_eq bytes (batch_text b) ≡ test → InRange b
    → ((if test then Ok b else Err NotCanonical) >>= (λ c. checked_by c (fault_of c))) ≡ Err (Check fault) → HasFault bytes fault
by_text bytes b fault true t h e = (b, (h, (bytes_eq-Decides bytes (batch_text b)).0 t, by_fault b (fault_of b) fault e))
by_text bytes b fault false t h e = absurd (cc)

pub faulty_found : (form : TextForm) (bytes : List ℕ) (fault : BatchFault) → read_of form bytes ≡ Err (Check fault) → HasFault bytes fault
unfolding read_of
faulty_found form bytes fault =
    behind (HasFault bytes fault) _ (json_at bytes) fault (early_json bytes) (λ d _.
    behind (HasFault bytes fault) _ (batch_at form d) fault (early_batch form d) (λ b walked.
    by_text bytes b fault (bytes_eq bytes (batch_text b)) refl (holds InRange (batch_at form d) b (batch_fits form d) walked)))
