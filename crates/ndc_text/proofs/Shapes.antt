-- The data of a batch in range is plain, and nested at most 4 deep.
use Rattle.std.proofs.Common.{◌≡◌, ℕ, ◌^◌, ◌<◌, ◌≤◌, true, ◌&&◌, nat_le, List, [], ◌∷◌, length, Option, Some, None, map, IsUtf8, inl, refl, arith, leb-true, lit≤}
use Rattle.std.specs.Prelude.{codes, IsTrue}
use Rattle.std.specs.List.{list_all}
use Rattle.std.specs.Int.{w128, to_be_bytes}
use Rattle.std.proofs.lemmas.Bool.{and_parts}
use Rattle.std.proofs.lemmas.Str.{IsUtf8-from_ascii}
use Rattle.uuid.specs.Text.{lower}
use Rattle.uuid.proofs.TextLemmas.{hyphenated_ascii}
use Rattle.json.specs.Tree as tree
use Rattle.json.proofs.Printed.Utf8.{are_ascii, IsUtf8-are_ascii}
use Rattle.serde_json.specs.Data.{Data, string, array, object, no_members, put}
use Rattle.serde_json.specs.View.{items_of}
use Rattle.serde_json.specs.Written.{outline, items_outline}
use Rattle.ndc_event.specs.Key.{run_text}
use Rattle.ndc_event.specs.Kind.{kind_name}
use Rattle.ndc_event.specs.Name.{is_name_byte}
use Rattle.ndc_event.proofs.Ascii.{name_IsUtf8}
use Rattle.ndc_event.specs.declared.batch.Batch.{Batch}
use Rattle.ndc_event.specs.declared.batch.Event.{Event}
use Rattle.ndc_event.specs.declared.key.BatchKey.{BatchKey}
use Rattle.ndc_event.specs.declared.key.Origin.{Origin}
use Rattle.ndc_event.specs.declared.key.RunId.{RunId}
use Rattle.ndc_event.specs.declared.kind.EventKind.{EventKind}
use Rattle.ndc_event.specs.declared.kind.EventKind.TheVariants.{WorkflowExecutionStarted, WorkflowExecutionSignaled, WorkflowExecutionCancelRequested, WorkflowExecutionCompleted, WorkflowExecutionFailed, WorkflowExecutionCanceled, WorkflowExecutionTerminated, WorkflowExecutionContinuedAsNew, DecisionTaskScheduled, DecisionTaskStarted, DecisionTaskCompleted, DecisionTaskFailed, DecisionTaskTimedOut, ActivityTaskScheduled, ActivityTaskStarted, ActivityTaskCompleted, ActivityTaskFailed, ActivityTaskTimedOut, TimerStarted, TimerFired, TimerCanceled, StartChildWorkflowExecutionInitiated, ChildWorkflowExecutionStarted, ChildWorkflowExecutionCompleted, ChildWorkflowExecutionFailed, MarkerRecorded}
use Rattle.ndc_text.specs.Ranges.{is_id, is_version, IsName, KeyFits, OptionKeyFits, OriginFits, KindFits, EventsFit, InRange}
use Rattle.ndc_text.specs.Text.{num, key_data, origin_data, with_attributes, event_members, event_data, parent_data, with_carrier, batch_data}
use Rattle.ndc_text.proofs.Plain.{IsPlain, ItemsArePlain}

id_small : (n : ℕ) → IsTrue (is_id n) → n < 2 ^ 64
id_small n h = let most : n ≤ 10 ^ 12 = leb-true n (10 ^ 12) (and_parts (nat_le 1 n) (nat_le n (10 ^ 12)) h).1 in omega arith

version_small : (n : ℕ) → IsTrue (is_version n) → n < 2 ^ 64
version_small n h = let most : n ≤ 10 ^ 13 = leb-true n (10 ^ 13) h in omega arith

name_text : (bytes : List ℕ) → IsName bytes → IsUtf8 bytes
name_text bytes h = name_IsUtf8 bytes (and_parts (nat_le 1 (length bytes) && nat_le (length bytes) 200) (list_all is_name_byte bytes) h).1

run_is_text : (run : RunId) → IsUtf8 (run_text run)
run_is_text run = IsUtf8-from_ascii (run_text run) (hyphenated_ascii lower (to_be_bytes w128 run.value) (inl refl))

word : (s : List ℕ) → are_ascii s ≡ true → IsUtf8 s
word = IsUtf8-are_ascii

key_plain : (key : BatchKey) → KeyFits key → IsPlain (key_data key)
key_plain key h = (refl, (id_small key.task h.0, (refl, (version_small key.version h.1, tt))))

origin_plain : (o : Origin) → OriginFits (Some o) → IsPlain (origin_data o)
origin_plain o h = (refl, (id_small o.event h.0, (refl, (run_is_text o.run, (refl, (version_small o.version h.2, tt))))))

kind_plain : (e : Event) (k : EventKind) → IsTrue (is_id e.id) → IsTrue (is_version e.version) → KindFits k → IsPlain (object (event_members e k))
unfolding with_attributes kind_name
kind_plain e (WorkflowExecutionStarted type) i v h = (refl, (id_small e.id i, (refl, (word _ refl, (refl, (version_small e.version v, (refl, (name_text type h, tt))))))))
kind_plain e (WorkflowExecutionSignaled name input None) i v h = (refl, (id_small e.id i, (refl, (word _ refl, (refl, (name_text input h.1, (refl, (name_text name h.0, (refl, (version_small e.version v, tt))))))))))
kind_plain e (WorkflowExecutionSignaled name input (Some origin)) i v h = (refl, (id_small e.id i, (refl, (word _ refl, (refl, (name_text input h.1, (refl, (origin_plain origin h.2, (refl, (name_text name h.0, (refl, (version_small e.version v, tt))))))))))))
kind_plain e WorkflowExecutionCancelRequested i v h = (refl, (id_small e.id i, (refl, (word _ refl, (refl, (version_small e.version v, tt))))))
kind_plain e (WorkflowExecutionCompleted result) i v h = (refl, (id_small e.id i, (refl, (word _ refl, (refl, (name_text result h, (refl, (version_small e.version v, tt))))))))
kind_plain e (WorkflowExecutionFailed reason) i v h = (refl, (id_small e.id i, (refl, (word _ refl, (refl, (name_text reason h, (refl, (version_small e.version v, tt))))))))
kind_plain e WorkflowExecutionCanceled i v h = (refl, (id_small e.id i, (refl, (word _ refl, (refl, (version_small e.version v, tt))))))
kind_plain e (WorkflowExecutionTerminated reason) i v h = (refl, (id_small e.id i, (refl, (word _ refl, (refl, (name_text reason h, (refl, (version_small e.version v, tt))))))))
kind_plain e (WorkflowExecutionContinuedAsNew run type) i v h = (refl, (id_small e.id i, (refl, (word _ refl, (refl, (run_is_text run, (refl, (version_small e.version v, (refl, (name_text type h.1, tt))))))))))
kind_plain e DecisionTaskScheduled i v h = (refl, (id_small e.id i, (refl, (word _ refl, (refl, (version_small e.version v, tt))))))
kind_plain e DecisionTaskStarted i v h = (refl, (id_small e.id i, (refl, (word _ refl, (refl, (version_small e.version v, tt))))))
kind_plain e DecisionTaskCompleted i v h = (refl, (id_small e.id i, (refl, (word _ refl, (refl, (version_small e.version v, tt))))))
kind_plain e (DecisionTaskFailed cause) i v h = (refl, (name_text cause h, (refl, (id_small e.id i, (refl, (word _ refl, (refl, (version_small e.version v, tt))))))))
kind_plain e DecisionTaskTimedOut i v h = (refl, (id_small e.id i, (refl, (word _ refl, (refl, (version_small e.version v, tt))))))
kind_plain e (ActivityTaskScheduled id type) i v h = (refl, (name_text id h.0, (refl, (name_text type h.1, (refl, (id_small e.id i, (refl, (word _ refl, (refl, (version_small e.version v, tt))))))))))
kind_plain e (ActivityTaskStarted id) i v h = (refl, (name_text id h, (refl, (id_small e.id i, (refl, (word _ refl, (refl, (version_small e.version v, tt))))))))
kind_plain e (ActivityTaskCompleted id result) i v h = (refl, (name_text id h.0, (refl, (id_small e.id i, (refl, (word _ refl, (refl, (name_text result h.1, (refl, (version_small e.version v, tt))))))))))
kind_plain e (ActivityTaskFailed id reason) i v h = (refl, (name_text id h.0, (refl, (id_small e.id i, (refl, (word _ refl, (refl, (name_text reason h.1, (refl, (version_small e.version v, tt))))))))))
kind_plain e (ActivityTaskTimedOut id) i v h = (refl, (name_text id h, (refl, (id_small e.id i, (refl, (word _ refl, (refl, (version_small e.version v, tt))))))))
kind_plain e (TimerStarted id) i v h = (refl, (id_small e.id i, (refl, (word _ refl, (refl, (name_text id h, (refl, (version_small e.version v, tt))))))))
kind_plain e (TimerFired id) i v h = (refl, (id_small e.id i, (refl, (word _ refl, (refl, (name_text id h, (refl, (version_small e.version v, tt))))))))
kind_plain e (TimerCanceled id) i v h = (refl, (id_small e.id i, (refl, (word _ refl, (refl, (name_text id h, (refl, (version_small e.version v, tt))))))))
kind_plain e (StartChildWorkflowExecutionInitiated id type) i v h = (refl, (id_small e.id i, (refl, (word _ refl, (refl, (version_small e.version v, (refl, (name_text id h.0, (refl, (name_text type h.1, tt))))))))))
kind_plain e (ChildWorkflowExecutionStarted id) i v h = (refl, (id_small e.id i, (refl, (word _ refl, (refl, (version_small e.version v, (refl, (name_text id h, tt))))))))
kind_plain e (ChildWorkflowExecutionCompleted id result) i v h = (refl, (id_small e.id i, (refl, (word _ refl, (refl, (name_text result h.1, (refl, (version_small e.version v, (refl, (name_text id h.0, tt))))))))))
kind_plain e (ChildWorkflowExecutionFailed id reason) i v h = (refl, (id_small e.id i, (refl, (word _ refl, (refl, (name_text reason h.1, (refl, (version_small e.version v, (refl, (name_text id h.0, tt))))))))))
kind_plain e (MarkerRecorded name) i v h = (refl, (id_small e.id i, (refl, (word _ refl, (refl, (name_text name h, (refl, (version_small e.version v, tt))))))))

events_plain : (es : List Event) → EventsFit es → ItemsArePlain (items_of (map event_data es))
events_plain [] h = tt
events_plain (e ∷ es) h = (kind_plain e e.kind h.0.0 h.0.1 h.0.2, events_plain es h.1)

-- the data of a batch with these for its carrier and its parent
abbrev pub data_with : Batch → Option BatchKey → Option BatchKey → Data
data_with b carrier parent =
    object (with_carrier carrier
    (put (codes "domain") (string b.domain)
    (put (codes "events") (array (items_of (map event_data b.events)))
    (put (codes "parent") (parent_data parent)
    (put (codes "run") (string (run_text b.run))
    (put (codes "task") (num b.key.task)
    (put (codes "version") (num b.key.version)
    (put (codes "workflow") (string b.workflow) no_members))))))))

options_plain : (b : Batch) (carrier parent : Option BatchKey) → InRange b → OptionKeyFits carrier → OptionKeyFits parent → IsPlain (data_with b carrier parent)
options_plain b None None h c p = (
  refl,
  (
    name_text b.domain h.domain,
    (
      refl,
      (
        events_plain b.events h.events,
        (
          refl,
          (
            tt,
            (
              refl,
              (
                run_is_text b.run,
                (refl, (id_small b.key.task h.key.0, (refl, (version_small b.key.version h.key.1, (refl, (name_text b.workflow h.workflow, tt)))))),
              ),
            ),
          ),
        ),
      ),
    ),
  ),
)
options_plain b None (Some parent) h c p = (
  refl,
  (
    name_text b.domain h.domain,
    (
      refl,
      (
        events_plain b.events h.events,
        (
          refl,
          (
            key_plain parent p,
            (
              refl,
              (
                run_is_text b.run,
                (refl, (id_small b.key.task h.key.0, (refl, (version_small b.key.version h.key.1, (refl, (name_text b.workflow h.workflow, tt)))))),
              ),
            ),
          ),
        ),
      ),
    ),
  ),
)
options_plain b (Some carrier) None h c p = (
  refl,
  (
    key_plain carrier c,
    (
      refl,
      (
        name_text b.domain h.domain,
        (
          refl,
          (
            events_plain b.events h.events,
            (
              refl,
              (
                tt,
                (
                  refl,
                  (
                    run_is_text b.run,
                    (refl, (id_small b.key.task h.key.0, (refl, (version_small b.key.version h.key.1, (refl, (name_text b.workflow h.workflow, tt)))))),
                  ),
                ),
              ),
            ),
          ),
        ),
      ),
    ),
  ),
)
options_plain b (Some carrier) (Some parent) h c p = (
  refl,
  (
    key_plain carrier c,
    (
      refl,
      (
        name_text b.domain h.domain,
        (
          refl,
          (
            events_plain b.events h.events,
            (
              refl,
              (
                key_plain parent p,
                (
                  refl,
                  (
                    run_is_text b.run,
                    (refl, (id_small b.key.task h.key.0, (refl, (version_small b.key.version h.key.1, (refl, (name_text b.workflow h.workflow, tt)))))),
                  ),
                ),
              ),
            ),
          ),
        ),
      ),
    ),
  ),
)

pub batch_plain : (b : Batch) → InRange b → IsPlain (batch_data b)
batch_plain b h = options_plain b b.carrier b.parent h h.carrier h.parent

-- ---- how deep it is nested

kind_depth : (e : Event) (k : EventKind) → tree.depth (outline (object (event_members e k))) ≤ 2
unfolding with_attributes
kind_depth e (WorkflowExecutionStarted type) = lit≤ tt
kind_depth e (WorkflowExecutionSignaled name input None) = lit≤ tt
kind_depth e (WorkflowExecutionSignaled name input (Some origin)) = lit≤ tt
kind_depth e WorkflowExecutionCancelRequested = lit≤ tt
kind_depth e (WorkflowExecutionCompleted result) = lit≤ tt
kind_depth e (WorkflowExecutionFailed reason) = lit≤ tt
kind_depth e WorkflowExecutionCanceled = lit≤ tt
kind_depth e (WorkflowExecutionTerminated reason) = lit≤ tt
kind_depth e (WorkflowExecutionContinuedAsNew run type) = lit≤ tt
kind_depth e DecisionTaskScheduled = lit≤ tt
kind_depth e DecisionTaskStarted = lit≤ tt
kind_depth e DecisionTaskCompleted = lit≤ tt
kind_depth e (DecisionTaskFailed cause) = lit≤ tt
kind_depth e DecisionTaskTimedOut = lit≤ tt
kind_depth e (ActivityTaskScheduled id type) = lit≤ tt
kind_depth e (ActivityTaskStarted id) = lit≤ tt
kind_depth e (ActivityTaskCompleted id result) = lit≤ tt
kind_depth e (ActivityTaskFailed id reason) = lit≤ tt
kind_depth e (ActivityTaskTimedOut id) = lit≤ tt
kind_depth e (TimerStarted id) = lit≤ tt
kind_depth e (TimerFired id) = lit≤ tt
kind_depth e (TimerCanceled id) = lit≤ tt
kind_depth e (StartChildWorkflowExecutionInitiated id type) = lit≤ tt
kind_depth e (ChildWorkflowExecutionStarted id) = lit≤ tt
kind_depth e (ChildWorkflowExecutionCompleted id result) = lit≤ tt
kind_depth e (ChildWorkflowExecutionFailed id reason) = lit≤ tt
kind_depth e (MarkerRecorded name) = lit≤ tt

events_depth : (es : List Event) → tree.items_depth (items_outline (items_of (map event_data es))) ≤ 2
events_depth [] = lit≤ tt
events_depth (e ∷ es) = let one = kind_depth e e.kind in let more = events_depth es in omega (arith, one, more)

options_depth : (b : Batch) (carrier parent : Option BatchKey) → tree.items_depth (items_outline (items_of (map event_data b.events))) ≤ 2 → tree.depth (outline (data_with b carrier parent)) ≤ 127
options_depth b None None h = omega (arith, h)
options_depth b None (Some parent) h = omega (arith, h)
options_depth b (Some carrier) None h = omega (arith, h)
options_depth b (Some carrier) (Some parent) h = omega (arith, h)

pub batch_depth : (b : Batch) → tree.depth (outline (batch_data b)) ≤ 127
batch_depth b = options_depth b b.carrier b.parent (events_depth b.events)
