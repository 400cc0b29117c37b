-- The text of a batch has the bytes from space to `~` alone, as the texts in a frame.
use Rattle.std.proofs.Common.{◌≡◌, ℕ, zero, suc, ◌<◌, ◌≤◌, ◌^◌, Bool, true, false, ◌&&◌, List, [], ◌∷◌, ◌++◌, map, Option, Some, None, codes, refl, arith, leb-true, inl, inr}
use Rattle.std.specs.Prelude.{IsTrue, nat_le, if◌then◌else◌, ⊤}
use Rattle.std.specs.List.{list_all}
use Rattle.std.proofs.lemmas.Bool.{and_parts, cases_eq}
use Rattle.json.specs.Print.{escape_byte, escape, quoted}
use Rattle.serde_json.specs.Data.{Num, unsigned, negative, float, Data, null, boolean, number, string, array, object, Items, no_items, item, Members, no_members, member, put}
use Rattle.serde_json.specs.View.{items_of}
use Rattle.serde_json.specs.Written.{comma_if, compact_text, items_text, members_text}
use Rattle.ndc_node_shapes.specs.Bytes.{is_plain}
use Rattle.ndc_node_shapes.proofs.PlainTexts.{IsPlainText, plain_joined, number_plain, name_plain}
use Rattle.ndc_node_shapes.proofs.Quoted.{run_plain}
use Rattle.ndc_event.specs.Key.{run_text}
use Rattle.ndc_event.specs.Kind.{kind_name}
use Rattle.ndc_event.specs.declared.batch.Batch.{Batch}
use Rattle.ndc_event.specs.declared.batch.Event.{Event}
use Rattle.ndc_event.specs.declared.key.BatchKey.{BatchKey}
use Rattle.ndc_event.specs.declared.key.Origin.{Origin}
use Rattle.ndc_event.specs.declared.kind.EventKind.{EventKind}
use Rattle.ndc_event.specs.declared.kind.EventKind.TheVariants.{WorkflowExecutionStarted, WorkflowExecutionSignaled, WorkflowExecutionCancelRequested, WorkflowExecutionCompleted, WorkflowExecutionFailed, WorkflowExecutionCanceled, WorkflowExecutionTerminated, WorkflowExecutionContinuedAsNew, DecisionTaskScheduled, DecisionTaskStarted, DecisionTaskCompleted, DecisionTaskFailed, DecisionTaskTimedOut, ActivityTaskScheduled, ActivityTaskStarted, ActivityTaskCompleted, ActivityTaskFailed, ActivityTaskTimedOut, TimerStarted, TimerFired, TimerCanceled, StartChildWorkflowExecutionInitiated, ChildWorkflowExecutionStarted, ChildWorkflowExecutionCompleted, ChildWorkflowExecutionFailed, MarkerRecorded}
use Rattle.ndc_text.specs.Ranges.{is_id, is_version, IsName, KeyFits, OptionKeyFits, OriginFits, KindFits, EventsFit, InRange}
use Rattle.ndc_text.specs.Text.{num, key_data, origin_data, with_attributes, event_members, event_data, parent_data, with_carrier, batch_data}
use Rattle.ndc_event.specs.Key.{run_text}
use Rattle.ndc_event.specs.Kind.{kind_name}
use Rattle.ndc_text.specs.Text.{batch_text}

-- ---- data

abbrev IsShownNumber : Num → Type 0
IsShownNumber (unsigned n) = n < 10 ^ 18
IsShownNumber (negative z) = ⊥
IsShownNumber (float x) = ⊥

abbrev mutual
  IsShown : Data → Type 0
  IsShown null = ⊤
  IsShown (boolean b) = ⊤
  IsShown (number n) = IsShownNumber n
  IsShown (string s) = IsPlainText s
  IsShown (array ds) = ItemsAreShown ds
  IsShown (object ms) = MembersAreShown ms

  ItemsAreShown : Items → Type 0
  ItemsAreShown no_items = ⊤
  ItemsAreShown (item d ds) = IsShown d × ItemsAreShown ds

  MembersAreShown : Members → Type 0
  MembersAreShown no_members = ⊤
  MembersAreShown (member k d ms) = IsPlainText k × (IsShown d × MembersAreShown ms)

-- the escapes of plain bytes below n are plain
abbrev plain_below : ℕ → Bool
plain_below zero = true
plain_below (suc n) = (if is_plain n then list_all is_plain (escape_byte n) else true) && plain_below n

escape_by : (n : ℕ) (test : Bool) → test ≡ true → (if test then list_all is_plain (escape_byte n) else true) ≡ true → list_all is_plain (escape_byte n) ≡ true
escape_by n true e h = h
escape_by n false e h = absurd (cc)

below : (n : ℕ) → plain_below n ≡ true → (x : ℕ) → x < n → is_plain x ≡ true → list_all is_plain (escape_byte x) ≡ true
below zero e x h p = absurd (omega arith)
below (suc n) e x h p =
    let q = and_parts _ (plain_below n) e in
    elim (cases_eq x n) [ inl same ↦ escape_by x (is_plain x) p (rw same q.0) | inr other ↦ below n q.1 x (omega arith) p ]

all_plain : plain_below 127 ≡ true
unfolding escape_byte
all_plain = refl

escape_plain : (s : List ℕ) → IsPlainText s → IsPlainText (escape s)
escape_plain [] h = refl
escape_plain (x ∷ s) h =
    let p = and_parts (is_plain x) (list_all is_plain s) h in
    let high : x ≤ 126 = leb-true x 126 (and_parts (nat_le 32 x) (nat_le x 126) p.0).1 in
    plain_joined (escape_byte x) (escape s) (below 127 all_plain x (omega arith) p.0) (escape_plain s p.1)

quoted_shown : (s : List ℕ) → IsPlainText s → IsPlainText (quoted s)
quoted_shown s h = plain_joined (escape s) (34 ∷ []) (escape_plain s h) refl

comma_shown : (later : Bool) → IsPlainText (comma_if later)
comma_shown true = refl
comma_shown false = refl

mutual
  value_shown : (d : Data) → IsShown d → IsPlainText (compact_text d)
  value_shown null h = refl
  value_shown (boolean true) h = refl
  value_shown (boolean false) h = refl
  value_shown (number (unsigned n)) h = number_plain n h
  value_shown (number (negative z)) h = absurd h
  value_shown (number (float x)) h = absurd h
  value_shown (string s) h = quoted_shown s h
  value_shown (array ds) h = items_shown false ds h
  value_shown (object ms) h = members_shown false ms h

  items_shown : (later : Bool) (ds : Items) → ItemsAreShown ds → IsPlainText (items_text later ds)
  items_shown later no_items h = refl
  items_shown later (item d ds) h =
      plain_joined (comma_if later) (compact_text d ++ items_text true ds) (comma_shown later) (plain_joined (compact_text d) (items_text true ds) (value_shown d h.0) (items_shown true ds h.1))

  members_shown : (later : Bool) (ms : Members) → MembersAreShown ms → IsPlainText (members_text later ms)
  members_shown later no_members h = refl
  members_shown later (member k d ms) h =
      plain_joined (comma_if later) (quoted k ++ 58 ∷ (compact_text d ++ members_text true ms)) (comma_shown later)
      (plain_joined (quoted k) (58 ∷ (compact_text d ++ members_text true ms)) (quoted_shown k h.0) (plain_joined (compact_text d) (members_text true ms) (value_shown d h.1.0) (members_shown true ms h.1.1)))

-- ---- batches

id_small : (n : ℕ) → IsTrue (is_id n) → n < 10 ^ 18
id_small n h = let most : n ≤ 10 ^ 12 = leb-true n (10 ^ 12) (and_parts (nat_le 1 n) (nat_le n (10 ^ 12)) h).1 in omega arith

version_small : (n : ℕ) → IsTrue (is_version n) → n < 10 ^ 18
version_small n h = let most : n ≤ 10 ^ 13 = leb-true n (10 ^ 13) h in omega arith

name_shown : (bytes : List ℕ) → IsName bytes → IsPlainText bytes
name_shown bytes h = name_plain bytes h

key_shown : (key : BatchKey) → KeyFits key → IsShown (key_data key)
key_shown key h = (refl, (id_small key.task h.0, (refl, (version_small key.version h.1, tt))))

origin_shown : (o : Origin) → OriginFits (Some o) → IsShown (origin_data o)
origin_shown o h = (refl, (id_small o.event h.0, (refl, (run_plain o.run, (refl, (version_small o.version h.2, tt))))))

kind_shown : (e : Event) (k : EventKind) → IsTrue (is_id e.id) → IsTrue (is_version e.version) → KindFits k → IsShown (object (event_members e k))
unfolding with_attributes kind_name
kind_shown e (WorkflowExecutionStarted type) i v h = (refl, (id_small e.id i, (refl, (refl, (refl, (version_small e.version v, (refl, (name_shown type h, tt))))))))
kind_shown e (WorkflowExecutionSignaled name input None) i v h = (refl, (id_small e.id i, (refl, (refl, (refl, (name_shown input h.1, (refl, (name_shown name h.0, (refl, (version_small e.version v, tt))))))))))
kind_shown e (WorkflowExecutionSignaled name input (Some origin)) i v h = (refl, (id_small e.id i, (refl, (refl, (refl, (name_shown input h.1, (refl, (origin_shown origin h.2, (refl, (name_shown name h.0, (refl, (version_small e.version v, tt))))))))))))
kind_shown e WorkflowExecutionCancelRequested i v h = (refl, (id_small e.id i, (refl, (refl, (refl, (version_small e.version v, tt))))))
kind_shown e (WorkflowExecutionCompleted result) i v h = (refl, (id_small e.id i, (refl, (refl, (refl, (name_shown result h, (refl, (version_small e.version v, tt))))))))
kind_shown e (WorkflowExecutionFailed reason) i v h = (refl, (id_small e.id i, (refl, (refl, (refl, (name_shown reason h, (refl, (version_small e.version v, tt))))))))
kind_shown e WorkflowExecutionCanceled i v h = (refl, (id_small e.id i, (refl, (refl, (refl, (version_small e.version v, tt))))))
kind_shown e (WorkflowExecutionTerminated reason) i v h = (refl, (id_small e.id i, (refl, (refl, (refl, (name_shown reason h, (refl, (version_small e.version v, tt))))))))
kind_shown e (WorkflowExecutionContinuedAsNew run type) i v h = (refl, (id_small e.id i, (refl, (refl, (refl, (run_plain run, (refl, (version_small e.version v, (refl, (name_shown type h.1, tt))))))))))
kind_shown e DecisionTaskScheduled i v h = (refl, (id_small e.id i, (refl, (refl, (refl, (version_small e.version v, tt))))))
kind_shown e DecisionTaskStarted i v h = (refl, (id_small e.id i, (refl, (refl, (refl, (version_small e.version v, tt))))))
kind_shown e DecisionTaskCompleted i v h = (refl, (id_small e.id i, (refl, (refl, (refl, (version_small e.version v, tt))))))
kind_shown e (DecisionTaskFailed cause) i v h = (refl, (name_shown cause h, (refl, (id_small e.id i, (refl, (refl, (refl, (version_small e.version v, tt))))))))
kind_shown e DecisionTaskTimedOut i v h = (refl, (id_small e.id i, (refl, (refl, (refl, (version_small e.version v, tt))))))
kind_shown e (ActivityTaskScheduled id type) i v h = (refl, (name_shown id h.0, (refl, (name_shown type h.1, (refl, (id_small e.id i, (refl, (refl, (refl, (version_small e.version v, tt))))))))))
kind_shown e (ActivityTaskStarted id) i v h = (refl, (name_shown id h, (refl, (id_small e.id i, (refl, (refl, (refl, (version_small e.version v, tt))))))))
kind_shown e (ActivityTaskCompleted id result) i v h = (refl, (name_shown id h.0, (refl, (id_small e.id i, (refl, (refl, (refl, (name_shown result h.1, (refl, (version_small e.version v, tt))))))))))
kind_shown e (ActivityTaskFailed id reason) i v h = (refl, (name_shown id h.0, (refl, (id_small e.id i, (refl, (refl, (refl, (name_shown reason h.1, (refl, (version_small e.version v, tt))))))))))
kind_shown e (ActivityTaskTimedOut id) i v h = (refl, (name_shown id h, (refl, (id_small e.id i, (refl, (refl, (refl, (version_small e.version v, tt))))))))
kind_shown e (TimerStarted id) i v h = (refl, (id_small e.id i, (refl, (refl, (refl, (name_shown id h, (refl, (version_small e.version v, tt))))))))
kind_shown e (TimerFired id) i v h = (refl, (id_small e.id i, (refl, (refl, (refl, (name_shown id h, (refl, (version_small e.version v, tt))))))))
kind_shown e (TimerCanceled id) i v h = (refl, (id_small e.id i, (refl, (refl, (refl, (name_shown id h, (refl, (version_small e.version v, tt))))))))
kind_shown e (StartChildWorkflowExecutionInitiated id type) i v h = (refl, (id_small e.id i, (refl, (refl, (refl, (version_small e.version v, (refl, (name_shown id h.0, (refl, (name_shown type h.1, tt))))))))))
kind_shown e (ChildWorkflowExecutionStarted id) i v h = (refl, (id_small e.id i, (refl, (refl, (refl, (version_small e.version v, (refl, (name_shown id h, tt))))))))
kind_shown e (ChildWorkflowExecutionCompleted id result) i v h = (refl, (id_small e.id i, (refl, (refl, (refl, (name_shown result h.1, (refl, (version_small e.version v, (refl, (name_shown id h.0, tt))))))))))
kind_shown e (ChildWorkflowExecutionFailed id reason) i v h = (refl, (id_small e.id i, (refl, (refl, (refl, (name_shown reason h.1, (refl, (version_small e.version v, (refl, (name_shown id h.0, tt))))))))))
kind_shown e (MarkerRecorded name) i v h = (refl, (id_small e.id i, (refl, (refl, (refl, (name_shown name h, (refl, (version_small e.version v, tt))))))))

events_shown : (es : List Event) → EventsFit es → ItemsAreShown (items_of (map event_data es))
events_shown [] h = tt
events_shown (e ∷ es) h = (kind_shown e e.kind h.0.0 h.0.1 h.0.2, events_shown es h.1)

-- the data of a batch with these for its carrier and its parent
abbrev data_with : Batch → Option BatchKey → Option BatchKey → Data
data_with b carrier parent =
    object (with_carrier carrier
    (put (codes "domain") (string b.domain)
    (put (codes "events") (array (items_of (map event_data b.events)))
    (put (codes "parent") (parent_data parent)
    (put (codes "run") (string (run_text b.run))
    (put (codes "task") (num b.key.task)
    (put (codes "version") (num b.key.version)
    (put (codes "workflow") (string b.workflow) no_members))))))))

options_shown : (b : Batch) (carrier parent : Option BatchKey) → InRange b → OptionKeyFits carrier → OptionKeyFits parent → IsShown (data_with b carrier parent)
options_shown b None None h c p = (
  refl,
  (
    name_shown b.domain h.domain,
    (
      refl,
      (
        events_shown b.events h.events,
        (
          refl,
          (
            tt,
            (
              refl,
              (
                run_plain b.run,
                (refl, (id_small b.key.task h.key.0, (refl, (version_small b.key.version h.key.1, (refl, (name_shown b.workflow h.workflow, tt)))))),
              ),
            ),
          ),
        ),
      ),
    ),
  ),
)
options_shown b None (Some parent) h c p = (
  refl,
  (
    name_shown b.domain h.domain,
    (
      refl,
      (
        events_shown b.events h.events,
        (
          refl,
          (
            key_shown parent p,
            (
              refl,
              (
                run_plain b.run,
                (refl, (id_small b.key.task h.key.0, (refl, (version_small b.key.version h.key.1, (refl, (name_shown b.workflow h.workflow, tt)))))),
              ),
            ),
          ),
        ),
      ),
    ),
  ),
)
options_shown b (Some carrier) None h c p = (
  refl,
  (
    key_shown carrier c,
    (
      refl,
      (
        name_shown b.domain h.domain,
        (
          refl,
          (
            events_shown b.events h.events,
            (
              refl,
              (
                tt,
                (
                  refl,
                  (
                    run_plain b.run,
                    (refl, (id_small b.key.task h.key.0, (refl, (version_small b.key.version h.key.1, (refl, (name_shown b.workflow h.workflow, tt)))))),
                  ),
                ),
              ),
            ),
          ),
        ),
      ),
    ),
  ),
)
options_shown b (Some carrier) (Some parent) h c p = (
  refl,
  (
    key_shown carrier c,
    (
      refl,
      (
        name_shown b.domain h.domain,
        (
          refl,
          (
            events_shown b.events h.events,
            (
              refl,
              (
                key_shown parent p,
                (
                  refl,
                  (
                    run_plain b.run,
                    (refl, (id_small b.key.task h.key.0, (refl, (version_small b.key.version h.key.1, (refl, (name_shown b.workflow h.workflow, tt)))))),
                  ),
                ),
              ),
            ),
          ),
        ),
      ),
    ),
  ),
)

pub batch_shown : (b : Batch) → InRange b → IsShown (batch_data b)
batch_shown b h = options_shown b b.carrier b.parent h h.carrier h.parent

pub batch_is_plain : (b : Batch) → InRange b → IsPlainText (batch_text b)
unfolding batch_text
batch_is_plain b h = value_shown (batch_data b) (batch_shown b h)
