-- What the calls of a map say, as what is put under a name.
use Rattle.std.proofs.Common.{◌≡◌, true, List, Some, Result, Ok, Err, OnOk, OnErr, cond, sym, ◌∙◌, subst, ap, false}
use Rattle.std.specs.Prelude.{IfSome}
use Rattle.std.specs.List.Sorted.{IsStrictlySortedBy}
use Rattle.std.specs.Map.{keys_of}
use Rattle.std.specs.Ordering.{is_eq}
use Rattle.std.proofs.lemmas.Map.Text.{is_eq-slice_cmp}
use Rattle.ndc_model_cells.specs.declared.message.Message.{Message}
use Rattle.ndc_model_cells.specs.Places.{is_of}
use Rattle.ndc_domain.specs.Records.{names_cmp}
use Rattle.ndc_event.specs.declared.name.Name.{Name}
use Rattle.ndc_model_sets.specs.Learned.{learned}
use Rattle.ndc_model_sets.specs.Sound.{IsSound}
use Rattle.ndc_model_cells.specs.Messages.{IsMessage, IsNewTo}
use Rattle.ndc_model_cells.specs.Workflow.{WorkflowValue}
use Rattle.ndc_shard_workflows.specs.Workflow.{after_arrival, empty_workflow, has_arrived, with_written}
use Rattle.ndc_shard_workflows.proofs.OneWriteLemmas.{CanBeWritten}
use Rattle.ndc_shard_workflows.specs.Named.{under, IsPut}
use Rattle.ndc_shard_workflows.specs.Workflows.{IsOwn}
use Rattle.ndc_shard_workflows.specs.Writing.{MayBeWrittenTogether}
use Rattle.ndc_shard_workflows.proofs.OwnLemmas.{empty-own, own-after, own-written}

-- a map in which a value was put
pub map-put : {X : Type 0} (name : Name) (x : X) (before after : List (Name × X)) → ((q : Name) → under q after ≡ cond (is_eq (names_cmp name q)) (Some x) (under q before))
    → IsStrictlySortedBy names_cmp (keys_of after) → IsPut name x before after
map-put name x before after found ordered = record { ordered = ordered; found = λ other. found other ∙ ap (λ t. cond t (Some x) (under other before)) (is_eq-slice_cmp name other) }

-- a value that is equal was put too, in a list that is equal
pub same-put : {X : Type 0} (name key : Name) (x y : X) (before start after : List (Name × X)) → key ≡ name → x ≡ y → start ≡ before → IsPut key x start after → IsPut name y before after
same-put name key x y before start after k e s put =
    subst (λ (n : Name). IsPut n y before after) k (subst (λ v. IsPut key v before after) e (subst (λ es. IsPut key x es after) s put))

-- the workflow to which a message came is one of its names, also for want of memory
pub own-either : {A E : Type 0} (domain workflow : Name) (sent : Message) (w new : WorkflowValue) (r : Result A E) → OnOk r (new ≡ after_arrival sent w) → OnErr r (new ≡ empty_workflow)
    → IsOwn domain workflow w → is_of domain workflow sent.batch ≡ true → IfSome sent.second (λ b. is_of domain workflow b ≡ true) → IsMessage sent
    → (has_arrived sent.batch.key w ≡ false → IsNewTo w.arrived sent) → IsSound (learned (after_arrival sent w).arrived) → IsOwn domain workflow new
own-either domain workflow sent w new (Ok x) e f own first second message fresh sound =
    subst (IsOwn domain workflow) (sym e) (own-after domain workflow sent w own first second message fresh sound)
own-either domain workflow sent w new (Err x) e f own first second message fresh sound = subst (IsOwn domain workflow) (sym f) (empty-own domain workflow)

-- what may be written to a workflow can be
pub can-be : (sent : Message) (w : WorkflowValue) → MayBeWrittenTogether sent w → CanBeWritten sent w
can-be sent w may = record { together = may.together; fresh = may.fresh; reached = may.reached; awaited = may.awaited; sound = may.sound; small = may.small }

-- the workflow that is written to, or is not
pub own-written-either : {A E : Type 0} (domain workflow : Name) (sent : Message) (w new : WorkflowValue) (r : Result A E) → OnOk r (new ≡ with_written sent w) → OnErr r (new ≡ w)
    → IsOwn domain workflow w → is_of domain workflow sent.batch ≡ true → domain ≡ sent.batch.domain → workflow ≡ sent.batch.workflow → OnOk r (MayBeWrittenTogether sent w) → IsOwn domain workflow new
own-written-either domain workflow sent w new (Ok x) e f own first d n may =
    subst (IsOwn domain workflow) (sym e) (own-written domain workflow sent w own first second (can-be sent w may))
  where
    second : IfSome sent.second (λ b. is_of domain workflow b ≡ true)
    second = subst (λ (k : Name). IfSome sent.second (λ b. is_of k workflow b ≡ true)) (sym d) (subst (λ (k : Name). IfSome sent.second (λ b. is_of sent.batch.domain k b ≡ true)) (sym n) may.own)
own-written-either domain workflow sent w new (Err x) e f own first d n may = subst (IsOwn domain workflow) (sym f) own

-- from what holds where a call fails
pub on-err : {A E P Q : Type 0} (r : Result A E) → (P → Q) → OnErr r P → OnErr r Q
on-err (Ok x) f p = tt
on-err (Err e) f p = f p
