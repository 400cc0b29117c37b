-- A message that nobody vouches for is handed to its workflow in a domain and in a cell.
use Rattle.std.proofs.Common.{◌≡◌, Bool, true, false, ◌&&◌, List, [], Option, Some, Result, Ok, Err, IfOk, OnOk, refl, sym, ◌∙◌, subst, ap, if◌then◌else◌}
use Rattle.std.specs.Prelude.{IfErr, IfSome}
use Rattle.std.specs.Str.{bytes_eq}
use Rattle.std.proofs.lemmas.Slice.Eq.{bytes_eq-Decides}
use Rattle.ndc_event.specs.declared.batch.Batch.{Batch}
use Rattle.ndc_event.specs.declared.name.Name.{Name}
use Rattle.ndc_model_cells.specs.Cells.{Cell, learned_of}
use Rattle.ndc_model_cells.specs.Places.{is_of}
use Rattle.ndc_model_cells.specs.Workflow.{WorkflowValue, workflow_of}
use Rattle.ndc_model_cells.specs.declared.message.Message.{Message}
use Rattle.ndc_model_sets.specs.Learned.{learned}
use Rattle.ndc_model_sets.specs.Sound.{IsSound}
use Rattle.ndc_shard_runs.specs.Kept.{is_due}
use Rattle.ndc_shard_workflows.specs.Admitting.{IsAdmitted, IsLeftBy}
use Rattle.ndc_shard_workflows.specs.Behind.{HoldBehind}
use Rattle.ndc_shard_workflows.specs.Due.{HoldDue, is_listed}
use Rattle.ndc_shard_workflows.specs.Listed.{IsListedWhereBehind, IsListedWhereDue}
use Rattle.ndc_shard_workflows.specs.Named.{IsPut, StayUnder, under}
use Rattle.ndc_shard_workflows.specs.Terms.{TermsValue}
use Rattle.ndc_shard_workflows.specs.Workflow.{IsWorkflow}
use Rattle.ndc_shard_workflows.specs.Workflows.{AreDomains, DomainValue, IsOwn, OthersStay, cell_of, workflow_or_empty, workflows_in}
use Rattle.ndc_shard_workflows.specs.declared.admission.AdmitError.{AdmitError}
use Rattle.ndc_shard_workflows.specs.declared.admission.AdmitError.TheVariants.{Memory, Spent}
use Rattle.ndc_shard_workflows.specs.declared.arrival.Admitted.{Admitted}
use Rattle.ndc_shard_workflows.proofs.AdmittedLemmas.{admitted-own}
use Rattle.ndc_shard_workflows.proofs.NameLemmas.{name-itself}
use Rattle.ndc_shard_workflows.proofs.OwnLemmas.{empty-own}
use Rattle.ndc_shard_workflows.proofs.SameLemmas.{names-of}
use Rattle.ndc_shard_workflows.proofs.WriteLemmas.{found-in}

-- a value that was put stands under its name
module _ {X : Type 0} (name : Name) (x : X) (before after : List (Name × X)) (put : IsPut name x before after) where
  pub put-at : under name after ≡ Some x
  put-at = put.found name ∙ ap (λ t. if t then Some x else under name before) (name-itself name)

  pub put-others : StayUnder name before after
  put-others other e = put.found other ∙ ap (λ t. if t then Some x else under other before) e

-- the workflow is one of its names then, also for want of memory
pub own-taken : (domain workflow : Name) (terms : TermsValue) (sent : Message) (before after : WorkflowValue) (r : Result Admitted AdmitError) → IfOk r (λ it. IsAdmitted terms sent it.admission before after)
    → OnOk r (IsWorkflow after) → OnOk r (IsSound (learned after.arrived)) → IfErr r (λ error. IsLeftBy error before after) → IsOwn domain workflow before → is_of domain workflow sent.batch ≡ true
    → IfSome sent.second (λ b. is_of domain workflow b ≡ true) → IsOwn domain workflow after
own-taken domain workflow terms sent before after (Ok it) admitted is sound err own first second = admitted-own domain workflow terms sent before after own first second is sound it.admission admitted
own-taken domain workflow terms sent before after (Err Memory) admitted is sound err own first second = subst (IsOwn domain workflow) (sym err) own
own-taken domain workflow terms sent before after (Err Spent) admitted is sound err own first second = subst (IsOwn domain workflow) (sym err) (empty-own domain workflow)

-- for want of memory it is as it was
pub left-memory : {A : Type 0} (r : Result A AdmitError) (before after : WorkflowValue) → IfErr r (λ error. IsLeftBy error before after) → r ≡ Err Memory → after ≡ before
left-memory (Ok it) before after err e = absurd (cc)
left-memory (Err Memory) before after err e = err
left-memory (Err Spent) before after err e = absurd (cc)

-- a domain was put in which each workflow but that of a batch is as it was: so is each other one of the cell
module _ (domains after : List (Name × DomainValue)) (are : AreDomains domains) (later : AreDomains after) (b : Batch) (o : Option DomainValue) (at : under b.domain domains ≡ o) (new : DomainValue)
    (put : IsPut b.domain new domains after) where
  pub others-stay : StayUnder b.workflow (workflows_in o) new → OthersStay b (cell_of domains) (cell_of after)
  others-stay stay domain workflow other = by (bytes_eq b.domain domain) refl other
    where
      by : (t : Bool) → bytes_eq b.domain domain ≡ t → (t && bytes_eq b.workflow workflow) ≡ false → workflow_of domain workflow (cell_of after) ≡ workflow_of domain workflow (cell_of domains)
      by false e h =
          found-in domain workflow after later (under domain domains) (put-others b.domain new domains after put domain e)
          ∙ sym (found-in domain workflow domains are (under domain domains) refl)
      by true e h =
          let same : b.domain ≡ domain = (bytes_eq-Decides b.domain domain).0 e in
          found-in domain workflow after later (Some new) (ap (λ (n : Name). under n after) (sym same) ∙ put-at b.domain new domains after put)
          ∙ ap workflow_or_empty (stay workflow h)
          ∙ sym (found-in domain workflow domains are o (ap (λ (n : Name). under n domains) (sym same) ∙ at))

-- what is listed then
module _ (b : Batch) (old new : Cell) (others : OthersStay b old new) (before after : List (Name × Name)) where
  pub due-handed : (may_be_due : Bool) → (may_be_due ≡ false → is_due (learned_of b.domain b.workflow new) ≡ false) → IsListedWhereDue b.domain b.workflow may_be_due before after → HoldDue before old → HoldDue after new
  due-handed may_be_due due listed hold d w e = by (is_of d w b) refl
    where
      by : (t : Bool) → is_of d w b ≡ t → is_due (learned_of d w new) ≡ false
      by true f =
          let names = names-of d w b f in
          subst (λ (k : Name). is_due (learned_of k w new) ≡ false) names.0
          (subst (λ (k : Name). is_due (learned_of b.domain k new) ≡ false) names.1
          (due (listed.own (subst (λ (k : Name). is_listed k b.workflow after ≡ false) (sym names.0) (subst (λ (k : Name). is_listed d k after ≡ false) (sym names.1) e)))))
      by false f = ap (λ (v : WorkflowValue). is_due (learned v.arrived)) (others d w f) ∙ hold d w (listed.kept d w e)

  pub behind-handed : (is_behind : Bool) → (is_behind ≡ false → (workflow_of b.domain b.workflow new).waiting ≡ []) → IsListedWhereBehind b.domain b.workflow is_behind before after → HoldBehind before old → HoldBehind after new
  behind-handed is_behind none listed hold d w e = by (is_of d w b) refl
    where
      by : (t : Bool) → is_of d w b ≡ t → (workflow_of d w new).waiting ≡ []
      by true f =
          let names = names-of d w b f in
          subst (λ (k : Name). (workflow_of k w new).waiting ≡ []) names.0
          (subst (λ (k : Name). (workflow_of b.domain k new).waiting ≡ []) names.1
          (none (listed.own (subst (λ (k : Name). is_listed k b.workflow after ≡ false) (sym names.0) (subst (λ (k : Name). is_listed d k after ≡ false) (sym names.1) e)))))
      by false f = ap (λ (v : WorkflowValue). v.waiting) (others d w f) ∙ hold d w (listed.kept d w f e)
