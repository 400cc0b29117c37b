-- Whether a cell lacks what its own cluster wrote, found domain by domain and workflow by workflow.
use Rattle.std.proofs.Common.{◌≡◌, Bool, true, false, ◌||◌, List, [], ◌∷◌, Option, Some, None, refl, sym, ◌∙◌, subst, ap, true≢false}
use Rattle.std.specs.List.{list_any}
use Rattle.std.specs.Str.{bytes_eq}
use Rattle.ndc_event.specs.declared.name.Name.{Name}
use Rattle.ndc_model_cells.specs.Workflow.{WorkflowValue}
use Rattle.ndc_shard_workflows.specs.Lacking.{LacksNoOwn, LacksOwn, lacks_own, one_lacks_own, some_lack_own}
use Rattle.ndc_shard_workflows.specs.Named.{HoldUnder, under}
use Rattle.ndc_shard_workflows.specs.Terms.{TermsValue}
use Rattle.ndc_shard_workflows.specs.Workflow.{empty_workflow}
use Rattle.ndc_shard_workflows.specs.Workflows.{AreDomains, AreOwn, DomainValue, IsOwn, cell_of, found, workflow_or_empty, workflows_in}
use Rattle.ndc_shard_workflows.proofs.DomainLemmas.{workflow-there}
use Rattle.ndc_shard_workflows.proofs.NameLemmas.{hold-rest, name-itself, none-later, under-first, under-rest}

module _ {X : Type 0} (p : X → Bool) where
  -- where a test holds of nothing, it holds of nothing under a name
  none-under : (entries : List (Name × X)) → list_any (λ (entry : Name × X). p entry.1) entries ≡ false → (name : Name) (x : X) → under name entries ≡ Some x → p x ≡ false
  none-under [] none name x at = absurd (cc)
  none-under (entry ∷ entries) none name x at = by (p entry.1) refl none (λ n h. none-under entries n name x h)
    where
      by : (t : Bool) → p entry.1 ≡ t → (t || list_any (λ (entry : Name × X). p entry.1) entries) ≡ false
          → (list_any (λ (entry : Name × X). p entry.1) entries ≡ false → under name entries ≡ Some x → p x ≡ false) → p x ≡ false
      by true e n rest = absurd (true≢false n)
      by false e n rest = named (bytes_eq entry.0 name) refl
        where
          named : (t : Bool) → bytes_eq entry.0 name ≡ t → p x ≡ false
          named true f = let same : entry.1 ≡ x = some-one (sym (under-first name entry entries f) ∙ at) in subst (λ (y : X). p y ≡ false) same e
            where
              some-one : Some entry.1 ≡ Some x → entry.1 ≡ x
              some-one h = cc
          named false f = rest n (sym (under-rest name entry entries f) ∙ at)

  -- where it holds of something, it holds of something under a name
  some-under : (P : Name → X → Type 0) (entries : List (Name × X)) → HoldUnder P entries → list_any (λ (entry : Name × X). p entry.1) entries ≡ true
      → (name : Name) × (x : X) × (under name entries ≡ Some x) × (p x ≡ true)
  some-under P [] hold some = absurd (true≢false (sym some))
  some-under P (entry ∷ entries) hold some = by (p entry.1) refl some (λ s. some-under P entries (hold-rest P entry entries hold) s)
    where
      by : (t : Bool) → p entry.1 ≡ t → (t || list_any (λ (entry : Name × X). p entry.1) entries) ≡ true
          → (list_any (λ (entry : Name × X). p entry.1) entries ≡ true → (name : Name) × (x : X) × (under name entries ≡ Some x) × (p x ≡ true))
          → (name : Name) × (x : X) × (under name (entry ∷ entries) ≡ Some x) × (p x ≡ true)
      by true e s rest = (entry.0, entry.1, under-first entry.0 entry entries (name-itself entry.0), e)
      by false e s rest = later (rest s)
        where
          later : (name : Name) × (x : X) × (under name entries ≡ Some x) × (p x ≡ true) → (name : Name) × (x : X) × (under name (entry ∷ entries) ≡ Some x) × (p x ≡ true)
          later (name, x, at, holds) = named (bytes_eq entry.0 name) refl
            where
              named : (t : Bool) → bytes_eq entry.0 name ≡ t → (name : Name) × (x : X) × (under name (entry ∷ entries) ≡ Some x) × (p x ≡ true)
              named true f = let none : under name entries ≡ None = none-later P entry entries hold name f in absurd (cc)
              named false f = (name, x, under-rest name entry entries f ∙ at, holds)

module _ (terms : TermsValue) (domains : List (Name × DomainValue)) (are : AreDomains domains) where
  -- nothing of it has arrived: nothing is lacked
  nothing-lacks : lacks_own terms empty_workflow ≡ false
  nothing-lacks = refl

  pub none-lack : some_lack_own terms domains ≡ false → LacksNoOwn terms (cell_of domains)
  none-lack none domain workflow =
      ap (lacks_own terms) (workflow-there domains are domain workflow) ∙ by (under domain domains) refl
    where
      inner : (ws : DomainValue) → one_lacks_own terms ws ≡ false → (o : Option WorkflowValue) → under workflow ws ≡ o → lacks_own terms (workflow_or_empty o) ≡ false
      inner ws n None e = nothing-lacks
      inner ws n (Some w) e = none-under (lacks_own terms) ws n workflow w e

      by : (o : Option DomainValue) → under domain domains ≡ o → lacks_own terms (workflow_or_empty (under workflow (workflows_in (under domain domains)))) ≡ false
      by None e = ap (λ (o : Option DomainValue). lacks_own terms (workflow_or_empty (under workflow (workflows_in o)))) e ∙ nothing-lacks
      by (Some ws) e =
          ap (λ (o : Option DomainValue). lacks_own terms (workflow_or_empty (under workflow (workflows_in o)))) e
          ∙ inner ws (none-under (one_lacks_own terms) domains none domain ws e) (under workflow ws) refl

  pub some-lack : some_lack_own terms domains ≡ true → LacksOwn terms (cell_of domains)
  some-lack some = outer (some-under (one_lacks_own terms) AreOwn domains are some)
    where
      outer : (domain : Name) × (ws : DomainValue) × (under domain domains ≡ Some ws) × (one_lacks_own terms ws ≡ true) → LacksOwn terms (cell_of domains)
      outer (domain, ws, at, lack) = inner (some-under (lacks_own terms) (IsOwn domain) ws (are.each domain ws at) lack)
        where
          inner : (workflow : Name) × (w : WorkflowValue) × (under workflow ws ≡ Some w) × (lacks_own terms w ≡ true) → LacksOwn terms (cell_of domains)
          inner (workflow, w, there, lacks) = record {
            domain = domain;
            workflow = workflow;
            lacks = ap (lacks_own terms) (workflow-there domains are domain workflow)
                ∙ ap (λ (o : Option DomainValue). lacks_own terms (workflow_or_empty (under workflow (workflows_in o)))) at
                ∙ ap (λ (o : Option WorkflowValue). lacks_own terms (workflow_or_empty o)) there ∙ lacks;
          }
