-- A cell of domains: its workflows are what stands under their names, and another cell with the same workflows is the same.
use Rattle.std.proofs.Common.{◌≡◌, Bool, true, false, ◌&&◌, List, [], ◌∷◌, ◌++◌, inl, inr, Option, Some, None, cond, map, refl, sym, ◌∙◌, subst, ap}
use Rattle.std.specs.List.{AllByRecursion, filter}
use Rattle.std.specs.List.Sorted.{IsStrictlySortedBy}
use Rattle.std.specs.Str.{bytes_eq}
use Rattle.std.proofs.lemmas.List.{map-id}
use Rattle.ndc_model_cells.specs.declared.message.Message.{Message}
use Rattle.ndc_model_cells.specs.Cells.{IsCell, both}
use Rattle.ndc_model_cells.specs.Places.{AreBehind, AreInOrder, is_of, place_of}
use Rattle.ndc_model_cells.proofs.PlaceLemmas.{place-from}
use Rattle.ndc_event.specs.declared.batch.Batch.{Batch}
use Rattle.ndc_event.specs.declared.name.Name.{Name}
use Rattle.ndc_event.specs.Key.{key_lt}
use Rattle.ndc_model_sets.specs.Learned.{learned}
use Rattle.ndc_model_sets.specs.Sets.{ComeAfter, IsSet, PointsBack, Rise}
use Rattle.ndc_model_cells.specs.Messages.{batches_of}
use Rattle.ndc_shard_waiting.proofs.FreeLemmas.{own-all}
use Rattle.ndc_shard_waiting.proofs.LearnLemmas.{set-all}
use Rattle.ndc_shard_waiting.proofs.OrderLemmas.{rise-back}
use Rattle.ndc_model_cells.specs.Workflow.{WorkflowValue, workflow_of}
use Rattle.ndc_shard_workflows.specs.Workflow.{empty_workflow}
use Rattle.ndc_shard_workflows.specs.Named.{under, all_under}
use Rattle.ndc_shard_workflows.specs.Workflows.{DomainValue, arrived_in, cell_of, workflow_or_empty, workflows_in, found, IsOwn, AreOwn, AreDomains}
use Rattle.ndc_shard_workflows.proofs.NameLemmas.{hold-as, all-items, items_of, named-items, all-ordered}
use Rattle.ndc_shard_workflows.proofs.SameLemmas.{names-of}

-- nothing stands in no domain
pub none-own : (domain : Name) → AreOwn domain []
unfolding IsStrictlySortedBy
none-own domain = record { ordered = tt; each = λ name w f. absurd (cc) }

-- the workflows of a domain, where there are some
pub own-there : (domains : List (Name × DomainValue)) → AreDomains domains → (domain : Name) → AreOwn domain (workflows_in (under domain domains))
own-there domains are domain = by (under domain domains) refl
  where
    by : (o : Option DomainValue) → under domain domains ≡ o → AreOwn domain (workflows_in o)
    by None e = none-own domain
    by (Some workflows) e = are.each domain workflows e

-- each batch of a workflow is of its names
each-names : (domain workflow : Name) (batches : List Batch) → AllByRecursion (λ b. is_of domain workflow b ≡ true) batches → AllByRecursion (λ b. (b.workflow ≡ workflow) × (b.domain ≡ domain)) batches
each-names domain workflow [] all = tt
each-names domain workflow (b ∷ batches) all = let names = names-of domain workflow b all.0 in ((names.1, names.0), each-names domain workflow batches all.1)

module _ {Y : Type 0} (batch : Y → Batch) where
  -- what is kept by two tests
  filter-both : (p q : Y → Bool) (ys : List Y) → filter (λ y. p y && q y) ys ≡ filter q (filter p ys)
  filter-both p q [] = refl
  filter-both p q (y ∷ ys) = by (p y) (filter-both p q ys)
    where
      by : (t : Bool) → filter (λ x. p x && q x) ys ≡ filter q (filter p ys)
          → cond (t && q y) (y ∷ filter (λ x. p x && q x) ys) (filter (λ x. p x && q x) ys) ≡ filter q (cond t (y ∷ filter p ys) (filter p ys))
      by true e = ap (λ l. cond (q y) (y ∷ l) l) e
      by false e = e

  all-as : (P Q : Y → Type 0) → ((y : Y) → P y → Q y) → (ys : List Y) → AllByRecursion P ys → AllByRecursion Q ys
  all-as P Q turn [] all = tt
  all-as P Q turn (y ∷ ys) all = (turn y all.0, all-as P Q turn ys all.1)

  all-mapped : (P : Batch → Type 0) (ys : List Y) → AllByRecursion (λ y. P (batch y)) ys → AllByRecursion P (map batch ys)
  all-mapped P [] all = tt
  all-mapped P (y ∷ ys) all = (all.0, all-mapped P ys all.1)

  -- batches of one workflow, in key order, stand in order
  rise-order : (domain workflow : Name) (ys : List Y) → AllByRecursion (λ y. is_of domain workflow (batch y) ≡ true) ys → Rise (map batch ys) → AreInOrder (map batch ys)
  rise-order domain workflow [] own rise = tt
  rise-order domain workflow (y ∷ ys) own rise = (behind ys own.1 rise.0, rise-order domain workflow ys own.1 rise.1)
    where
      behind : (xs : List Y) → AllByRecursion (λ x. is_of domain workflow (batch x) ≡ true) xs → ComeAfter (batch y).key (map batch xs) → AreBehind (place_of (batch y)) (map batch xs)
      behind [] all after = tt
      behind (x ∷ xs) all after =
          let one = names-of domain workflow (batch y) own.0 in
          let two = names-of domain workflow (batch x) all.0 in
          (place-from (place_of (batch y)) (place_of (batch x)) (inr (one.0 ∙ sym two.0, inr (one.1 ∙ sym two.1, after.0))), behind xs all.1 after.1)

  module _ (items : WorkflowValue → List Y)
      (own : (domain workflow : Name) (w : WorkflowValue) → IsOwn domain workflow w → AllByRecursion (λ y. is_of domain workflow (batch y) ≡ true) (items w))
      (rises : (domain workflow : Name) (w : WorkflowValue) → IsOwn domain workflow w → Rise (map batch (items w))) (none : items empty_workflow ≡ []) where
    abbrev in_domain : DomainValue → List Y
    in_domain workflows = all_under items workflows

    named : (domain workflow : Name) (ys : List Y) → AllByRecursion (λ y. is_of domain workflow (batch y) ≡ true) ys
        → AllByRecursion (λ y. (batch y).workflow ≡ workflow) ys × AllByRecursion (λ y. (batch y).domain ≡ domain) ys
        × AllByRecursion (λ y. ((batch y).workflow ≡ workflow) × ((batch y).domain ≡ domain)) ys
    named domain workflow ys all = (
      all-as (λ y. is_of domain workflow (batch y) ≡ true) (λ y. (batch y).workflow ≡ workflow) (λ y e. (names-of domain workflow (batch y) e).1) ys all,
      all-as (λ y. is_of domain workflow (batch y) ≡ true) (λ y. (batch y).domain ≡ domain) (λ y e. (names-of domain workflow (batch y) e).0) ys all,
      all-as (λ y. is_of domain workflow (batch y) ≡ true) (λ y. ((batch y).workflow ≡ workflow) × ((batch y).domain ≡ domain))
          (λ y e. let names = names-of domain workflow (batch y) e in (names.1, names.0)) ys all,
    )

    -- all items of a domain are of it
    in-domain : (domain : Name) (workflows : DomainValue) → AreOwn domain workflows → AllByRecursion (λ y. (batch y).domain ≡ domain) (in_domain workflows)
    in-domain domain workflows are =
        all-items items (λ y. (batch y).domain ≡ domain) workflows
        (hold-as (IsOwn domain) (λ workflow w. AllByRecursion (λ y. (batch y).domain ≡ domain) (items w)) (λ workflow w is. (named domain workflow (items w) (own domain workflow w is)).1) workflows are)

    -- those of a workflow are what stands under its name
    in-workflow : (domain workflow : Name) (workflows : DomainValue) → AreOwn domain workflows
        → filter (λ y. bytes_eq (batch y).workflow workflow) (in_domain workflows) ≡ items (workflow_or_empty (under workflow workflows))
    in-workflow domain workflow workflows are =
        named-items items (λ y. (batch y).workflow) workflow workflows
        (hold-as (IsOwn domain) (λ other w. AllByRecursion (λ y. (batch y).workflow ≡ other) (items w)) (λ other w is. (named domain other (items w) (own domain other w is)).0) workflows are)
        ∙ by (under workflow workflows)
      where
        by : (o : Option WorkflowValue) → items_of items o ≡ items (workflow_or_empty o)
        by None = sym none
        by (Some w) = refl

    pub items-of-workflow : (domains : List (Name × DomainValue)) → AreDomains domains → (domain workflow : Name)
        → filter (λ y. is_of domain workflow (batch y)) (all_under in_domain domains) ≡ items (workflow_or_empty (found domain workflow domains))
    items-of-workflow domains are domain workflow =
        filter-both (λ y. bytes_eq (batch y).domain domain) (λ y. bytes_eq (batch y).workflow workflow) (all_under in_domain domains)
        ∙ ap (filter (λ y. bytes_eq (batch y).workflow workflow))
        (named-items in_domain (λ y. (batch y).domain) domain domains
        (hold-as AreOwn (λ other workflows. AllByRecursion (λ y. (batch y).domain ≡ other) (in_domain workflows)) (λ other workflows own. in-domain other workflows own) domains are)
        ∙ by (under domain domains))
        ∙ in-workflow domain workflow (workflows_in (under domain domains)) (own-there domains are domain)
      where
        by : (o : Option DomainValue) → items_of in_domain o ≡ in_domain (workflows_in o)
        by None = refl
        by (Some workflows) = refl

    -- and all stand in order
    in-domain-ordered : (domain : Name) (workflows : DomainValue) → AreOwn domain workflows → AreInOrder (map batch (in_domain workflows))
    in-domain-ordered domain workflows are =
        all-ordered items batch (λ b. b.workflow) (λ b. b.domain ≡ domain)
        (λ a b one two less. place-from (place_of a) (place_of b) (inr (one ∙ sym two, inl less))) workflows
        (hold-as (IsOwn domain) (λ other w. AllByRecursion (λ y. ((batch y).workflow ≡ other) × ((batch y).domain ≡ domain)) (items w) × AreInOrder (map batch (items w)))
        (λ other w is. ((named domain other (items w) (own domain other w is)).2, rise-order domain other (items w) (own domain other w is) (rises domain other w is))) workflows are)

    pub items-ordered : (domains : List (Name × DomainValue)) → AreDomains domains → AreInOrder (map batch (all_under in_domain domains))
    items-ordered domains are =
        all-ordered in_domain batch (λ b. b.domain) (λ b. Unit {0})
        (λ a b one two less. place-from (place_of a) (place_of b) (inl less)) domains
        (hold-as AreOwn (λ other workflows. AllByRecursion (λ y. ((batch y).domain ≡ other) × Unit {0}) (in_domain workflows) × AreInOrder (map batch (in_domain workflows)))
        (λ other workflows own. (
          all-as (λ y. (batch y).domain ≡ other) (λ y. ((batch y).domain ≡ other) × Unit {0}) (λ y e. (e, tt)) (in_domain workflows) (in-domain other workflows own),
          in-domain-ordered other workflows own,
        )) domains are)

-- the batches of a workflow rise, and those of the messages that wait there
own-set : (domain workflow : Name) (w : WorkflowValue) → IsOwn domain workflow w → IsSet w.arrived
own-set domain workflow w own =
    subst (λ (v : WorkflowValue). IsSet v.arrived) (sym own.is.parts) (set-all (learned w.arrived) w.waiting own.is.apart)

own-rises : (domain workflow : Name) (w : WorkflowValue) → IsOwn domain workflow w → Rise (map (λ b. b) w.arrived)
own-rises domain workflow w own = subst Rise (sym (map-id w.arrived)) (own-set domain workflow w own).ordered

waiting-rises : (messages : List Message) → Rise (batches_of messages) → Rise (map (λ sent. sent.batch) messages)
waiting-rises [] rise = tt
waiting-rises (sent ∷ messages) rise =
    (all-mapped (λ sent. sent.batch) (λ b. key_lt sent.batch.key b.key ≡ true) messages (own-all (λ b. key_lt sent.batch.key b.key ≡ true) messages (later sent.second rise)), waiting-rises messages (rise-back (both sent) (batches_of messages) rise))
  where
    later : (second : Option Batch) → Rise (both (record sent { second = second }) ++ batches_of messages) → ComeAfter sent.batch.key (batches_of messages)
    later None r = r.0
    later (Some b) r = r.0.1

module _ (domains : List (Name × DomainValue)) (are : AreDomains domains) where
  abbrev arrived-own : (domain workflow : Name) (w : WorkflowValue) → IsOwn domain workflow w → AllByRecursion (λ b. is_of domain workflow b ≡ true) w.arrived
  arrived-own domain workflow w own = own.arrived

  -- a workflow of the cell is what stands under its names
  pub workflow-there : (domain workflow : Name) → workflow_of domain workflow (cell_of domains) ≡ workflow_or_empty (found domain workflow domains)
  workflow-there domain workflow = λ i. record {
    arrived = items-of-workflow (λ b. b) (λ w. w.arrived) (λ d n w own. own.arrived) own-rises refl domains are domain workflow i;
    waiting = items-of-workflow (λ sent. sent.batch) (λ w. w.waiting) (λ d n w own. own.waiting) (λ d n w own. waiting-rises w.waiting own.is.apart.messages.set.ordered) refl domains are domain workflow i;
  }

  -- the cell is in order
  pub arrived-ordered : AreInOrder (cell_of domains).arrived
  arrived-ordered = subst AreInOrder (map-id (cell_of domains).arrived) (items-ordered (λ b. b) (λ w. w.arrived) (λ d n w own. own.arrived) own-rises refl domains are)

  pub waiting-ordered : AreInOrder (map (λ sent. sent.batch) (cell_of domains).waiting)
  waiting-ordered =
      items-ordered (λ sent. sent.batch) (λ w. w.waiting) (λ d n w own. own.waiting) (λ d n w own. waiting-rises w.waiting own.is.apart.messages.set.ordered) refl domains are

  pub is-cell : IsCell (cell_of domains)
  is-cell = record {
    ordered = arrived-ordered;
    back = all-items arrived_in PointsBack domains
        (hold-as AreOwn (λ domain workflows. AllByRecursion PointsBack (arrived_in workflows))
        (λ domain workflows own. all-items (λ w. w.arrived) PointsBack workflows
        (hold-as (IsOwn domain) (λ workflow w. AllByRecursion PointsBack w.arrived) (λ workflow w is. (own-set domain workflow w is).back) workflows own)) domains are);
  }
