-- The workflows of some domains hold what is learned of these.
use Rattle.std.proofs.Common.{◌≡◌, Bool, true, false, ◌&&◌, List, [], ◌∷◌, ◌++◌, Bor, Option, Some, None, Result, Ok, Err, cond, refl, sym, ◌∙◌, subst, ap, map}
use Rattle.std.specs.Prelude.{is_some, if◌then◌else◌, IfOk}
use Rattle.std.specs.List.{AllByRecursion, filter, flat_map, list_any}
use Rattle.std.specs.Map.{values_of}
use Rattle.std.specs.Str.{bytes_eq}
use Rattle.std.specs.Global.{Vec}
use Rattle.std.proofs.lemmas.Grind.{flat_map-append}
use Rattle.std.proofs.lemmas.List.Concat.{flat_map-cons}
use Rattle.std.proofs.lemmas.List.Elements.{filter-append}
use Rattle.ndc_model_cells.specs.Cells.{Cell, is_learned_in}
use Rattle.ndc_model_cells.specs.Places.{is_of}
use Rattle.ndc_event.specs.declared.batch.Batch.{Batch}
use Rattle.ndc_event.specs.declared.key.BatchKey.{BatchKey}
use Rattle.ndc_event.specs.declared.name.Name.{Name}
use Rattle.ndc_model_sets.specs.Learned.{has_key, learned}
use Rattle.ndc_model_sets.specs.Sets.{IsSet, batch_at}
use Rattle.ndc_model_sets.proofs.BranchLemmas.{Rise-filter}
use Rattle.ndc_model_sets.proofs.LearnedLemmas.{IsSet-learned, learned-reaches, reaches-has}
use Rattle.ndc_model_sets.proofs.SetLemmas.{found-has, found-key, has-found}
use Rattle.ndc_shard_waiting.proofs.FreeLemmas.{filter-found}
use Rattle.ndc_shard_waiting.proofs.LearnLemmas.{set-all}
use Rattle.ndc_shard_waiting.proofs.OrderLemmas.{same-found, all-more}
use Rattle.ndc_model_sets.proofs.Lists.{all-join}
use Rattle.ndc_shard_workflows.proofs.CellLemmas.{learned-own}
use Rattle.ndc_model_cells.specs.Workflow.{WorkflowValue, workflow_of}
use Rattle.ndc_shard_workflows.specs.Named.{HoldUnder, all_under, under}
use Rattle.ndc_shard_workflows.specs.Reading.{HoldLearned, IsIn, workflows_named}
use Rattle.ndc_shard_workflows.specs.Workflows.{AreDomains, DomainValue, IsOwn, arrived_in, cell_of, workflow_or_empty, workflows_in}
use Rattle.ndc_shard_workflows.proofs.DomainLemmas.{workflow-there}
use Rattle.ndc_shard_workflows.proofs.NameLemmas.{hold-first, hold-rest}
use Rattle.ndc_shard_workflows.proofs.SameLemmas.{names-of}

-- what is learned of a set is what is found among the learned
pub learned-kept : (xs : List Batch) → IsSet xs → filter (λ b. has_key (Some b.key) (learned xs)) xs ≡ learned xs
learned-kept xs set =
    same-found (filter (λ b. has_key (Some b.key) (learned xs)) xs) (learned xs) (Rise-filter (λ b. has_key (Some b.key) (learned xs)) xs set.ordered) (IsSet-learned xs set).ordered
    (λ key. filter-found (λ k. has_key (Some k) (learned xs)) xs key ∙ by key (batch_at key (learned xs)) refl)
  where
    by : (key : BatchKey) (o : Option Batch) → batch_at key (learned xs) ≡ o → cond (is_some (batch_at key (learned xs))) (batch_at key xs) None ≡ batch_at key (learned xs)
    by key None e = ap (λ o. cond (is_some o) (batch_at key xs) None) e ∙ sym e
    by key (Some b) e =
        ap (λ o. cond (is_some o) (batch_at key xs) None) e
        ∙ has-found xs key b (found-key (learned xs) key b e) (reaches-has xs b (learned-reaches xs b set (found-has (learned xs) key b e))) ∙ sym e

-- two tests that agree on all items keep the same
filter-as : {X : Type 0} (p q : X → Bool) (xs : List X) → AllByRecursion (λ x. p x ≡ q x) xs → filter p xs ≡ filter q xs
filter-as p q [] all = refl
filter-as p q (x ∷ xs) all = ap (λ t. cond t (x ∷ filter p xs) (filter p xs)) all.0 ∙ ap (λ l. cond (q x) (x ∷ l) l) (filter-as p q xs all.1)

filter-nothing : {X : Type 0} (xs : List X) → filter (λ x. false) xs ≡ []
filter-nothing [] = refl
filter-nothing (x ∷ xs) = filter-nothing xs

-- a workflow of its names that the cell has
record IsThere (cell : Cell) (domain workflow : Name) (w : WorkflowValue) : Type 0 where
  own : IsOwn domain workflow w
  there : workflow_of domain workflow cell ≡ w

abbrev AreThere : Cell → Name → DomainValue → Type 0
AreThere cell domain workflows = HoldUnder (IsThere cell domain) workflows

there-are : (domains : List (Name × DomainValue)) → AreDomains domains → HoldUnder (AreThere (cell_of domains)) domains
there-are domains are = record {
  ordered = are.ordered;
  each = λ d ws e. record {
    ordered = (are.each d ws e).ordered;
    each = λ n w f. record {
      own = (are.each d ws e).each n w f;
      there = workflow-there domains are d n ∙ ap (λ o. workflow_or_empty (under n (workflows_in o))) e ∙ ap workflow_or_empty f;
    };
  };
}

module _ (names : List Name) (cell : Cell) where
  abbrev has : Name → Bool
  has d = list_any (λ name. bytes_eq name d) names

  abbrev test : Batch → Bool
  test b = is_learned_in cell b && has b.domain

  abbrev learned_all : List WorkflowValue → List Batch
  learned_all list = flat_map (λ w. learned w.arrived) list

  module _ (d n : Name) (w : WorkflowValue) (is : IsThere cell d n w) where
    is-in : IsIn cell w
    is-in =
        all-more (λ b. is_of d n b ≡ true) (λ b. workflow_of b.domain b.workflow cell ≡ w)
        (λ b e. ap (λ (k : Name). workflow_of k b.workflow cell) (names-of d n b e).0 ∙ ap (λ (k : Name). workflow_of d k cell) (names-of d n b e).1 ∙ is.there) w.arrived is.own.arrived

    set : IsSet w.arrived
    set = subst (λ (v : WorkflowValue). IsSet v.arrived) (sym is.own.is.parts) (set-all (learned w.arrived) w.waiting is.own.is.apart)

    kept-one : has d ≡ true → filter test w.arrived ≡ learned w.arrived
    kept-one e =
        filter-as test (λ b. has_key (Some b.key) (learned w.arrived)) w.arrived
        (all-more (λ b. is_of d n b ≡ true) (λ b. test b ≡ has_key (Some b.key) (learned w.arrived))
        (λ b own. ap (λ t. is_learned_in cell b && t) (ap has (names-of d n b own).0 ∙ e) ∙ and-true (is_learned_in cell b)
        ∙ learned-own d n b cell own ∙ ap (λ (v : WorkflowValue). has_key (Some b.key) (learned v.arrived)) is.there) w.arrived is.own.arrived)
        ∙ learned-kept w.arrived set
      where
        and-true : (t : Bool) → (t && true) ≡ t
        and-true true = refl
        and-true false = refl

    kept-none : has d ≡ false → filter test w.arrived ≡ []
    kept-none e =
        filter-as test (λ b. false) w.arrived
        (all-more (λ b. is_of d n b ≡ true) (λ b. test b ≡ false) (λ b own. ap (λ t. is_learned_in cell b && t) (ap has (names-of d n b own).0 ∙ e) ∙ and-false (is_learned_in cell b)) w.arrived is.own.arrived)
        ∙ filter-nothing w.arrived
      where
        and-false : (t : Bool) → (t && false) ≡ false
        and-false true = refl
        and-false false = refl

  module _ (d : Name) where
    domain-kept : has d ≡ true → (ws : DomainValue) → AreThere cell d ws → filter test (arrived_in ws) ≡ learned_all (values_of ws)
    domain-kept e [] are = refl
    domain-kept e (entry ∷ ws) are =
        filter-append test entry.1.arrived (arrived_in ws)
        ∙ ap (λ l. l ++ filter test (arrived_in ws)) (kept-one d entry.0 entry.1 (hold-first (IsThere cell d) entry ws are) e)
        ∙ ap (λ l. learned entry.1.arrived ++ l) (domain-kept e ws (hold-rest (IsThere cell d) entry ws are))
        ∙ sym (flat_map-cons (λ (w : WorkflowValue). learned w.arrived) entry.1 (values_of ws))

    domain-none : has d ≡ false → (ws : DomainValue) → AreThere cell d ws → filter test (arrived_in ws) ≡ []
    domain-none e [] are = refl
    domain-none e (entry ∷ ws) are =
        filter-append test entry.1.arrived (arrived_in ws)
        ∙ ap (λ l. l ++ filter test (arrived_in ws)) (kept-none d entry.0 entry.1 (hold-first (IsThere cell d) entry ws are) e)
        ∙ domain-none e ws (hold-rest (IsThere cell d) entry ws are)

    domain-in : (ws : DomainValue) → AreThere cell d ws → AllByRecursion (IsIn cell) (values_of ws)
    domain-in [] are = tt
    domain-in (entry ∷ ws) are = (is-in d entry.0 entry.1 (hold-first (IsThere cell d) entry ws are), domain-in ws (hold-rest (IsThere cell d) entry ws are))

  all-kept : (domains : List (Name × DomainValue)) → HoldUnder (AreThere cell) domains → filter test (all_under arrived_in domains) ≡ learned_all (workflows_named names domains)
  all-kept [] are = refl
  all-kept (entry ∷ domains) are =
      filter-append test (arrived_in entry.1) (all_under arrived_in domains)
      ∙ ap (λ l. filter test (arrived_in entry.1) ++ l) (all-kept domains (hold-rest (AreThere cell) entry domains are))
      ∙ ap (λ l. l ++ learned_all (workflows_named names domains)) (by (has entry.0) refl)
      ∙ sym (flat_map-append (λ (w : WorkflowValue). learned w.arrived) (if has entry.0 then values_of entry.1 else []) (workflows_named names domains))
    where
      first : AreThere cell entry.0 entry.1
      first = hold-first (AreThere cell) entry domains are

      by : (t : Bool) → has entry.0 ≡ t → filter test (arrived_in entry.1) ≡ learned_all (if t then values_of entry.1 else [])
      by true e = domain-kept entry.0 e entry.1 first
      by false e = domain-none entry.0 e entry.1 first

  all-in : (domains : List (Name × DomainValue)) → HoldUnder (AreThere cell) domains → AllByRecursion (IsIn cell) (workflows_named names domains)
  all-in [] are = tt
  all-in (entry ∷ domains) are =
      all-join (IsIn cell) (if has entry.0 then values_of entry.1 else []) (workflows_named names domains) (by (has entry.0)) (all-in domains (hold-rest (AreThere cell) entry domains are))
    where
      by : (t : Bool) → AllByRecursion (IsIn cell) (if t then values_of entry.1 else [])
      by true = domain-in entry.0 entry.1 (hold-first (AreThere cell) entry domains are)
      by false = tt

-- the workflows of these domains hold, in order, what is learned of them
pub named-hold : (names : List Name) (domains : List (Name × DomainValue)) → AreDomains domains → HoldLearned names (workflows_named names domains) (cell_of domains)
named-hold names domains are = record {
  batches = sym (all-kept names (cell_of domains) domains (there-are domains are));
  each = all-in names (cell_of domains) domains (there-are domains are);
}

-- the same of those that are lent, where memory does not run out
pub held : {E : Type 0} (names : List Name) (domains : List (Name × DomainValue)) → AreDomains domains → (r : Result (Vec (Bor WorkflowValue)) E)
    → IfOk r (λ list. map (λ w. w.now) list.items ≡ workflows_named names domains) → (cell : Cell) → cell_of domains ≡ cell → IfOk r (λ list. HoldLearned names (map (λ w. w.now) list.items) cell)
held names domains are (Ok list) e cell same = subst (HoldLearned names (map (λ w. w.now) list.items)) same (subst (λ l. HoldLearned names l (cell_of domains)) (sym e) (named-hold names domains are))
held names domains are (Err x) e cell same = tt
