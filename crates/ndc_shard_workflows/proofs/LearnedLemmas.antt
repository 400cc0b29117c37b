-- The workflows of a cell of which something is learned are those of its learned batches, in order.
use Rattle.std.proofs.Common.{◌≡◌, Bool, true, false, not, List, [], ◌∷◌, ◌++◌, Option, Some, None, cond, map, refl, sym, ◌∙◌, subst, ap, true≢false}
use Rattle.std.specs.Prelude.{option_to_list, if◌then◌else◌}
use Rattle.std.specs.List.{AllByRecursion, filter}
use Rattle.std.proofs.lemmas.List.{map-append, map-id}
use Rattle.ndc_model_cells.specs.Cells.{Cell, arrived_of, is_learned_in}
use Rattle.ndc_model_cells.specs.Jobs.{workflows_of}
use Rattle.ndc_model_cells.specs.Places.{AreInOrder, is_of, place_lt, place_of}
use Rattle.ndc_model_cells.specs.Workflow.{WorkflowValue, workflow_of}
use Rattle.ndc_event.specs.declared.batch.Batch.{Batch}
use Rattle.ndc_event.specs.declared.name.Name.{Name}
use Rattle.ndc_model_sets.specs.Last.{is_nil}
use Rattle.ndc_model_sets.specs.Learned.{learned}
use Rattle.ndc_model_sets.specs.Sets.{IsSet, Rise}
use Rattle.ndc_model_sets.proofs.BranchLemmas.{All-filter}
use Rattle.ndc_shard_waiting.proofs.LearnLemmas.{set-all}
use Rattle.ndc_shard_workflows.specs.Behind.{first_batch}
use Rattle.ndc_shard_workflows.specs.Named.{all_under}
use Rattle.ndc_shard_workflows.specs.Reading.{learned_in_all, learned_in_domain, learned_workflows, named_where_learned}
use Rattle.ndc_shard_workflows.specs.Workflow.{is_learned}
use Rattle.ndc_shard_workflows.specs.Workflows.{AreDomains, AreOwn, DomainValue, IsOwn, cell_of}
use Rattle.ndc_shard_workflows.proofs.BehindLemmas.{workflow-own}
use Rattle.ndc_shard_workflows.proofs.CellLemmas.{filter-swap, learned-own}
use Rattle.ndc_shard_workflows.proofs.DomainLemmas.{arrived-ordered, items-of-workflow, items-ordered, workflow-there}
use Rattle.ndc_shard_workflows.proofs.ListLemmas.{all-first, all_names, names_in, others_than}
use Rattle.ndc_shard_workflows.proofs.NamedLemmas.{learned-kept}
use Rattle.ndc_shard_workflows.proofs.NameLemmas.{hold-first, hold-rest}
use Rattle.ndc_shard_workflows.proofs.PlaceLemmas.{all-learned}
use Rattle.ndc_shard_workflows.proofs.SameLemmas.{names-of, of-names, same_in_order}
use Rattle.ndc_shard_workflows.proofs.WaitLemmas.{ordered-kept}

-- the first batch, where there is one
abbrev first_of : List Batch → List Batch
first_of bs = option_to_list (first_batch bs)

-- the first batches of workflows, where these are of one and the same workflow
module _ (d n : Name) where
  none-of-others : (b : Batch) → is_of d n b ≡ true → (xs : List Batch) → filter (is_of d n) (others_than b xs) ≡ []
  none-of-others b own [] = refl
  none-of-others b own (x ∷ xs) = by (is_of b.domain b.workflow x) refl (none-of-others b own xs)
    where
      other : is_of b.domain b.workflow x ≡ false → (t : Bool) → is_of d n x ≡ t → t ≡ false
      other e true f =
          let one = names-of d n b own in
          let two = names-of d n x f in
          absurd (true≢false (sym (of-names b.domain b.workflow x (two.0 ∙ sym one.0) (two.1 ∙ sym one.1)) ∙ e))
      other e false f = refl

      by : (t : Bool) → is_of b.domain b.workflow x ≡ t → filter (is_of d n) (others_than b xs) ≡ [] → filter (is_of d n) (cond (not t) (x ∷ others_than b xs) (others_than b xs)) ≡ []
      by true e rest = rest
      by false e rest = ap (λ t. cond t (x ∷ filter (is_of d n) (others_than b xs)) (filter (is_of d n) (others_than b xs))) (other e (is_of d n x) refl) ∙ rest

  all-of-others : (b : Batch) → is_of d n b ≡ false → (xs : List Batch) → filter (is_of d n) (others_than b xs) ≡ filter (is_of d n) xs
  all-of-others b apart [] = refl
  all-of-others b apart (x ∷ xs) = by (is_of b.domain b.workflow x) refl (all-of-others b apart xs)
    where
      other : is_of b.domain b.workflow x ≡ true → (t : Bool) → is_of d n x ≡ t → t ≡ false
      other e true f =
          let one = names-of b.domain b.workflow x e in
          let two = names-of d n x f in
          absurd (true≢false (sym (of-names d n b (sym one.0 ∙ two.0) (sym one.1 ∙ two.1)) ∙ apart))
      other e false f = refl

      by : (t : Bool) → is_of b.domain b.workflow x ≡ t → filter (is_of d n) (others_than b xs) ≡ filter (is_of d n) xs
          → filter (is_of d n) (cond (not t) (x ∷ others_than b xs) (others_than b xs)) ≡ filter (is_of d n) (x ∷ xs)
      by true e rest = rest ∙ sym (ap (λ t. cond t (x ∷ filter (is_of d n) xs) (filter (is_of d n) xs)) (other e (is_of d n x) refl))
      by false e rest = ap (λ l. cond (is_of d n x) (x ∷ l) l) rest

  -- the one of a workflow is the first of its batches
  first-kept : (bs : List Batch) → filter (is_of d n) (workflows_of bs) ≡ first_of (filter (is_of d n) bs)
  first-kept [] = refl
  first-kept (b ∷ bs) = by (is_of d n b) refl (first-kept bs)
    where
      by : (t : Bool) → is_of d n b ≡ t → filter (is_of d n) (workflows_of bs) ≡ first_of (filter (is_of d n) bs)
          → cond t (b ∷ filter (is_of d n) (others_than b (workflows_of bs))) (filter (is_of d n) (others_than b (workflows_of bs))) ≡ first_of (cond t (b ∷ filter (is_of d n) bs) (filter (is_of d n) bs))
      by true e rest = ap (λ l. b ∷ l) (none-of-others b e (workflows_of bs))
      by false e rest = all-of-others b e (workflows_of bs) ∙ rest

-- they stand in order
workflows-ordered : (bs : List Batch) → AreInOrder bs → AreInOrder (workflows_of bs)
workflows-ordered [] order = tt
workflows-ordered (b ∷ bs) order = (
  All-filter (λ x. place_lt (place_of b) (place_of x) ≡ true) (λ other. not (is_of b.domain b.workflow other)) (workflows_of bs)
      (all-first (λ x. place_lt (place_of b) (place_of x) ≡ true) bs order.0),
  ordered-kept (λ other. not (is_of b.domain b.workflow other)) (workflows_of bs) (workflows-ordered bs order.1),
)

-- the first batch that is learned of a workflow
abbrev firsts_in : WorkflowValue → List Batch
firsts_in w = first_of (learned w.arrived)

learned-of : (d n : Name) (w : WorkflowValue) → IsOwn d n w → AllByRecursion (λ b. is_of d n b ≡ true) (learned w.arrived)
learned-of d n w own = all-learned (λ b. is_of d n b ≡ true) [] w.arrived own.arrived

firsts-own : (d n : Name) (w : WorkflowValue) → IsOwn d n w → AllByRecursion (λ b. is_of d n b ≡ true) (firsts_in w)
firsts-own d n w own = by (learned w.arrived) (learned-of d n w own)
  where
    by : (bs : List Batch) → AllByRecursion (λ b. is_of d n b ≡ true) bs → AllByRecursion (λ b. is_of d n b ≡ true) (first_of bs)
    by [] all = tt
    by (b ∷ bs) all = (all.0, tt)

firsts-rise : (d n : Name) (w : WorkflowValue) → IsOwn d n w → Rise (map (λ b. b) (firsts_in w))
firsts-rise d n w own = by (first_batch (learned w.arrived))
  where
    by : (o : Option Batch) → Rise (map (λ b. b) (option_to_list o))
    by None = tt
    by (Some b) = (tt, tt)

-- the names under which workflows stand are those of their first batches
names-one : (d n : Name) (w : WorkflowValue) → IsOwn d n w → named_where_learned d n w ≡ all_names (firsts_in w)
names-one d n w own = by (learned w.arrived) (learned-of d n w own)
  where
    by : (bs : List Batch) → AllByRecursion (λ b. is_of d n b ≡ true) bs → (if is_nil bs then [] else (d, n) ∷ []) ≡ all_names (first_of bs)
    by [] all = refl
    by (b ∷ bs) all = let names = names-of d n b all.0 in λ i. (sym names.0 i, sym names.1 i) ∷ []

names-domain : (d : Name) (ws : DomainValue) → AreOwn d ws → learned_in_domain d ws ≡ all_names (all_under firsts_in ws)
names-domain d [] are = refl
names-domain d (entry ∷ ws) are =
    ap (λ l. l ++ learned_in_domain d ws) (names-one d entry.0 entry.1 (hold-first (IsOwn d) entry ws are))
    ∙ ap (λ l. all_names (firsts_in entry.1) ++ l) (names-domain d ws (hold-rest (IsOwn d) entry ws are))
    ∙ sym (map-append names_in (firsts_in entry.1) (all_under firsts_in ws))

abbrev firsts_of_domain : DomainValue → List Batch
firsts_of_domain ws = all_under firsts_in ws

names-all : (domains : List (Name × DomainValue)) → AreDomains domains → learned_in_all domains ≡ all_names (all_under firsts_of_domain domains)
names-all [] are = refl
names-all (entry ∷ domains) are =
    ap (λ l. l ++ learned_in_all domains) (names-domain entry.0 entry.1 (hold-first AreOwn entry domains are))
    ∙ ap (λ l. all_names (firsts_of_domain entry.1) ++ l) (names-all domains (hold-rest AreOwn entry domains are))
    ∙ sym (map-append names_in (firsts_of_domain entry.1) (all_under firsts_of_domain domains))

module _ (domains : List (Name × DomainValue)) (are : AreDomains domains) where
  abbrev cell : Cell
  cell = cell_of domains

  abbrev batches : List Batch
  batches = filter (is_learned_in cell) cell.arrived

  -- what is learned of a workflow of the cell
  learned-there : (d n : Name) → filter (is_of d n) batches ≡ learned (arrived_of d n cell)
  learned-there d n =
      filter-swap (is_of d n) (is_learned_in cell) (is_learned (workflow_of d n cell)) cell.arrived (λ b e. learned-own d n b cell e)
      ∙ learned-kept (arrived_of d n cell) set
    where
      own : IsOwn d n (workflow_of d n cell)
      own = workflow-own domains are d n

      set : IsSet (arrived_of d n cell)
      set = subst (λ (v : WorkflowValue). IsSet v.arrived) (sym own.is.parts) (set-all (learned (arrived_of d n cell)) (workflow_of d n cell).waiting own.is.apart)

  alike : (d n : Name) → filter (is_of d n) (all_under firsts_of_domain domains) ≡ filter (is_of d n) (workflows_of batches)
  alike d n =
      items-of-workflow (λ b. b) firsts_in firsts-own firsts-rise refl domains are d n ∙ ap firsts_in (sym (workflow-there domains are d n))
      ∙ ap first_of (sym (learned-there d n)) ∙ sym (first-kept d n batches)

  firsts-are : all_under firsts_of_domain domains ≡ workflows_of batches
  firsts-are =
      same_in_order (λ b. b) (all_under firsts_of_domain domains) (workflows_of batches) (items-ordered (λ b. b) firsts_in firsts-own firsts-rise refl domains are)
      (subst AreInOrder (sym (map-id (workflows_of batches))) (workflows-ordered batches (ordered-kept (is_learned_in cell) cell.arrived (arrived-ordered domains are)))) alike

  pub learned-names : learned_in_all domains ≡ learned_workflows (cell_of domains)
  learned-names = names-all domains are ∙ ap all_names firsts-are
