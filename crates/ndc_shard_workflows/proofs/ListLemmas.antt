-- The workflows of a cell by name, and those to which reapplication writes.
use Rattle.std.proofs.Common.{◌≡◌, Bool, true, false, not, ◌&&◌, ◌||◌, List, [], ◌∷◌, ◌++◌, inl, inr, cond, map, refl, sym, ◌∙◌, subst, ap, true≢false, arith}
use Rattle.std.specs.List.{AllByRecursion, filter}
use Rattle.std.specs.List.Sorted.{IsStrictlySortedBy}
use Rattle.std.specs.Ordering.{is_eq, ordering_then}
use Rattle.std.specs.Str.{bytes_eq}
use Rattle.std.specs.declared.cmp.Ordering.TheVariants.{Less, Equal}
use Rattle.std.proofs.lemmas.List.Kept.{IsStrictlySortedBy-filter}
use Rattle.std.proofs.lemmas.Map.Keys.{sorted_head, sorted_tail}
use Rattle.std.proofs.lemmas.Slice.Eq.{bytes_eq-Decides}
use Rattle.ndc_model_cells.specs.Cells.{Cell, learned_of}
use Rattle.ndc_model_cells.specs.Jobs.{reapplied_in, reapplied_now, workflows_of, all_batches}
use Rattle.ndc_model_cells.specs.Places.{AreBehind, AreInOrder, is_of, place_lt, place_of}
use Rattle.ndc_model_cells.specs.Writing.{Desk, Entry, reapplication_of}
use Rattle.ndc_model_cells.proofs.PlaceLemmas.{place-parts, PlaceIsBefore}
use Rattle.ndc_domain.specs.Records.{names_cmp}
use Rattle.ndc_domain.proofs.Order.{names_same}
use Rattle.ndc_event.specs.declared.batch.Batch.{Batch}
use Rattle.ndc_event.specs.declared.name.Name.{Name}
use Rattle.ndc_shard_runs.specs.Kept.{is_due}
use Rattle.ndc_model_sets.specs.Learned.{learned}
use Rattle.ndc_model_sets.proofs.Lists.{filter-cases}
use Rattle.ndc_model_cells.specs.Allowed.{HasRoom, MayReapply}
use Rattle.ndc_shard_workflows.specs.Due.{AreDue, is_listed, is_named, names_order}
use Rattle.ndc_shard_workflows.specs.Reapplied.{reapplied_at, reapplied_among, written_among, AreReapplied, MayReapplyAmong}
use Rattle.ndc_shard_workflows.proofs.AmongLemmas.{AreApart, AreSame, chosen, idle, is_nothing, may-kept, may-more, reapplied-kept, room-there, writes_in, written-kept}
use Rattle.ndc_shard_workflows.proofs.DueLemmas.{order-same}
use Rattle.ndc_shard_workflows.proofs.KeptLemmas.{same-kept}
use Rattle.ndc_shard_workflows.proofs.SameLemmas.{names-of, of-names}

-- the names of a batch's workflow
abbrev pub names_in : Batch → Name × Name
names_in b = (b.domain, b.workflow)

abbrev pub all_names : List Batch → List (Name × Name)
all_names bs = map names_in bs

-- the batches of other workflows
abbrev pub others_than : Batch → List Batch → List Batch
others_than b bs = filter (λ other. not (is_of b.domain b.workflow other)) bs

-- workflows in order differ
pub apart-from : (list : List (Name × Name)) → IsStrictlySortedBy names_order list → AreApart list
apart-from [] sorted = tt
apart-from (one ∷ list) sorted = (each list (sorted_head names_order one list sorted), apart-from list (sorted_tail names_order one list sorted))
  where
    each : (rest : List (Name × Name)) → AllByRecursion (λ k. names_order one k ≡ Less) rest → AllByRecursion (λ other. is_named other.0 other.1 one ≡ false) rest
    each [] all = tt
    each (k ∷ rest) all = (sym (order-same one k) ∙ ap is_eq all.0, each rest all.1)

-- what holds of all batches holds of the first ones of workflows
pub all-first : (P : Batch → Type 0) (bs : List Batch) → AllByRecursion P bs → AllByRecursion P (workflows_of bs)
all-first P [] all = tt
all-first P (b ∷ bs) all = (all.0, kept (workflows_of bs) (all-first P bs all.1))
  where
    kept : (xs : List Batch) → AllByRecursion P xs → AllByRecursion P (others_than b xs)
    kept [] all = tt
    kept (x ∷ xs) all = filter-cases (AllByRecursion P) (λ other. not (is_of b.domain b.workflow other)) x xs (λ _. (all.0, kept xs all.1)) (λ _. kept xs all.1)

-- a batch of another workflow after this one is of a later workflow
later-names : (b other : Batch) → place_lt (place_of b) (place_of other) ≡ true → is_of b.domain b.workflow other ≡ false → names_order (names_in b) (names_in other) ≡ Less
later-names b other l n = by (place-parts (place_of b) (place_of other) l)
  where
    equal : (x y : Name) → x ≡ y → names_cmp x y ≡ Equal
    equal x y e = subst (λ (k : Name). names_cmp x k ≡ Equal) e (names_same x)

    by : PlaceIsBefore (place_of b) (place_of other) → names_order (names_in b) (names_in other) ≡ Less
    by (inl d) = ap (λ o. ordering_then o (names_cmp b.workflow other.workflow)) d
    by (inr (d, inl w)) = ap (λ o. ordering_then o (names_cmp b.workflow other.workflow)) (equal b.domain other.domain d) ∙ w
    by (inr (d, inr (w, k))) = absurd (true≢false (sym (of-names b.domain b.workflow other (sym d) (sym w)) ∙ n))

later-all : (b : Batch) (xs : List Batch) → AreBehind (place_of b) xs → AllByRecursion (λ k. names_order (names_in b) k ≡ Less) (all_names (others_than b xs))
later-all b [] all = tt
later-all b (x ∷ xs) all = by (is_of b.domain b.workflow x) refl (later-all b xs all.1)
  where
    by : (t : Bool) → is_of b.domain b.workflow x ≡ t → AllByRecursion (λ k. names_order (names_in b) k ≡ Less) (all_names (others_than b xs))
        → AllByRecursion (λ k. names_order (names_in b) k ≡ Less) (all_names (cond (not t) (x ∷ others_than b xs) (others_than b xs)))
    by true e rest = rest
    by false e rest = (later-names b x all.0 e, rest)

names-filter : (b : Batch) (xs : List Batch) → all_names (others_than b xs) ≡ filter (λ k. not (is_named b.domain b.workflow k)) (all_names xs)
names-filter b [] = refl
names-filter b (x ∷ xs) = by (is_of b.domain b.workflow x) (names-filter b xs)
  where
    by : (t : Bool) → all_names (others_than b xs) ≡ filter (λ k. not (is_named b.domain b.workflow k)) (all_names xs)
        → all_names (cond (not t) (x ∷ others_than b xs) (others_than b xs))
        ≡ cond (not t) (names_in x ∷ filter (λ k. not (is_named b.domain b.workflow k)) (all_names xs)) (filter (λ k. not (is_named b.domain b.workflow k)) (all_names xs))
    by true rest = rest
    by false rest = ap (λ l. names_in x ∷ l) rest

-- the workflows of batches in order stand in order
pub names-sorted : (bs : List Batch) → AreInOrder bs → IsStrictlySortedBy names_order (all_names (workflows_of bs))
unfolding IsStrictlySortedBy
names-sorted [] order = tt
names-sorted (b ∷ bs) order = (
  later-all b (workflows_of bs) (all-first (λ x. place_lt (place_of b) (place_of x) ≡ true) bs order.0),
  subst (IsStrictlySortedBy names_order) (sym (names-filter b (workflows_of bs)))
      (IsStrictlySortedBy-filter names_order (λ k. not (is_named b.domain b.workflow k)) (all_names (workflows_of bs)) (names-sorted bs order.1)),
)

-- of a workflow that is not listed nothing has arrived
others-listed : (d w : Name) (b : Batch) → is_of d w b ≡ false → (xs : List Batch) → is_listed d w (all_names (others_than b xs)) ≡ is_listed d w (all_names xs)
others-listed d w b n [] = refl
others-listed d w b n (x ∷ xs) = by (is_of b.domain b.workflow x) refl (others-listed d w b n xs)
  where
    by : (t : Bool) → is_of b.domain b.workflow x ≡ t → is_listed d w (all_names (others_than b xs)) ≡ is_listed d w (all_names xs)
        → is_listed d w (all_names (cond (not t) (x ∷ others_than b xs) (others_than b xs))) ≡ (is_of d w x || is_listed d w (all_names xs))
    by true e rest =
        let names = names-of b.domain b.workflow x e in
        rest ∙ sym (ap (λ t. t || is_listed d w (all_names xs)) (ap (λ (k : Name). bytes_eq k d && bytes_eq x.workflow w) names.0 ∙ ap (λ (k : Name). bytes_eq b.domain d && bytes_eq k w) names.1 ∙ n))
    by false e rest = ap (λ t. is_of d w x || t) rest

pub none-listed : (d w : Name) (bs : List Batch) → is_listed d w (all_names (workflows_of bs)) ≡ false → filter (is_of d w) bs ≡ []
none-listed d w [] e = refl
none-listed d w (b ∷ bs) e = by (is_of d w b) refl e (λ h. none-listed d w bs h)
  where
    by : (t : Bool) → is_of d w b ≡ t → (t || is_listed d w (all_names (others_than b (workflows_of bs)))) ≡ false → (is_listed d w (all_names (workflows_of bs)) ≡ false → filter (is_of d w) bs ≡ [])
        → cond t (b ∷ filter (is_of d w) bs) (filter (is_of d w) bs) ≡ []
    by true f g rest = absurd (true≢false g)
    by false f g rest = rest (sym (others-listed d w b f (workflows_of bs)) ∙ g)

-- where reapplication is due in none but these, it writes to none but these
pub due-are : (home : Desk) (list : List (Name × Name)) (cell : Cell) → AreDue list cell → AreReapplied home list cell
due-are home list cell are = record { ordered = are.ordered; each = λ d w e. idle home (d, w) cell (are.each d w e) }

module _ (home : Desk) (cell : Cell) (order : AreInOrder cell.arrived) (list : List (Name × Name)) (are : AreReapplied home list cell) where
  abbrev all : List (Name × Name)
  all = all_names (workflows_of cell.arrived)

  -- where reapplication writes, the workflow is one of the cell's, and one of the list
  written-listed : (d w : Name) → writes_in home cell (d, w) ≡ true → is_listed d w all ≡ true
  written-listed d w e = by (is_listed d w all) refl
    where
      by : (t : Bool) → is_listed d w all ≡ t → t ≡ true
      by true f = refl
      by false f =
          let none = idle home (d, w) cell (ap (λ (bs : List Batch). is_due (learned bs)) (none-listed d w cell.arrived f)) in
          absurd (true≢false (sym e ∙ ap (λ (entries : List Entry). not (is_nothing entries)) none))

  written-among : (d w : Name) → writes_in home cell (d, w) ≡ true → is_listed d w list ≡ true
  written-among d w e = by (is_listed d w list) refl
    where
      by : (t : Bool) → is_listed d w list ≡ t → t ≡ true
      by true f = refl
      by false f = absurd (true≢false (sym e ∙ ap (λ (entries : List Entry). not (is_nothing entries)) (are.each d w f)))

  -- the workflows to which reapplication writes are those of the list
  pub same-chosen : chosen home cell all ≡ chosen home cell list
  same-chosen = same-kept (writes_in home cell) all list (names-sorted cell.arrived order) are.ordered written-listed written-among

-- the cell itself is the same
pub all-same : (cell : Cell) (list : List (Name × Name)) → AreSame cell cell list
all-same cell [] = tt
all-same cell (one ∷ list) = (refl, all-same cell list)

module _ (home : Desk) where
  pub reapplied-as : (bs : List Batch) (cell : Cell) → reapplied_in home bs cell ≡ reapplied_among home (all_names bs) cell
  reapplied-as [] cell = refl
  reapplied-as (b ∷ bs) cell = reapplied-as bs (reapplied_at home (names_in b) cell)

  written-as : (bs : List Batch) (cell : Cell) → reapplied_now home bs cell ≡ written_among home (all_names bs) cell
  written-as [] cell = refl
  written-as (b ∷ bs) cell = ap (λ l. all_batches (reapplication_of home b.domain b.workflow cell) ++ l) (written-as bs (reapplied_at home (names_in b) cell))

  may-as : (bs : List Batch) (cell : Cell) → MayReapply home bs cell → MayReapplyAmong home (all_names bs) cell
  may-as [] cell may = tt
  may-as (b ∷ bs) cell may = (may.0, may.1, may-as bs (reapplied_at home (names_in b) cell) may.2)

  module _ (list : List (Name × Name)) (cell : Cell) (order : AreInOrder cell.arrived) (are : AreReapplied home list cell) where
    abbrev workflows : List (Name × Name)
    workflows = all_names (workflows_of cell.arrived)

    apart-all : AreApart workflows
    apart-all = apart-from workflows (names-sorted cell.arrived order)

    -- reapplication in these workflows is that in all of the cell
    pub reapplied-all : reapplied_among home list cell ≡ reapplied_in home (workflows_of cell.arrived) cell
    reapplied-all =
        reapplied-kept home cell list cell (apart-from list are.ordered) (all-same cell list) ∙ ap (λ l. reapplied_among home l cell) (sym (same-chosen home cell order list are))
        ∙ sym (reapplied-kept home cell workflows cell apart-all (all-same cell workflows)) ∙ sym (reapplied-as (workflows_of cell.arrived) cell)

    -- and writes the same
    pub written-all : written_among home list cell ≡ reapplied_now home (workflows_of cell.arrived) cell
    written-all =
        written-kept home cell list cell (apart-from list are.ordered) (all-same cell list) ∙ ap (λ l. written_among home l cell) (sym (same-chosen home cell order list are))
        ∙ sym (written-kept home cell workflows cell apart-all (all-same cell workflows)) ∙ sym (written-as (workflows_of cell.arrived) cell)

    -- and where it may be done in all of the cell, it may be done in these
    pub may-all : MayReapply home (workflows_of cell.arrived) cell → MayReapplyAmong home list cell
    may-all may =
        may-more home cell list cell (apart-from list are.ordered) (all-same cell list) (all-rooms list)
        (subst (λ l. MayReapplyAmong home l cell) (same-chosen home cell order list are) (may-kept home cell workflows cell apart-all (all-same cell workflows) among))
      where
        among : MayReapplyAmong home workflows cell
        among = may-as (workflows_of cell.arrived) cell may

        no-room : HasRoom (learned [])
        no-room = record { tasks = omega arith; ids = tt }

        there : (names : List (Name × Name)) → AllByRecursion (λ k. HasRoom (learned_of k.0 k.1 cell)) names → (d w : Name) → is_listed d w names ≡ true → HasRoom (learned_of d w cell)
        there [] rooms d w e = absurd (true≢false (sym e))
        there (k ∷ names) rooms d w e = by (bytes_eq k.0 d) refl (bytes_eq k.1 w) refl e (λ h. there names rooms.1 d w h)
          where
            by : (s : Bool) → bytes_eq k.0 d ≡ s → (t : Bool) → bytes_eq k.1 w ≡ t → ((s && t) || is_listed d w names) ≡ true → (is_listed d w names ≡ true → HasRoom (learned_of d w cell)) → HasRoom (learned_of d w cell)
            by true f true g h rest =
                subst (λ (n : Name). HasRoom (learned_of n w cell)) ((bytes_eq-Decides k.0 d).0 f) (subst (λ (n : Name). HasRoom (learned_of k.0 n cell)) ((bytes_eq-Decides k.1 w).0 g) rooms.0)
            by true f false g h rest = rest h
            by false f t g h rest = rest h

        room-in : (d w : Name) (t : Bool) → is_listed d w workflows ≡ t → HasRoom (learned_of d w cell)
        room-in d w true e = there workflows (room-there home cell workflows cell apart-all (all-same cell workflows) among) d w e
        room-in d w false e = subst (λ (bs : List Batch). HasRoom (learned bs)) (sym (none-listed d w cell.arrived e)) no-room

        all-rooms : (names : List (Name × Name)) → AllByRecursion (λ k. HasRoom (learned_of k.0 k.1 cell)) names
        all-rooms [] = tt
        all-rooms (k ∷ names) = (room-in k.0 k.1 (is_listed k.0 k.1 workflows) refl, all-rooms names)
