-- Reapplication in a prefix of a list of workflows is that in a prefix of all of the cell, where it writes to no others than those of the list.
use Rattle.std.proofs.Common.{◌≡◌, ℕ, zero, suc, Bool, true, false, List, [], ◌∷◌, ◌++◌, cond, length, take, refl, sym, ◌∙◌, ap}
use Rattle.std.specs.List.{AllByRecursion, filter, take-map}
use Rattle.std.proofs.Math.Seq.{take-append_seam, take-length}
use Rattle.ndc_model_cells.specs.Cells.{Cell}
use Rattle.ndc_model_cells.specs.Jobs.{reapplied_in, workflows_of}
use Rattle.ndc_model_cells.specs.Places.{AreInOrder}
use Rattle.ndc_model_cells.specs.Writing.{Desk}
use Rattle.ndc_event.specs.declared.batch.Batch.{Batch}
use Rattle.ndc_event.specs.declared.name.Name.{Name}
use Rattle.ndc_shard_workflows.specs.Due.{is_named}
use Rattle.ndc_shard_workflows.specs.Reapplied.{AreReapplied, IsReappliedAmongFirst, IsReappliedInFirst, reapplied_among, reapplied_at}
use Rattle.ndc_shard_workflows.proofs.AmongLemmas.{AreApart, chosen, reapplied-kept, writes_in}
use Rattle.ndc_shard_workflows.proofs.ListLemmas.{all-same, all_names, apart-from, names_in, names-sorted, reapplied-as, same-chosen}

module _ {X : Type 0} (p : X → Bool) where
  -- what passes of a prefix is a prefix of what passes
  filter-front : (n : ℕ) (xs : List X) → (k : ℕ) × (filter p (take n xs) ≡ take k (filter p xs))
  filter-front zero xs = (zero, refl)
  filter-front (suc n) [] = (zero, refl)
  filter-front (suc n) (x ∷ xs) = by (p x) (filter-front n xs)
    where
      by : (t : Bool) → (k : ℕ) × (filter p (take n xs) ≡ take k (filter p xs))
          → (k : ℕ) × (cond t (x ∷ filter p (take n xs)) (filter p (take n xs)) ≡ take k (cond t (x ∷ filter p xs) (filter p xs)))
      by true rest = (suc rest.0, ap (λ l. x ∷ l) rest.1)
      by false rest = rest

  -- and each prefix of what passes is what passes of a prefix
  front-filter : (k : ℕ) (xs : List X) → (n : ℕ) × (filter p (take n xs) ≡ take k (filter p xs))
  front-filter zero xs = (zero, refl)
  front-filter (suc k) [] = (zero, refl)
  front-filter (suc k) (x ∷ xs) = by (p x) refl (front-filter k xs) (front-filter (suc k) xs)
    where
      by : (t : Bool) → p x ≡ t → (n : ℕ) × (filter p (take n xs) ≡ take k (filter p xs)) → (n : ℕ) × (filter p (take n xs) ≡ take (suc k) (filter p xs))
          → (n : ℕ) × (filter p (take n (x ∷ xs)) ≡ take (suc k) (cond t (x ∷ filter p xs) (filter p xs)))
      by true e rest same = (suc rest.0, ap (λ t. cond t (x ∷ filter p (take rest.0 xs)) (filter p (take rest.0 xs))) e ∙ ap (λ l. x ∷ l) rest.1)
      by false e rest same = (suc same.0, ap (λ t. cond t (x ∷ filter p (take same.0 xs)) (filter p (take same.0 xs))) e ∙ same.1)

-- what holds of all holds of the first ones
all-take : {X : Type 0} (P : X → Type 0) (n : ℕ) (xs : List X) → AllByRecursion P xs → AllByRecursion P (take n xs)
all-take P zero xs all = tt
all-take P (suc n) [] all = tt
all-take P (suc n) (x ∷ xs) all = (all.0, all-take P n xs all.1)

apart-take : (n : ℕ) (list : List (Name × Name)) → AreApart list → AreApart (take n list)
apart-take zero list apart = tt
apart-take (suc n) [] apart = tt
apart-take (suc n) (one ∷ list) apart = (all-take (λ other. is_named other.0 other.1 one ≡ false) n list apart.0, apart-take n list apart.1)

module _ (home : Desk) where
  -- prefixes of the list and of all workflows of the cell in which reapplication writes to the same ones come to the same
  same-fronts : (list : List (Name × Name)) (cell : Cell) → AreInOrder cell.arrived → AreReapplied home list cell → (k n : ℕ)
      → chosen home cell (take k list) ≡ chosen home cell (take n (all_names (workflows_of cell.arrived)))
      → reapplied_among home (take k list) cell ≡ reapplied_in home (take n (workflows_of cell.arrived)) cell
  same-fronts list cell order are k n e =
      let all = all_names (workflows_of cell.arrived) in
      reapplied-kept home cell (take k list) cell (apart-take k list (apart-from list are.ordered)) (all-same cell (take k list)) ∙ ap (λ (l : List (Name × Name)). reapplied_among home l cell) e
      ∙ sym (reapplied-kept home cell (take n all) cell (apart-take n all (apart-from all (names-sorted cell.arrived order))) (all-same cell (take n all)))
      ∙ ap (λ (l : List (Name × Name)). reapplied_among home l cell) (take-map names_in n (workflows_of cell.arrived)) ∙ sym (reapplied-as home (take n (workflows_of cell.arrived)) cell)

  -- a prefix of the list is a prefix of all
  pub first-of-all : (list : List (Name × Name)) (cell : Cell) → AreInOrder cell.arrived → AreReapplied home list cell
      → (after : Cell) → IsReappliedAmongFirst home list cell after → IsReappliedInFirst home (workflows_of cell.arrived) cell after
  first-of-all list cell order are after first =
      let some = filter-front (writes_in home cell) first.count list in
      let there = front-filter (writes_in home cell) some.0 (all_names (workflows_of cell.arrived)) in
      record { count = there.0; cell = first.cell ∙ same-fronts list cell order are first.count there.0 (some.1 ∙ ap (take some.0) (sym (same-chosen home cell order list are)) ∙ sym there.1) }

  -- one workflow more
  pub one-more : (front : List (Name × Name)) (one : Name × Name) (cell : Cell) → reapplied_among home (front ++ one ∷ []) cell ≡ reapplied_at home one (reapplied_among home front cell)
  one-more [] one cell = refl
  one-more (names ∷ front) one cell = one-more front one (reapplied_at home names cell)

  -- what is done of a list is a prefix of it
  pub front-first : (front rest list : List (Name × Name)) (before after : Cell) → list ≡ front ++ rest → after ≡ reapplied_among home front before → IsReappliedAmongFirst home list before after
  front-first front rest list before after parts done = record {
    count = length front;
    cell = done ∙ ap (λ (l : List (Name × Name)). reapplied_among home l before) (sym (ap (take (length front)) parts ∙ take-append_seam front rest));
  }

  -- none, and all
  pub none-first : (workflows : List Batch) (before after : Cell) → after ≡ before → IsReappliedInFirst home workflows before after
  none-first workflows before after same = record { count = 0; cell = same }

  pub whole-first : (workflows : List Batch) (before after : Cell) → after ≡ reapplied_in home workflows before → IsReappliedInFirst home workflows before after
  whole-first workflows before after done = record { count = length workflows; cell = done ∙ ap (λ (l : List Batch). reapplied_in home l before) (sym (take-length workflows)) }
