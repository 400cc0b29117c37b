-- Reapplication in some workflows is that in those to which it writes.
use Rattle.std.proofs.Common.{◌≡◌, ℕ, Bool, true, false, not, ◌&&◌, List, [], ◌∷◌, ◌++◌, Option, Some, None, Result, Ok, Err, cond, if◌then◌else◌, refl, sym, ◌∙◌, subst, ap, true≢false}
use Rattle.std.specs.List.{AllByRecursion, filter}
use Rattle.ndc_model_cells.specs.Cells.{Cell, learned_of}
use Rattle.ndc_model_cells.specs.Jobs.{all_batches}
use Rattle.ndc_model_cells.specs.Writing.{Entry, Desk, alone, batch_below, may_write, may_write_by, next_key, reapplication_below, reapplication_by, reapplication_of, state_under, with_all_written}
use Rattle.ndc_model_cells.proofs.CellLemmas.{others_learned}
use Rattle.ndc_command.specs.declared.refusal.Refusal.{Refusal}
use Rattle.ndc_domain.specs.Records.{record_of}
use Rattle.ndc_event.specs.declared.batch.Batch.{Batch}
use Rattle.ndc_event.specs.declared.name.Name.{Name}
use Rattle.ndc_reapply.specs.Reapplied.{reapplied}
use Rattle.ndc_reapply.specs.declared.stray.Stray.{Stray}
use Rattle.ndc_shard_runs.specs.Kept.{is_due, is_empty, is_open}
use Rattle.ndc_model_sets.specs.Branches.{workflow_tip}
use Rattle.ndc_model_sets.specs.Current.{state_to, strays}
use Rattle.ndc_model_cells.specs.Allowed.{HasRoom, MayWriteAll}
use Rattle.ndc_shard_workflows.specs.Due.{is_named}
use Rattle.ndc_shard_workflows.specs.Reapplied.{reapplied_at, reapplied_among, written_among, MayReapplyAmong}

-- whether nothing is written
abbrev pub is_nothing : List Entry → Bool
is_nothing [] = true
is_nothing (entry ∷ entries) = false

nothing-is : (entries : List Entry) → not (is_nothing entries) ≡ false → entries ≡ []
nothing-is [] e = refl
nothing-is (entry ∷ entries) e = absurd (true≢false e)

-- whether reapplication writes to a workflow
abbrev pub writes_in : Desk → Cell → Name × Name → Bool
writes_in home cell names = not (is_nothing (reapplication_of home names.0 names.1 cell))

-- what it writes is told by what is learned of the workflow
written-same : (home : Desk) (names : Name × Name) (first cell : Cell) → learned_of names.0 names.1 cell ≡ learned_of names.0 names.1 first
    → reapplication_of home names.0 names.1 cell ≡ reapplication_of home names.0 names.1 first
unfolding reapplication_of may_write
written-same home names first cell same = ap (λ (bs : List Batch). reapplication_by names.0 names.1 (may_write_by home (record_of home.table names.0) bs) bs) same

-- the workflows differ
abbrev pub AreApart : List (Name × Name) → Type 0
AreApart [] = Unit {0}
AreApart (one ∷ list) = AllByRecursion (λ other. is_named other.0 other.1 one ≡ false) list × AreApart list

-- what is learned of the workflows is the same in both cells
abbrev pub AreSame : Cell → Cell → List (Name × Name) → Type 0
AreSame first cell list = AllByRecursion (λ names. learned_of names.0 names.1 cell ≡ learned_of names.0 names.1 first) list

module _ (home : Desk) where
  module _ (one : Name × Name) (cell : Cell) where
    abbrev batches : List Batch
    batches = learned_of one.0 one.1 cell

    -- the batch with the copies of some strays
    abbrev copying : ℕ → Batch → List Stray → Batch
    copying version tip list = batch_below one.0 one.1 (next_key version batches) tip (state_to tip.run tip.key batches) (reapplied (state_to tip.run tip.key batches) version list)

    idle-below : (version : ℕ) (o : Option Batch) (list : List Stray) → (not (is_empty list) && is_open (state_under o batches)) ≡ false → reapplication_below one.0 one.1 version o batches list ≡ []
    idle-below version None list e = refl
    idle-below version (Some tip) [] e = refl
    idle-below version (Some tip) (stray ∷ list) e = ap (λ t. if t then alone (copying version tip (stray ∷ list)) ∷ [] else []) e

    -- where reapplication is not due, it writes nothing
    pub idle : is_due (learned_of one.0 one.1 cell) ≡ false → reapplication_of home one.0 one.1 cell ≡ []
    unfolding reapplication_of
    idle e = by (may_write home one.0 one.1 cell)
      where
        by : (r : Result ℕ Refusal) → reapplication_by one.0 one.1 r batches ≡ []
        by (Ok version) = idle-below version (workflow_tip batches) (strays batches) e
        by (Err why) = refl

    others-below : (d w : Name) → is_named d w one ≡ false → (version : ℕ) (o : Option Batch) (list : List Stray)
        → learned_of d w (with_all_written (reapplication_below one.0 one.1 version o batches list) cell) ≡ learned_of d w cell
    others-below d w e version None list = refl
    others-below d w e version (Some tip) [] = refl
    others-below d w e version (Some tip) (stray ∷ list) = by (state_to tip.run tip.key batches).running
      where
        by : (t : Bool) → learned_of d w (with_all_written (if t then alone (copying version tip (stray ∷ list)) ∷ [] else []) cell) ≡ learned_of d w cell
        by true = others_learned d w (alone (copying version tip (stray ∷ list))) cell e tt
        by false = refl

    -- what is learned of other workflows stays
    pub others-stay : (d w : Name) → is_named d w one ≡ false → learned_of d w (reapplied_at home one cell) ≡ learned_of d w cell
    unfolding reapplication_of
    others-stay d w e = by (may_write home one.0 one.1 cell)
      where
        by : (r : Result ℕ Refusal) → learned_of d w (with_all_written (reapplication_by one.0 one.1 r batches) cell) ≡ learned_of d w cell
        by (Ok version) = others-below d w e version (workflow_tip batches) (strays batches)
        by (Err why) = refl

  -- after reapplication in a workflow, the others are the same still
  still-same : (one : Name × Name) (first cell : Cell) (list : List (Name × Name)) → AllByRecursion (λ other. is_named other.0 other.1 one ≡ false) list → AreSame first cell list → AreSame first (reapplied_at home one cell) list
  still-same one first cell [] apart same = tt
  still-same one first cell (other ∷ list) apart same = (others-stay one cell other.0 other.1 apart.0 ∙ same.0, still-same one first cell list apart.1 same.1)

  module _ (first : Cell) where
    abbrev pub chosen : List (Name × Name) → List (Name × Name)
    chosen list = filter (writes_in home first) list

    nothing-there : (one : Name × Name) (cell : Cell) → learned_of one.0 one.1 cell ≡ learned_of one.0 one.1 first → writes_in home first one ≡ false → reapplication_of home one.0 one.1 cell ≡ []
    nothing-there one cell same e = written-same home one first cell same ∙ nothing-is (reapplication_of home one.0 one.1 first) e

    pub reapplied-kept : (list : List (Name × Name)) (cell : Cell) → AreApart list → AreSame first cell list → reapplied_among home list cell ≡ reapplied_among home (chosen list) cell
    reapplied-kept [] cell apart same = refl
    reapplied-kept (one ∷ list) cell apart same = by (writes_in home first one) refl (reapplied-kept list (reapplied_at home one cell) apart.1 (still-same one first cell list apart.0 same.1))
      where
        by : (t : Bool) → writes_in home first one ≡ t → reapplied_among home list (reapplied_at home one cell) ≡ reapplied_among home (chosen list) (reapplied_at home one cell)
            → reapplied_among home list (reapplied_at home one cell) ≡ reapplied_among home (cond t (one ∷ chosen list) (chosen list)) cell
        by true e rest = rest
        by false e rest = rest ∙ ap (λ (entries : List Entry). reapplied_among home (chosen list) (with_all_written entries cell)) (nothing-there one cell same.0 e)

    pub written-kept : (list : List (Name × Name)) (cell : Cell) → AreApart list → AreSame first cell list → written_among home list cell ≡ written_among home (chosen list) cell
    written-kept [] cell apart same = refl
    written-kept (one ∷ list) cell apart same = by (writes_in home first one) refl (written-kept list (reapplied_at home one cell) apart.1 (still-same one first cell list apart.0 same.1))
      where
        by : (t : Bool) → writes_in home first one ≡ t → written_among home list (reapplied_at home one cell) ≡ written_among home (chosen list) (reapplied_at home one cell)
            → all_batches (reapplication_of home one.0 one.1 cell) ++ written_among home list (reapplied_at home one cell) ≡ written_among home (cond t (one ∷ chosen list) (chosen list)) cell
        by true e rest = ap (λ l. all_batches (reapplication_of home one.0 one.1 cell) ++ l) rest
        by false e rest =
            ap (λ l. all_batches (reapplication_of home one.0 one.1 cell) ++ l) rest
            ∙ ap (λ (entries : List Entry). all_batches entries ++ written_among home (chosen list) (with_all_written entries cell)) (nothing-there one cell same.0 e)

    pub may-kept : (list : List (Name × Name)) (cell : Cell) → AreApart list → AreSame first cell list → MayReapplyAmong home list cell → MayReapplyAmong home (chosen list) cell
    may-kept [] cell apart same may = tt
    may-kept (one ∷ list) cell apart same may = by (writes_in home first one) refl (may-kept list (reapplied_at home one cell) apart.1 (still-same one first cell list apart.0 same.1) may.2)
      where
        by : (t : Bool) → writes_in home first one ≡ t → MayReapplyAmong home (chosen list) (reapplied_at home one cell) → MayReapplyAmong home (cond t (one ∷ chosen list) (chosen list)) cell
        by true e rest = (may.0, may.1, rest)
        by false e rest = subst (λ (entries : List Entry). MayReapplyAmong home (chosen list) (with_all_written entries cell)) (nothing-there one cell same.0 e) rest

    pub may-more : (list : List (Name × Name)) (cell : Cell) → AreApart list → AreSame first cell list → AllByRecursion (λ names. HasRoom (learned_of names.0 names.1 first)) list → MayReapplyAmong home (chosen list) cell
        → MayReapplyAmong home list cell
    may-more [] cell apart same room may = tt
    may-more (one ∷ list) cell apart same room may =
        by (writes_in home first one) refl (λ m. may-more list (reapplied_at home one cell) apart.1 (still-same one first cell list apart.0 same.1) room.1 m) may
      where
        by : (t : Bool) → writes_in home first one ≡ t → (MayReapplyAmong home (chosen list) (reapplied_at home one cell) → MayReapplyAmong home list (reapplied_at home one cell))
            → MayReapplyAmong home (cond t (one ∷ chosen list) (chosen list)) cell → MayReapplyAmong home (one ∷ list) cell
        by true e rest m = (m.0, m.1, rest m.2)
        by false e rest m =
            let none = nothing-there one cell same.0 e in (
              subst HasRoom (sym same.0) room.0,
              subst (λ (entries : List Entry). MayWriteAll one.0 one.1 entries cell) (sym none) tt,
              rest (subst (λ (entries : List Entry). MayReapplyAmong home (chosen list) (with_all_written entries cell)) (sym none) m),
            )

    -- there is room in each of the workflows
    pub room-there : (list : List (Name × Name)) (cell : Cell) → AreApart list → AreSame first cell list → MayReapplyAmong home list cell → AllByRecursion (λ names. HasRoom (learned_of names.0 names.1 first)) list
    room-there [] cell apart same may = tt
    room-there (one ∷ list) cell apart same may = (subst HasRoom same.0 may.0, room-there list (reapplied_at home one cell) apart.1 (still-same one first cell list apart.0 same.1) may.2)
