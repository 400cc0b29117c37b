-- Strays are applied again in workflows, one after the other.
use Rattle.std.proofs.Common.{◌≡◌, List, [], ◌∷◌, ◌++◌, sym, ◌∙◌, subst, ap}
use Rattle.std.proofs.lemmas.List.{append_assoc}
use Rattle.ndc_event.specs.declared.batch.Batch.{Batch}
use Rattle.ndc_event.specs.declared.name.Name.{Name}
use Rattle.ndc_model_cells.specs.Cells.{Cell}
use Rattle.ndc_model_cells.specs.Jobs.{all_batches}
use Rattle.ndc_model_cells.specs.Writing.{Desk, reapplication_of}
use Rattle.ndc_shard_workflows.specs.Reapplied.{MayReapplyAmong, reapplied_among, reapplied_at, written_among}
use Rattle.ndc_shard_workflows.proofs.FrontLemmas.{one-more}

abbrev Names : Type 0
Names = List (Name × Name)

-- a prefix of the list is done; in the rest it may be done, and with that all is
abbrev pub IsDoneSoFar : Desk → Names → Cell → Names → Names → List Batch → Cell → Type 0
IsDoneSoFar home list old front rest batches cell =
    MayReapplyAmong home rest cell × (reapplied_among home rest cell ≡ reapplied_among home list old)
    × (batches ++ written_among home rest cell ≡ written_among home list old) × (list ≡ front ++ rest) × (cell ≡ reapplied_among home front old)

-- one workflow more
pub done-more : (home : Desk) (list : Names) (old : Cell) (front now rest : Names) (one : Name × Name) (batches after : List Batch) (cell new : Cell) → now ≡ one ∷ rest
    → new ≡ reapplied_at home one cell → after ≡ batches ++ all_batches (reapplication_of home one.0 one.1 cell) → IsDoneSoFar home list old front now batches cell
    → IsDoneSoFar home list old (front ++ one ∷ []) rest after new
done-more home list old front now rest one batches after cell new next cell_is batches_are so = (
  subst (λ (c : Cell). MayReapplyAmong home rest c) (sym cell_is) (subst (λ (l : Names). MayReapplyAmong home l cell) next so.0).2,
  ap (λ (c : Cell). reapplied_among home rest c) cell_is ∙ sym (ap (λ (l : Names). reapplied_among home l cell) next) ∙ so.1,
  ap (λ (bs : List Batch). bs ++ written_among home rest new) batches_are
      ∙ ap (λ (c : Cell). (batches ++ all_batches (reapplication_of home one.0 one.1 cell)) ++ written_among home rest c) cell_is
      ∙ append_assoc batches (all_batches (reapplication_of home one.0 one.1 cell)) (written_among home rest (reapplied_at home one cell))
      ∙ sym (ap (λ (l : Names). batches ++ written_among home l cell) next) ∙ so.2,
  so.3 ∙ ap (λ (l : Names). front ++ l) next ∙ sym (append_assoc front (one ∷ []) rest),
  cell_is ∙ ap (λ (c : Cell). reapplied_at home one c) so.4 ∙ sym (one-more home front one old),
)
