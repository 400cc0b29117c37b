-- What is at hand of what cells have written, cell by cell.
use Rattle.std.proofs.Common.{◌≡◌, ◌<◌, ◌≤◌, ◌+◌, ℕ, zero, suc, List, [], ◌∷◌, drop, length, sym, subst, arith}
use Rattle.std.proofs.Math.Seq.{drop-nil}
use Rattle.ndc_model_cells.specs.Cells.{Cell}
use Rattle.ndc_model_cells.specs.Jobs.{cell_for}
use Rattle.ndc_cluster.specs.Rounds.{AreFresh, IsFresh}
use Rattle.ndc_cluster.specs.declared.fresh.Fresh.{Fresh}

-- the next one is that of the next cell
pub fresh_next : (one : Fresh) (rest : List Fresh) (cells : List Cell) (shard : ℕ) → AreFresh (one ∷ rest) (drop shard cells)
    → (shard < length cells) × IsFresh one (cell_for shard cells) × AreFresh rest (drop (shard + 1) cells)
fresh_next one rest [] shard it = absurd (subst (AreFresh (one ∷ rest)) (drop-nil shard) it)
fresh_next one rest (cell ∷ cells) zero it = (omega arith, it.0, it.1)
fresh_next one rest (cell ∷ cells) (suc shard) it =
    let next = fresh_next one rest cells shard it in
    let same : suc shard + 1 ≡ suc (shard + 1) = omega arith in
    (omega (arith, next.0), next.1, subst (λ n. AreFresh rest (drop n (cell ∷ cells))) (sym same) next.2)

-- where none is left, no cell is
pub fresh_end : (cells : List Cell) (shard : ℕ) → AreFresh [] (drop shard cells) → length cells ≤ shard
fresh_end [] shard it = omega arith
fresh_end (cell ∷ cells) zero it = absurd it
fresh_end (cell ∷ cells) (suc shard) it = omega (arith, fresh_end cells shard it)
