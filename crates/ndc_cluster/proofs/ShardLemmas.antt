-- Cells do their jobs each by itself.
use Rattle.std.proofs.Common.{◌≡◌, ℕ, ◌<◌, Bool, true, false, List, [], ◌∷◌, ◌++◌, length, arith, refl, sym, ap, subst, ◌∙◌}
use Rattle.std.specs.Prelude.{◌==◌}
use Rattle.std.proofs.lemmas.Bool.{eqb-true, eqb-false}
use Rattle.std.proofs.lemmas.List.{get_or-set_same, get_or-set_other, length-set}
use Rattle.ndc_model_cells.specs.declared.job.Job.{Job}
use Rattle.ndc_model_cells.specs.declared.job.ShardJob.{ShardJob}
use Rattle.ndc_model_cells.specs.Cells.{Cell, empty_cell}
use Rattle.ndc_model_cells.specs.Jobs.{after_job, cell_for, cells_after, cells_behind, replies_to, reply_to}
use Rattle.ndc_model_cells.specs.Writing.{Desk}
use Rattle.ndc_model_cells.specs.Conditions.{AreAllowed, Condition, MayDo}
use Rattle.ndc_cluster.specs.Rounds.{cell_after, cell_replies, jobs_of}

-- as many cells as before
pub cells-many : (home : Desk) (jobs : List ShardJob) (cells : List Cell) → length (cells_after home jobs cells) ≡ length cells
unfolding cells_after
cells-many home [] cells = refl
cells-many home (asked ∷ jobs) cells = cells-many home jobs (cells_behind home asked cells) ∙ length-set cells asked.shard (after_job home asked.job (cell_for asked.shard cells))

-- the cell of a shard after one job: of its own, or of another
pub behind-own : (home : Desk) (asked : ShardJob) (cells : List Cell) (shard : ℕ) → shard < length cells → (asked.shard == shard) ≡ true → cell_for shard (cells_behind home asked cells) ≡ after_job home asked.job (cell_for shard cells)
behind-own home asked cells shard below own =
    let same : asked.shard ≡ shard = eqb-true asked.shard shard own in
    subst (λ s. cell_for s (cells_behind home asked cells) ≡ after_job home asked.job (cell_for s cells)) same
    (get_or-set_same cells asked.shard (after_job home asked.job (cell_for asked.shard cells)) empty_cell (subst (λ s. s < length cells) (sym same) below))

pub behind-other : (home : Desk) (asked : ShardJob) (cells : List Cell) (shard : ℕ) → (asked.shard == shard) ≡ false → cell_for shard (cells_behind home asked cells) ≡ cell_for shard cells
behind-other home asked cells shard other = get_or-set_other cells asked.shard shard (after_job home asked.job (cell_for asked.shard cells)) empty_cell (λ same. eqb-false asked.shard shard other (sym same))

-- the cell of a shard after all jobs is that after its own
pub cell_by_itself : (home : Desk) (jobs : List ShardJob) (cells : List Cell) (shard : ℕ) → shard < length cells → cell_for shard (cells_after home jobs cells) ≡ cell_after home (jobs_of shard jobs) (cell_for shard cells)
unfolding cells_after
cell_by_itself home [] cells shard below = refl
cell_by_itself home (asked ∷ jobs) cells shard below = by (asked.shard == shard) refl (cell_by_itself home jobs (cells_behind home asked cells) shard inside)
  where
    inside : shard < length (cells_behind home asked cells)
    inside = let e = length-set cells asked.shard (after_job home asked.job (cell_for asked.shard cells)) in omega (arith, e, below)

    by : (b : Bool) → (asked.shard == shard) ≡ b → cell_for shard (cells_after home jobs (cells_behind home asked cells)) ≡ cell_after home (jobs_of shard jobs) (cell_for shard (cells_behind home asked cells))
        → cell_for shard (cells_after home (asked ∷ jobs) cells) ≡ cell_after home (jobs_of shard (asked ∷ jobs)) (cell_for shard cells)
    by true own rest = rw own (rest ∙ ap (cell_after home (jobs_of shard jobs)) (behind-own home asked cells shard below own))
    by false other rest = rw other (rest ∙ ap (cell_after home (jobs_of shard jobs)) (behind-other home asked cells shard other))

-- what may be done by all may be done by each
pub allowed-by-itself : (allows : Condition) (home : Desk) (jobs : List ShardJob) (cells : List Cell) (shard : ℕ) → shard < length cells → AreAllowed allows home jobs cells → MayDo allows home (jobs_of shard jobs) (cell_for shard cells)
allowed-by-itself allows home [] cells shard below may = tt
allowed-by-itself allows home (asked ∷ jobs) cells shard below may = by (asked.shard == shard) refl (allowed-by-itself allows home jobs (cells_behind home asked cells) shard inside may.1)
  where
    inside : shard < length (cells_behind home asked cells)
    inside = let e = length-set cells asked.shard (after_job home asked.job (cell_for asked.shard cells)) in omega (arith, e, below)

    by : (b : Bool) → (asked.shard == shard) ≡ b → MayDo allows home (jobs_of shard jobs) (cell_for shard (cells_behind home asked cells)) → MayDo allows home (jobs_of shard (asked ∷ jobs)) (cell_for shard cells)
    by true own rest =
        rw own (subst (λ s. allows home asked.job (cell_for s cells)) (eqb-true asked.shard shard own) may.0, subst (MayDo allows home (jobs_of shard jobs)) (behind-own home asked cells shard below own) rest)
    by false other rest = rw other (subst (MayDo allows home (jobs_of shard jobs)) (behind-other home asked cells shard other) rest)

-- a job more
pub jobs-more : (shard : ℕ) (jobs : List ShardJob) (asked : ShardJob) → jobs_of shard (jobs ++ asked ∷ []) ≡ jobs_of shard jobs ++ jobs_of shard (asked ∷ [])
jobs-more shard [] asked = refl
jobs-more shard (one ∷ jobs) asked = by (one.shard == shard) refl (jobs-more shard jobs asked)
  where
    by : (b : Bool) → (one.shard == shard) ≡ b → jobs_of shard (jobs ++ asked ∷ []) ≡ jobs_of shard jobs ++ jobs_of shard (asked ∷ [])
        → jobs_of shard ((one ∷ jobs) ++ asked ∷ []) ≡ jobs_of shard (one ∷ jobs) ++ jobs_of shard (asked ∷ [])
    by true e rest = rw e (ap (λ js. one.job ∷ js) rest)
    by false e rest = rw e rest

-- a reply more of one cell, and of all
pub reply-more : (home : Desk) (jobs : List Job) (asked : Job) (cell : Cell) → cell_replies home (jobs ++ asked ∷ []) cell ≡ cell_replies home jobs cell ++ reply_to home asked (cell_after home jobs cell) ∷ []
reply-more home [] asked cell = refl
reply-more home (one ∷ jobs) asked cell = ap (λ rs. reply_to home one cell ∷ rs) (reply-more home jobs asked (after_job home one cell))

pub replies-more : (home : Desk) (jobs : List ShardJob) (asked : ShardJob) (cells : List Cell)
    → replies_to home (jobs ++ asked ∷ []) cells ≡ replies_to home jobs cells ++ reply_to home asked.job (cell_for asked.shard (cells_after home jobs cells)) ∷ []
unfolding replies_to cells_after
replies-more home [] asked cells = refl
replies-more home (one ∷ jobs) asked cells = ap (λ rs. reply_to home one.job (cell_for one.shard cells) ∷ rs) (replies-more home jobs asked (cells_behind home one cells))
