-- Cells that are idle need not be asked to apply their strays again.
use Rattle.std.proofs.Common.{◌≡◌, ◌+◌, ◌-◌, ◌<◌, ◌≤◌, ◌==◌, inl, inr, ℕ, zero, suc, Bool, true, false, List, [], ◌∷◌, length, map, get_or, set, if◌then◌else◌, eq-eqb, true≢false, refl, ap, sym, subst, ◌∙◌, arith}
use Rattle.std.proofs.lemmas.Bool.{eqb-true}
use Rattle.std.proofs.lemmas.List.{set-get_or}
use Rattle.std.specs.List.{AllByRecursion, range_with_len}
use Rattle.ndc_cluster.specs.Idle.{IsIdle}
use Rattle.ndc_domain.specs.declared.clusters.ClusterNo.{ClusterNo}
use Rattle.ndc_model.specs.Moves.{Note, notes_of}
use Rattle.ndc_model_cells.specs.Cells.{Cell, empty_cell}
use Rattle.ndc_model_cells.specs.Conditions.{AreAllowed, Condition}
use Rattle.ndc_model_cells.specs.Jobs.{after_job, cell_for, cells_after, cells_behind, replies_to, reply_to}
use Rattle.ndc_model_cells.specs.Writing.{Desk}
use Rattle.ndc_model_cells.specs.declared.job.Job.TheVariants.{Reapply}
use Rattle.ndc_model_cells.specs.declared.job.JobReply.{JobReply}
use Rattle.ndc_model_cells.specs.declared.job.ShardJob.{ShardJob}
use Rattle.ndc_world_replication.specs.Chosen.{AreChosen, reapplies}
use Rattle.ndc_world_replication.specs.Dones.{idle_note, notes_passing}

-- what stands at another place of a list stays
other-there : (cells : List Cell) (i j : ℕ) (c d : Cell) → i < j → get_or (set cells i c) j d ≡ get_or cells j d
other-there [] i j c d less = refl
other-there (x ∷ cells) zero zero c d less = absurd (omega (arith, less))
other-there (x ∷ cells) zero (suc j) c d less = refl
other-there (x ∷ cells) (suc i) zero c d less = absurd (omega (arith, less))
other-there (x ∷ cells) (suc i) (suc j) c d less = other-there cells i j c d (omega (arith, less))

-- the shard of a job that is chosen is one of those
chosen-from : (desk : Desk) (cells : List Cell) (count shard : ℕ) (asked : ShardJob) (jobs : List ShardJob) → AreChosen desk cells count shard (asked ∷ jobs) → shard ≤ asked.shard
chosen-from desk cells zero shard asked jobs none = absurd (omega (arith, ap (λ (list : List ShardJob). length list) none))
chosen-from desk cells (suc count) shard asked jobs (inl (is, chosen)) = subst (λ (job : ShardJob). shard ≤ job.shard) (sym is) (omega arith)
chosen-from desk cells (suc count) shard asked jobs (inr (idle, chosen)) = omega (arith, chosen-from desk cells count (shard + 1) asked jobs chosen)

module _ (desk : Desk) where
  -- which jobs are chosen goes by the cells of those shards alone
  chosen-same : (count shard : ℕ) (cells others : List Cell) (jobs : List ShardJob) → ((at : ℕ) → shard ≤ at → cell_for at cells ≡ cell_for at others) → AreChosen desk cells count shard jobs → AreChosen desk others count shard jobs
  chosen-same zero shard cells others jobs same chosen = chosen
  chosen-same (suc count) shard cells others [] same (idle, chosen) =
      (subst (IsIdle desk) (same shard (omega arith)) idle, chosen-same count (shard + 1) cells others [] (λ at le. same at (omega (arith, le))) chosen)
  chosen-same (suc count) shard cells others (asked ∷ jobs) same (inl (is, chosen)) =
      inl (is, chosen-same count (shard + 1) cells others jobs (λ at le. same at (omega (arith, le))) chosen)
  chosen-same (suc count) shard cells others (asked ∷ jobs) same (inr (idle, chosen)) =
      inr (subst (IsIdle desk) (same shard (omega arith)) idle, chosen-same count (shard + 1) cells others (asked ∷ jobs) (λ at le. same at (omega (arith, le))) chosen)

  -- after the job of a shard, those of later shards are chosen as before
  chosen-behind : (count shard : ℕ) (cells : List Cell) (jobs : List ShardJob) → AreChosen desk cells count (shard + 1) jobs → AreChosen desk (cells_behind desk (reapplies shard) cells) count (shard + 1) jobs
  chosen-behind count shard cells jobs =
      chosen-same count (shard + 1) cells (cells_behind desk (reapplies shard) cells) jobs (λ at le. sym (other-there cells shard at (after_job desk Reapply (cell_for shard cells)) empty_cell (omega (arith, le))))

  -- an idle cell leaves all cells as they are
  idle-behind : (shard : ℕ) (cells : List Cell) → IsIdle desk (cell_for shard cells) → cells_behind desk (reapplies shard) cells ≡ cells
  idle-behind shard cells idle = ap (set cells shard) idle.stays ∙ set-get_or cells shard empty_cell

  -- the cells are the same, whether all are asked or those that are chosen
  pub chosen_cells : (count shard : ℕ) (cells : List Cell) (jobs : List ShardJob) → AreChosen desk cells count shard jobs
      → cells_after desk jobs cells ≡ cells_after desk (map reapplies (range_with_len shard count)) cells
  unfolding cells_after
  chosen_cells zero shard cells jobs none = ap (λ (list : List ShardJob). cells_after desk list cells) none
  chosen_cells (suc count) shard cells [] (idle, chosen) =
      chosen_cells count (shard + 1) cells [] chosen ∙ ap (cells_after desk (map reapplies (range_with_len (shard + 1) count))) (sym (idle-behind shard cells idle))
  chosen_cells (suc count) shard cells (asked ∷ jobs) (inl (is, chosen)) =
      ap (λ (job : ShardJob). cells_after desk jobs (cells_behind desk job cells)) is
      ∙ chosen_cells count (shard + 1) (cells_behind desk (reapplies shard) cells) jobs (chosen-behind count shard cells jobs chosen)
  chosen_cells (suc count) shard cells (asked ∷ jobs) (inr (idle, chosen)) =
      chosen_cells count (shard + 1) cells (asked ∷ jobs) chosen ∙ ap (cells_after desk (map reapplies (range_with_len (shard + 1) count))) (sym (idle-behind shard cells idle))

  -- where all may be asked, those that are chosen may
  pub chosen_allowed : (allows : Condition) (count shard : ℕ) (cells : List Cell) (jobs : List ShardJob) → AreChosen desk cells count shard jobs
      → AreAllowed allows desk (map reapplies (range_with_len shard count)) cells → AreAllowed allows desk jobs cells
  chosen_allowed allows zero shard cells jobs none may = subst (λ (list : List ShardJob). AreAllowed allows desk list cells) (sym none) tt
  chosen_allowed allows (suc count) shard cells [] chosen may = tt
  chosen_allowed allows (suc count) shard cells (asked ∷ jobs) (inl (is, chosen)) may =
      subst (λ (job : ShardJob). AreAllowed allows desk (job ∷ jobs) cells) (sym is)
      (may.0, chosen_allowed allows count (shard + 1) (cells_behind desk (reapplies shard) cells) jobs (chosen-behind count shard cells jobs chosen) may.1)
  chosen_allowed allows (suc count) shard cells (asked ∷ jobs) (inr (idle, chosen)) may =
      chosen_allowed allows count (shard + 1) cells (asked ∷ jobs) chosen
      (subst (AreAllowed allows desk (map reapplies (range_with_len (shard + 1) count))) (idle-behind shard cells idle) may.1)

  -- the shards of those that are chosen are among all
  pub chosen_there : (most count shard : ℕ) (cells : List Cell) (jobs : List ShardJob) → shard + count ≤ most → AreChosen desk cells count shard jobs → AllByRecursion (λ (asked : ShardJob). asked.shard < most) jobs
  chosen_there most zero shard cells jobs below none = subst (AllByRecursion (λ (asked : ShardJob). asked.shard < most)) (sym none) tt
  chosen_there most (suc count) shard cells [] below chosen = tt
  chosen_there most (suc count) shard cells (asked ∷ jobs) below (inl (is, chosen)) =
      (subst (λ (job : ShardJob). job.shard < most) (sym is) (omega (arith, below)), chosen_there most count (shard + 1) cells jobs (omega (arith, below)) chosen)
  chosen_there most (suc count) shard cells (asked ∷ jobs) below (inr (idle, chosen)) = chosen_there most count (shard + 1) cells (asked ∷ jobs) (omega (arith, below)) chosen

  module _ (cluster : ClusterNo) where
    -- a cell that is passed by stands before the first that is asked
    passed-first : (shard : ℕ) (shards : List ℕ) (asked : ShardJob) (jobs : List ShardJob) (replies : List JobReply) → shard < asked.shard
        → notes_passing cluster (shard ∷ shards) (asked ∷ jobs) replies ≡ idle_note cluster ∷ notes_passing cluster shards (asked ∷ jobs) replies
    passed-first shard shards asked jobs [] less = refl
    passed-first shard shards asked jobs (reply ∷ replies) less = by (shard == asked.shard) refl
      where
        by : (test : Bool) → shard == asked.shard ≡ test
            → (if test then record { cluster = cluster; job = asked.job; reply = reply } ∷ notes_passing cluster shards jobs replies else idle_note cluster ∷ notes_passing cluster shards (asked ∷ jobs) (reply ∷ replies))
            ≡ idle_note cluster ∷ notes_passing cluster shards (asked ∷ jobs) (reply ∷ replies)
        by true same = absurd (omega (arith, less, eqb-true shard asked.shard same))
        by false differ = refl

    -- one that is asked stands where it is
    asked-first : (shard : ℕ) (shards : List ℕ) (jobs : List ShardJob) (reply : JobReply) (replies : List JobReply)
        → notes_passing cluster (shard ∷ shards) (reapplies shard ∷ jobs) (reply ∷ replies) ≡ record { cluster = cluster; job = Reapply; reply = reply } ∷ notes_passing cluster shards jobs replies
    asked-first shard shards jobs reply replies = by (shard == shard) refl
      where
        by : (test : Bool) → shard == shard ≡ test
            → (if test then record { cluster = cluster; job = Reapply; reply = reply } ∷ notes_passing cluster shards jobs replies else idle_note cluster ∷ notes_passing cluster shards (reapplies shard ∷ jobs) (reply ∷ replies))
            ≡ record { cluster = cluster; job = Reapply; reply = reply } ∷ notes_passing cluster shards jobs replies
        by true same = refl
        by false differ = absurd (true≢false (sym (eq-eqb shard shard refl) ∙ differ))

    -- the note of the first of all that are asked
    first-note : (shard : ℕ) (cells : List Cell) → IsIdle desk (cell_for shard cells) → record { cluster = cluster; job = Reapply; reply = reply_to desk Reapply (cell_for shard cells) } ≡ idle_note cluster
    first-note shard cells idle = ap (λ (reply : JobReply). record { cluster = cluster; job = Reapply; reply = reply }) idle.reply

    -- what all later ones reply after an idle cell
    behind : (shard count : ℕ) (cells : List Cell) → IsIdle desk (cell_for shard cells)
        → notes_of cluster (map reapplies (range_with_len (shard + 1) count)) (replies_to desk (map reapplies (range_with_len (shard + 1) count)) cells)
        ≡ notes_of cluster (map reapplies (range_with_len (shard + 1) count)) (replies_to desk (map reapplies (range_with_len (shard + 1) count)) (cells_behind desk (reapplies shard) cells))
    behind shard count cells idle = ap (λ (these : List Cell). notes_of cluster (map reapplies (range_with_len (shard + 1) count)) (replies_to desk (map reapplies (range_with_len (shard + 1) count)) these)) (sym (idle-behind shard cells idle))

    -- the notes are the same, where those that are passed by are counted in
    pub chosen_notes : (count shard : ℕ) (cells : List Cell) (jobs : List ShardJob) → AreChosen desk cells count shard jobs
        → notes_passing cluster (range_with_len shard count) jobs (replies_to desk jobs cells) ≡ notes_of cluster (map reapplies (range_with_len shard count)) (replies_to desk (map reapplies (range_with_len shard count)) cells)
    unfolding replies_to
    chosen_notes zero shard cells jobs none = ap (λ (list : List ShardJob). notes_of cluster list (replies_to desk list cells)) none
    chosen_notes (suc count) shard cells [] (idle, chosen) =
        ap (λ (rest : List Note). idle_note cluster ∷ rest) (chosen_notes count (shard + 1) cells [] chosen ∙ behind shard count cells idle)
        ∙ ap (λ (note : Note). note ∷ notes_of cluster (map reapplies (range_with_len (shard + 1) count)) (replies_to desk (map reapplies (range_with_len (shard + 1) count)) (cells_behind desk (reapplies shard) cells))) (sym (first-note shard cells idle))
    chosen_notes (suc count) shard cells (asked ∷ jobs) (inl (is, chosen)) =
        ap (λ (job : ShardJob). notes_passing cluster (range_with_len shard (suc count)) (job ∷ jobs) (reply_to desk job.job (cell_for job.shard cells) ∷ replies_to desk jobs (cells_behind desk job cells))) is
        ∙ asked-first shard (range_with_len (shard + 1) count) jobs (reply_to desk Reapply (cell_for shard cells)) (replies_to desk jobs (cells_behind desk (reapplies shard) cells))
        ∙ ap (λ (rest : List Note). record { cluster = cluster; job = Reapply; reply = reply_to desk Reapply (cell_for shard cells) } ∷ rest)
        (chosen_notes count (shard + 1) (cells_behind desk (reapplies shard) cells) jobs (chosen-behind count shard cells jobs chosen))
    chosen_notes (suc count) shard cells (asked ∷ jobs) (inr (idle, chosen)) =
        passed-first shard (range_with_len (shard + 1) count) asked jobs (replies_to desk (asked ∷ jobs) cells) (omega (arith, chosen-from desk cells count (shard + 1) asked jobs chosen))
        ∙ ap (λ (rest : List Note). idle_note cluster ∷ rest) (chosen_notes count (shard + 1) cells (asked ∷ jobs) chosen ∙ behind shard count cells idle)
        ∙ ap (λ (note : Note). note ∷ notes_of cluster (map reapplies (range_with_len (shard + 1) count)) (replies_to desk (map reapplies (range_with_len (shard + 1) count)) (cells_behind desk (reapplies shard) cells))) (sym (first-note shard cells idle))

-- what is chosen of later shards is chosen of these, where a cell is idle or is asked
module _ (desk : Desk) (cells : List Cell) (count shard : ℕ) (below : shard < count) where
  counted : count - shard ≡ suc (count - (shard + 1))
  counted = omega (arith, below)

  pub chosen_passed : (rest : List ShardJob) → IsIdle desk (cell_for shard cells) → AreChosen desk cells (count - (shard + 1)) (shard + 1) rest → AreChosen desk cells (count - shard) shard rest
  chosen_passed rest idle chosen = subst (λ n. AreChosen desk cells n shard rest) (sym counted) (by rest chosen)
    where
      by : (rest : List ShardJob) → AreChosen desk cells (count - (shard + 1)) (shard + 1) rest → AreChosen desk cells (suc (count - (shard + 1))) shard rest
      by [] chosen = (idle, chosen)
      by (asked ∷ jobs) chosen = inr (idle, chosen)

  pub chosen_asked : (rest : List ShardJob) → AreChosen desk cells (count - (shard + 1)) (shard + 1) rest → AreChosen desk cells (count - shard) shard (reapplies shard ∷ rest)
  chosen_asked rest chosen = subst (λ n. AreChosen desk cells n shard (reapplies shard ∷ rest)) (sym counted) (inl (refl, chosen))

-- of no shard nothing is chosen
pub chosen_none : (desk : Desk) (cells : List Cell) (count shard : ℕ) → count ≤ shard → AreChosen desk cells (count - shard) shard []
chosen_none desk cells count shard above = subst (λ n. AreChosen desk cells n shard []) (sym all) refl
  where
    all : count - shard ≡ 0
    all = omega (arith, above)
