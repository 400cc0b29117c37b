-- Jobs that are done one after the other on the cells where they stand.
use Rattle.std.proofs.Common.{◌≡◌, ℕ, ◌+◌, ◌<◌, List, [], ◌∷◌, ◌++◌, map, drop, length, get_or, set, refl, sym, ap, subst, ◌∙◌}
use Rattle.std.proofs.lemmas.List.{append_assoc, append-nil, get_or-map, map-set}
use Rattle.ndc_cluster.proofs.RoundLemmas.{drop-next}
use Rattle.ndc_model_cells.specs.declared.job.JobReply.{JobReply}
use Rattle.ndc_model_cells.specs.declared.job.ShardJob.{ShardJob}
use Rattle.ndc_model_cells.specs.Cells.{Cell, empty_cell}
use Rattle.ndc_model_cells.specs.Conditions.{AreAllowed, Condition}
use Rattle.ndc_model_cells.specs.Jobs.{after_job, cell_for, cells_after, cells_behind, replies_to, reply_to}
use Rattle.ndc_model_cells.specs.Writing.{Desk}

-- jobs of which some are done: the others may be, and lead where all lead
pub record InTurn {X : Type 0} (allows : Condition) (view : X → Cell) (home : Desk) (jobs left : List ShardJob) (before now : List X) (replies : List JobReply) : Type 0 where
  pub many : length now ≡ length before
  pub may : AreAllowed allows home left (map view now)
  pub cells : cells_after home left (map view now) ≡ cells_after home jobs (map view before)
  pub replied : replies ++ replies_to home left (map view now) ≡ replies_to home jobs (map view before)

-- in the beginning none is done
pub none_done : {X : Type 0} (allows : Condition) (view : X → Cell) (home : Desk) (jobs : List ShardJob) (before : List X) (replies : List JobReply) → replies ≡ []
    → AreAllowed allows home jobs (map view before) → InTurn allows view home jobs (drop 0 jobs) before before replies
none_done allows view home jobs before replies none may =
    record { many = refl; may = may; cells = refl; replied = ap (λ rs. rs ++ replies_to home jobs (map view before)) none }

-- what a first job leaves, and what is replied to it
cells_next : (home : Desk) (asked : ShardJob) (left : List ShardJob) (cells : List Cell) → cells_after home (asked ∷ left) cells ≡ cells_after home left (cells_behind home asked cells)
unfolding cells_after
cells_next home asked left cells = refl

replies_next : (home : Desk) (asked : ShardJob) (left : List ShardJob) (cells : List Cell)
    → replies_to home (asked ∷ left) cells ≡ reply_to home asked.job (cell_for asked.shard cells) ∷ replies_to home left (cells_behind home asked cells)
unfolding replies_to
replies_next home asked left cells = refl

-- after all jobs
pub cells_end : {X : Type 0} (allows : Condition) (view : X → Cell) (home : Desk) (jobs : List ShardJob) (i : ℕ) (before now : List X) (replies : List JobReply) → drop i jobs ≡ [] → InTurn allows view home jobs (drop i jobs) before now replies
    → map view now ≡ cells_after home jobs (map view before)
unfolding cells_after
cells_end allows view home jobs i before now replies none done = sym (ap (λ left. cells_after home left (map view now)) none) ∙ done.cells

pub replies_end : {X : Type 0} (allows : Condition) (view : X → Cell) (home : Desk) (jobs : List ShardJob) (i : ℕ) (before now : List X) (replies : List JobReply) → drop i jobs ≡ [] → InTurn allows view home jobs (drop i jobs) before now replies
    → replies ≡ replies_to home jobs (map view before)
unfolding replies_to
replies_end allows view home jobs i before now replies none done = sym (append-nil replies) ∙ sym (ap (λ left. replies ++ replies_to home left (map view now)) none) ∙ done.replied

-- the cell of a shard, where it stands
pub cell_there : {X : Type 0} (view : X → Cell) (cells : List X) (shard : ℕ) (one : X) → shard < length cells → one ≡ get_or cells shard one → cell_for shard (map view cells) ≡ view one
cell_there view cells shard one inside is = get_or-map view cells shard one empty_cell inside ∙ ap view (sym is)

-- the next job may be done
pub next_may : {X : Type 0} (allows : Condition) (view : X → Cell) (home : Desk) (jobs : List ShardJob) (i : ℕ) (asked : ShardJob) (before now : List X) (replies : List JobReply) (one : X) → i < length jobs → asked ≡ get_or jobs i asked
    → asked.shard < length now → one ≡ get_or now asked.shard one → InTurn allows view home jobs (drop i jobs) before now replies → allows home asked.job (view one)
next_may allows view home jobs i asked before now replies one below at inside is done =
    let front : AreAllowed allows home (asked ∷ drop (i + 1) jobs) (map view now) = subst (λ left. AreAllowed allows home left (map view now)) (drop-next jobs i asked below at) done.may in
    subst (allows home asked.job) (cell_there view now asked.shard one inside is) front.0

-- one job is done by the cell that stands at its shard
pub one_done : {X : Type 0} (view : X → Cell) (home : Desk) (asked : ShardJob) (now : List X) (one new : X) → asked.shard < length now → one ≡ get_or now asked.shard one
    → view new ≡ after_job home asked.job (view one) → map view (set now asked.shard new) ≡ cells_behind home asked (map view now)
one_done view home asked now one new inside is after =
    map-set view now asked.shard new
    ∙ ap (λ cell. set (map view now) asked.shard cell) (after ∙ ap (after_job home asked.job) (sym (cell_there view now asked.shard one inside is)))

-- one job more is done
pub next_done : {X : Type 0} (allows : Condition) (view : X → Cell) (home : Desk) (jobs : List ShardJob) (i : ℕ) (asked : ShardJob) (before now : List X) (replies more : List JobReply) (one new : X) (reply : JobReply) → i < length jobs → asked ≡ get_or jobs i asked
    → asked.shard < length now → one ≡ get_or now asked.shard one → view new ≡ after_job home asked.job (view one) → reply ≡ reply_to home asked.job (view one) → more ≡ replies ++ reply ∷ []
    → length (set now asked.shard new) ≡ length now
    → InTurn allows view home jobs (drop i jobs) before now replies → InTurn allows view home jobs (drop (i + 1) jobs) before (set now asked.shard new) more
next_done allows view home jobs i asked before now replies more one new reply below at inside is after replied longer same done =
    let next = drop-next jobs i asked below at in
    let there : cell_for asked.shard (map view now) ≡ view one = cell_there view now asked.shard one inside is in
    let behind : map view (set now asked.shard new) ≡ cells_behind home asked (map view now) = one_done view home asked now one new inside is after in
    let front : AreAllowed allows home (asked ∷ drop (i + 1) jobs) (map view now) = subst (λ left. AreAllowed allows home left (map view now)) next done.may in
    record {
      many = same ∙ done.many;
      may = subst (AreAllowed allows home (drop (i + 1) jobs)) (sym behind) front.1;
      cells = ap (cells_after home (drop (i + 1) jobs)) behind ∙ cells-step (drop (i + 1) jobs) ∙ ap (λ left. cells_after home left (map view now)) (sym next) ∙ done.cells;
      replied =
          ap (λ rs. rs ++ replies_to home (drop (i + 1) jobs) (map view (set now asked.shard new))) longer
          ∙ append_assoc replies (reply ∷ []) (replies_to home (drop (i + 1) jobs) (map view (set now asked.shard new)))
          ∙ ap (λ rs. replies ++ rs) (ap (λ cells. reply ∷ replies_to home (drop (i + 1) jobs) cells) behind ∙ ap (λ r. r ∷ replies_to home (drop (i + 1) jobs) (cells_behind home asked (map view now))) (replied ∙ ap (reply_to home asked.job) (sym there)) ∙ replies-step (drop (i + 1) jobs))
          ∙ ap (λ left. replies ++ replies_to home left (map view now)) (sym next)
          ∙ done.replied;
    }
  where
    cells-step : (left : List ShardJob) → cells_after home left (cells_behind home asked (map view now)) ≡ cells_after home (asked ∷ left) (map view now)
    cells-step left = sym (cells_next home asked left (map view now))

    replies-step : (left : List ShardJob) → reply_to home asked.job (cell_for asked.shard (map view now)) ∷ replies_to home left (cells_behind home asked (map view now)) ≡ replies_to home (asked ∷ left) (map view now)
    replies-step left = sym (replies_next home asked left (map view now))
