-- Jobs that are dealt to slots, and replies that are taken from them.
use Rattle.std.proofs.Common.{◌≡◌, ◌≢◌, ℕ, suc, ◌<◌, Bool, true, false, List, [], ◌∷◌, ◌++◌, map, length, get_or, set, Some, arith, refl, sym, ap, subst, ◌∙◌}
use Rattle.std.proofs.Math.ListN.{get_or-map}
use Rattle.std.specs.Prelude.{◌==◌}
use Rattle.std.specs.List.{AllByRecursion}
use Rattle.std.specs.Option.{option_map}
use Rattle.std.proofs.lemmas.Bool.{eq-eqb, eqb-true, eqb-false}
use Rattle.std.proofs.lemmas.List.{append_assoc, append-nil, ext_get_or, get_or-set_same, get_or-set_other, length-map, length-set}
use Rattle.ndc_model_cells.specs.declared.job.Job.{Job}
use Rattle.ndc_model_cells.specs.declared.job.JobReply.{JobReply}
use Rattle.ndc_model_cells.specs.declared.job.ShardJob.{ShardJob}
use Rattle.ndc_model_cells.specs.Cells.{Cell, empty_cell}
use Rattle.ndc_model_cells.specs.Jobs.{after_job, cell_for, cells_after, cells_behind, replies_to, reply_to}
use Rattle.ndc_model_cells.specs.Writing.{Desk}
use Rattle.ndc_model_cells.specs.Conditions.{AreAllowed, Condition}
use Rattle.ndc_cluster.specs.Rounds.{SlotMay, SlotValue, cell_replies, dealt, fresh_slot, jobs_of, slot_done, slot_of, taken, with_job}
use Rattle.ndc_cluster.proofs.ShardLemmas.{allowed-by-itself, behind-other, behind-own, cell_by_itself, cells-many}

-- a slot with further jobs
slot-more : SlotValue → List Job → SlotValue
slot-more slot jobs = slot_of slot.cell (slot.jobs ++ jobs) slot.replies slot.from slot.sent

-- as many slots as before
pub dealt_many : (jobs : List ShardJob) (slots : List SlotValue) → length (dealt jobs slots) ≡ length slots
dealt_many [] slots = refl
dealt_many (asked ∷ jobs) slots =
    dealt_many jobs (set slots asked.shard (with_job asked.job (get_or slots asked.shard (fresh_slot empty_cell)))) ∙ length-set slots asked.shard (with_job asked.job (get_or slots asked.shard (fresh_slot empty_cell)))

-- the slot of a shard has its jobs after those that it had
dealt-there : (jobs : List ShardJob) (slots : List SlotValue) (shard : ℕ) → shard < length slots → get_or (dealt jobs slots) shard (fresh_slot empty_cell) ≡ slot-more (get_or slots shard (fresh_slot empty_cell)) (jobs_of shard jobs)
unfolding slot-more
dealt-there [] slots shard below = let slot : SlotValue = get_or slots shard (fresh_slot empty_cell) in ap (λ js. slot_of slot.cell js slot.replies slot.from slot.sent) (sym (append-nil slot.jobs))
dealt-there (asked ∷ jobs) slots shard below = by (asked.shard == shard) refl (dealt-there jobs (set slots asked.shard (with_job asked.job (get_or slots asked.shard (fresh_slot empty_cell)))) shard inside)
  where
    inside : shard < length (set slots asked.shard (with_job asked.job (get_or slots asked.shard (fresh_slot empty_cell))))
    inside = let e = length-set slots asked.shard (with_job asked.job (get_or slots asked.shard (fresh_slot empty_cell))) in omega (arith, e, below)

    by : (b : Bool) → (asked.shard == shard) ≡ b
        → get_or (dealt (asked ∷ jobs) slots) shard (fresh_slot empty_cell) ≡ slot-more (get_or (set slots asked.shard (with_job asked.job (get_or slots asked.shard (fresh_slot empty_cell)))) shard (fresh_slot empty_cell)) (jobs_of shard jobs)
        → get_or (dealt (asked ∷ jobs) slots) shard (fresh_slot empty_cell) ≡ slot-more (get_or slots shard (fresh_slot empty_cell)) (jobs_of shard (asked ∷ jobs))
    by true own rest =
        let same : asked.shard ≡ shard = eqb-true asked.shard shard own in
        let slot : SlotValue = get_or slots shard (fresh_slot empty_cell) in
        let put : get_or (set slots asked.shard (with_job asked.job (get_or slots asked.shard (fresh_slot empty_cell)))) shard (fresh_slot empty_cell) ≡ with_job asked.job slot =
        subst (λ s. get_or (set slots asked.shard (with_job asked.job (get_or slots asked.shard (fresh_slot empty_cell)))) s (fresh_slot empty_cell) ≡ with_job asked.job (get_or slots s (fresh_slot empty_cell))) same
        (get_or-set_same slots asked.shard (with_job asked.job (get_or slots asked.shard (fresh_slot empty_cell))) (fresh_slot empty_cell) (subst (λ s. s < length slots) (sym same) below)) in
        let its : jobs_of shard (asked ∷ jobs) ≡ asked.job ∷ jobs_of shard jobs = rw own refl in
        rest ∙ ap (λ (s : SlotValue). slot-more s (jobs_of shard jobs)) put
        ∙ ap (λ js. slot_of slot.cell js slot.replies slot.from slot.sent) (append_assoc slot.jobs (asked.job ∷ []) (jobs_of shard jobs) ∙ ap (λ js. slot.jobs ++ js) (sym its))
    by false other rest =
        let differ : shard ≢ asked.shard = λ same. eqb-false asked.shard shard other (sym same) in
        let its : jobs_of shard (asked ∷ jobs) ≡ jobs_of shard jobs = rw other refl in
        let slot : SlotValue = get_or slots shard (fresh_slot empty_cell) in
        rest ∙ ap (λ (s : SlotValue). slot-more s (jobs_of shard jobs)) (get_or-set_other slots asked.shard shard (with_job asked.job (get_or slots asked.shard (fresh_slot empty_cell))) (fresh_slot empty_cell) differ)
        ∙ ap (λ js. slot_of slot.cell (slot.jobs ++ js) slot.replies slot.from slot.sent) (sym its)

-- jobs that are for one of so many shards
abbrev pub AreBelow : ℕ → List ShardJob → Type 0
AreBelow shards jobs = AllByRecursion (λ asked. asked.shard < shards) jobs

-- what holds at each place holds of all
all-by-place : {X : Type 0} (P : X → Type 0) (xs : List X) (d : X) → ((i : ℕ) → i < length xs → P (get_or xs i d)) → AllByRecursion P xs
all-by-place P [] d at = tt
all-by-place P (x ∷ xs) d at = (at 0 (omega arith), all-by-place P xs d (λ i below. at (suc i) (omega (arith, below))))

module _ (home : Desk) (jobs : List ShardJob) (cells : List Cell) where
  -- the slots of fresh cells, with their jobs
  abbrev pub slots-dealt : List SlotValue
  slots-dealt = dealt jobs (map fresh_slot cells)

  slots-many : length slots-dealt ≡ length cells
  slots-many = dealt_many jobs (map fresh_slot cells) ∙ length-map cells fresh_slot

  -- the slot of a shard
  slot-there : (shard : ℕ) → shard < length cells → get_or slots-dealt shard (fresh_slot empty_cell) ≡ slot_of (cell_for shard cells) (jobs_of shard jobs) [] 0 []
  unfolding slot-more
  slot-there shard below =
      dealt-there jobs (map fresh_slot cells) shard (let e = length-map cells fresh_slot in omega (arith, e, below))
      ∙ ap (λ (s : SlotValue). slot-more s (jobs_of shard jobs)) (get_or-map fresh_slot cells shard empty_cell)

  -- the slot of a shard after its jobs
  slot-behind : (shard : ℕ) → shard < length cells
      → get_or (map (slot_done home) slots-dealt) shard (slot_done home (fresh_slot empty_cell)) ≡ slot_done home (slot_of (cell_for shard cells) (jobs_of shard jobs) [] 0 [])
  slot-behind shard below = get_or-map (slot_done home) slots-dealt shard (fresh_slot empty_cell) ∙ ap (slot_done home) (slot-there shard below)

  -- the cells are those after the jobs done one after the other
  pub cells_dealt : map (λ (s : SlotValue). s.cell) (map (slot_done home) slots-dealt) ≡ cells_after home jobs cells
  cells_dealt = ext_get_or empty_cell _ _ many there
    where
      many-slots : length (map (λ (s : SlotValue). s.cell) (map (slot_done home) slots-dealt)) ≡ length cells
      many-slots = length-map (map (slot_done home) slots-dealt) (λ (s : SlotValue). s.cell) ∙ length-map slots-dealt (slot_done home) ∙ slots-many

      many : length (map (λ (s : SlotValue). s.cell) (map (slot_done home) slots-dealt)) ≡ length (cells_after home jobs cells)
      many = many-slots ∙ sym (cells-many home jobs cells)

      there : (shard : ℕ) → shard < length (map (λ (s : SlotValue). s.cell) (map (slot_done home) slots-dealt))
          → get_or (map (λ (s : SlotValue). s.cell) (map (slot_done home) slots-dealt)) shard empty_cell ≡ get_or (cells_after home jobs cells) shard empty_cell
      there shard inside =
          let below : shard < length cells = subst (λ n. shard < n) many-slots inside in
          get_or-map (λ (s : SlotValue). s.cell) (map (slot_done home) slots-dealt) shard (slot_done home (fresh_slot empty_cell))
          ∙ ap (λ (s : SlotValue). s.cell) (slot-behind shard below) ∙ sym (cell_by_itself home jobs cells shard below)

  -- each slot may do its jobs, where the jobs may be done one after the other
  pub slots_may : (allows : Condition) → AreAllowed allows home jobs cells → AllByRecursion (SlotMay allows home) slots-dealt
  slots_may allows may = all-by-place (SlotMay allows home) slots-dealt (fresh_slot empty_cell)
      (λ shard inside. let below : shard < length cells = subst (λ n. shard < n) slots-many inside in
      subst (SlotMay allows home) (sym (slot-there shard below)) (allowed-by-itself allows home jobs cells shard below may))

-- the next reply of each shard is that of the next job
taken-each : (home : Desk) (jobs : List ShardJob) (cells : List Cell) (replies : List (List JobReply)) → AreBelow (length cells) jobs → length replies ≡ length cells
    → ((shard : ℕ) → shard < length cells → get_or replies shard [] ≡ cell_replies home (jobs_of shard jobs) (cell_for shard cells)) → taken jobs replies ≡ Some (replies_to home jobs cells)
unfolding replies_to
taken-each home [] cells replies below many each = refl
taken-each home (asked ∷ jobs) cells replies below many each =
    rw first (ap (λ o. option_map (λ more. reply_to home asked.job (cell_for asked.shard cells) ∷ more) o) (taken-each home jobs (cells_behind home asked cells) (set replies asked.shard rest) inside same-many others))
  where
    rest : List JobReply
    rest = cell_replies home (jobs_of asked.shard jobs) (after_job home asked.job (cell_for asked.shard cells))

    own-jobs : jobs_of asked.shard (asked ∷ jobs) ≡ asked.job ∷ jobs_of asked.shard jobs
    own-jobs = let own : (asked.shard == asked.shard) ≡ true = eq-eqb asked.shard asked.shard refl in rw own refl

    first : get_or replies asked.shard [] ≡ reply_to home asked.job (cell_for asked.shard cells) ∷ cell_replies home (jobs_of asked.shard jobs) (after_job home asked.job (cell_for asked.shard cells))
    first = each asked.shard below.0 ∙ ap (λ js. cell_replies home js (cell_for asked.shard cells)) own-jobs

    behind-many : length (cells_behind home asked cells) ≡ length cells
    behind-many = length-set cells asked.shard (after_job home asked.job (cell_for asked.shard cells))

    inside : AreBelow (length (cells_behind home asked cells)) jobs
    inside = subst (λ n. AreBelow n jobs) (sym behind-many) below.1

    same-many : length (set replies asked.shard rest) ≡ length (cells_behind home asked cells)
    same-many = length-set replies asked.shard rest ∙ many ∙ sym behind-many

    others : (shard : ℕ) → shard < length (cells_behind home asked cells) → get_or (set replies asked.shard rest) shard [] ≡ cell_replies home (jobs_of shard jobs) (cell_for shard (cells_behind home asked cells))
    others shard within = by (asked.shard == shard) refl
      where
        here : shard < length cells
        here = subst (λ n. shard < n) behind-many within

        by : (b : Bool) → (asked.shard == shard) ≡ b → get_or (set replies asked.shard rest) shard [] ≡ cell_replies home (jobs_of shard jobs) (cell_for shard (cells_behind home asked cells))
        by true own =
            let same : asked.shard ≡ shard = eqb-true asked.shard shard own in
            subst (λ s. get_or (set replies asked.shard rest) s [] ≡ cell_replies home (jobs_of s jobs) (cell_for s (cells_behind home asked cells))) same
            (get_or-set_same replies asked.shard rest [] (subst (λ n. asked.shard < n) (sym many) below.0)
            ∙ ap (cell_replies home (jobs_of asked.shard jobs)) (sym (behind-own home asked cells asked.shard below.0 (eq-eqb asked.shard asked.shard refl))))
        by false other =
            let differ : shard ≢ asked.shard = λ same. eqb-false asked.shard shard other (sym same) in
            let its : jobs_of shard (asked ∷ jobs) ≡ jobs_of shard jobs = rw other refl in
            get_or-set_other replies asked.shard shard rest [] differ ∙ each shard here ∙ ap (λ js. cell_replies home js (cell_for shard cells)) its
            ∙ ap (cell_replies home (jobs_of shard jobs)) (sym (behind-other home asked cells shard other))

-- the replies of slots after their jobs, in order of the jobs, are those of the jobs done one after the other
pub replies_dealt : (home : Desk) (jobs : List ShardJob) (cells : List Cell) → AreBelow (length cells) jobs
    → taken jobs (map (λ (s : SlotValue). s.replies) (map (slot_done home) (dealt jobs (map fresh_slot cells)))) ≡ Some (replies_to home jobs cells)
replies_dealt home jobs cells below = taken-each home jobs cells _ below many each
  where
    many : length (map (λ (s : SlotValue). s.replies) (map (slot_done home) (dealt jobs (map fresh_slot cells)))) ≡ length cells
    many = length-map (map (slot_done home) (dealt jobs (map fresh_slot cells))) (λ (s : SlotValue). s.replies) ∙ length-map (dealt jobs (map fresh_slot cells)) (slot_done home) ∙ slots-many home jobs cells

    each : (shard : ℕ) → shard < length cells → get_or (map (λ (s : SlotValue). s.replies) (map (slot_done home) (dealt jobs (map fresh_slot cells)))) shard [] ≡ cell_replies home (jobs_of shard jobs) (cell_for shard cells)
    each shard inside =
        get_or-map (λ (s : SlotValue). s.replies) (map (slot_done home) (dealt jobs (map fresh_slot cells))) shard (slot_done home (fresh_slot empty_cell))
        ∙ ap (λ (s : SlotValue). s.replies) (slot-behind home jobs cells shard inside)
