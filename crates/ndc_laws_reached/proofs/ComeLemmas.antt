-- What has arrived after jobs in which messages arrive.
use Rattle.std.proofs.Common.{◌≡◌, ℕ, Bool, true, false, if◌then◌else◌, List, [], ◌∷◌, map, Option, Some, None, ◌⊎◌, inl, inr, refl, sym, ◌∙◌, subst, ap, true≢false}
use Rattle.std.specs.Option.{option_or}
use Rattle.std.specs.Prelude.{is_some, option_to_list}
use Rattle.std.specs.List.{AllByRecursion, fold}
use Rattle.ndc_model_cells.specs.declared.job.Job.{Job}
use Rattle.ndc_model_cells.specs.declared.job.Job.TheVariants.{Arrive}
use Rattle.ndc_model_cells.specs.declared.job.ShardJob.{ShardJob}
use Rattle.ndc_model_cells.specs.declared.message.Message.{Message}
use Rattle.ndc_model_cells.specs.declared.place.Place.{Place}
use Rattle.ndc_model_cells.specs.Arrival.{arrived_at, cell_with, has_arrived, placed_second}
use Rattle.ndc_model_cells.specs.Cells.{Cell, both, empty_cell}
use Rattle.ndc_model_cells.specs.Jobs.{after_job, cell_for, cells_after, cells_behind}
use Rattle.ndc_model_cells.specs.Places.{AreInOrder, batch_there, in_order, place_of, placed}
use Rattle.ndc_model_cells.specs.Writing.{Desk}
use Rattle.ndc_event.specs.declared.batch.Batch.{Batch}
use Rattle.ndc_model.specs.Moves.{all_arrive, arrives}
use Rattle.ndc_model.proofs.WorldLemmas.{set-cases}
use Rattle.ndc_model_sets.proofs.Lists.{Among, map-among}
use Rattle.ndc_laws_cells.proofs.FoundLemmas.{in_order-ordered, order-finds, placed-stays, placed-there, there-among, there-place}
use Rattle.ndc_laws_reached.proofs.WrittenLemmas.{flat-among, in_order-among, among-placed}

-- what has arrived after an arrival had arrived, or is of the message
arrival-from : (sent : Message) (cell : Cell) (x : Batch) → Among x (arrived_at sent cell).arrived → Among x cell.arrived ⊎ Among x (both sent)
unfolding arrived_at
arrival-from sent cell x = by (has_arrived sent.batch cell)
  where
    first : (s : Option Batch) → (x ≡ sent.batch) ⊎ Among x cell.arrived → Among x cell.arrived ⊎ Among x (sent.batch ∷ option_to_list s)
    first s (inl same) = inr (inl same)
    first s (inr there) = inl there

    second : (s : Option Batch) → Among x (placed_second s (placed sent.batch cell.arrived)) → Among x cell.arrived ⊎ Among x (sent.batch ∷ option_to_list s)
    second None among = first None (among-placed sent.batch x cell.arrived among)
    second (Some s) among = either (among-placed s x (placed sent.batch cell.arrived) among)
      where
        either : (x ≡ s) ⊎ Among x (placed sent.batch cell.arrived) → Among x cell.arrived ⊎ Among x (sent.batch ∷ s ∷ [])
        either (inl same) = inr (inr (inl same))
        either (inr there) = first (Some s) (among-placed sent.batch x cell.arrived there)

    by : (t : Bool) → Among x (if t then cell else cell_with sent cell).arrived → Among x cell.arrived ⊎ Among x (both sent)
    by true among = inl among
    by false among = second sent.second among

-- a batch is of a message that arrives in a job for a shard
abbrev pub IsBroughtBy : ℕ → List ShardJob → Batch → Type 0
IsBroughtBy shard jobs x = (asked : ShardJob) × Among asked jobs × (asked.shard ≡ shard) × ((sent : Message) × (asked.job ≡ Arrive sent) × Among x (both sent))

-- a job in which a message arrives
abbrev pub Arrives : ShardJob → Type 0
Arrives asked = (sent : Message) × (asked.job ≡ Arrive sent)

-- what has arrived after such jobs had arrived, or is of one of their messages
pub jobs-from : (home : Desk) (shard : ℕ) (jobs : List ShardJob) (cells : List Cell) (x : Batch) → AllByRecursion Arrives jobs → Among x (cell_for shard (cells_after home jobs cells)).arrived
    → Among x (cell_for shard cells).arrived ⊎ IsBroughtBy shard jobs x
unfolding cells_after after_job
jobs-from home shard [] cells x all among = inl among
jobs-from home shard (asked ∷ jobs) cells x all among = by (jobs-from home shard jobs (cells_behind home asked cells) x all.1 among)
  where
    here : Among x (cell_for shard (cells_behind home asked cells)).arrived → Among x (cell_for shard cells).arrived ⊎ IsBroughtBy shard (asked ∷ jobs) x
    here =
        set-cases (λ (c : Cell). Among x c.arrived → Among x (cell_for shard cells).arrived ⊎ IsBroughtBy shard (asked ∷ jobs) x) cells asked.shard shard (after_job home asked.job (cell_for asked.shard cells)) empty_cell
        (λ at there. either at (arrival-from (all.0).0 (cell_for asked.shard cells) x (subst (λ (j : Job). Among x (after_job home j (cell_for asked.shard cells)).arrived) (all.0).1 there)))
        (λ there. inl there)
      where
        either : shard ≡ asked.shard → Among x (cell_for asked.shard cells).arrived ⊎ Among x (both (all.0).0) → Among x (cell_for shard cells).arrived ⊎ IsBroughtBy shard (asked ∷ jobs) x
        either at (inl there) = inl (subst (λ (n : ℕ). Among x (cell_for n cells).arrived) (sym at) there)
        either at (inr of_it) = inr (asked, inl refl, sym at, ((all.0).0, (all.0).1, of_it))

    by : Among x (cell_for shard (cells_behind home asked cells)).arrived ⊎ IsBroughtBy shard jobs x → Among x (cell_for shard cells).arrived ⊎ IsBroughtBy shard (asked ∷ jobs) x
    by (inl there) = here there
    by (inr found) = inr (found.0, inr found.1, found.2, found.3)

-- a message that arrives in one of these jobs is one of those for its shard
pub job-message : (messages : ℕ → List Message) (shards : List ℕ) (asked : ShardJob) (sent : Message) → Among asked (all_arrive messages shards) → asked.job ≡ Arrive sent → Among sent (messages asked.shard)
job-message messages shards asked sent among e =
    let f = flat-among (λ s. map (arrives s) (messages s)) shards asked among in
    let m = map-among (arrives f.0) (messages f.0) asked f.2 in
    let in_shard : asked.shard ≡ f.0 = ap (λ (a : ShardJob). a.shard) m.2 in
    let jobs : Arrive m.0 ≡ Arrive sent = sym (ap (λ (a : ShardJob). a.job) m.2) ∙ e in
    let same : m.0 ≡ sent = cc in
    subst (λ (n : ℕ). Among sent (messages n)) (sym in_shard) (subst (λ (x : Message). Among x (messages f.0)) same m.1)

-- what is put in order stands there, by its place
order-has : (bs front : List Batch) (place : Place) → AreInOrder front → (is_some (batch_there front place) ≡ true) ⊎ ((x : Batch) × Among x bs × (place_of x ≡ place))
    → is_some (batch_there (fold (λ ordered b. placed b ordered) front bs) place) ≡ true
order-has [] front place sorted (inl there) = there
order-has [] front place sorted (inr found) = absurd found.1
order-has (b ∷ bs) front place sorted from = order-has bs (placed b front) place (in_order-ordered (b ∷ []) front sorted) (next from)
  where
    old : (o : Option Batch) → batch_there front place ≡ o → is_some o ≡ true → is_some (batch_there (placed b front) place) ≡ true
    old None e h = absurd (true≢false (sym h))
    old (Some x) e h = ap is_some (placed-stays b front place x sorted e)

    new : place_of b ≡ place → is_some (batch_there (placed b front) place) ≡ true
    new same = ap is_some (placed-there b front place sorted) ∙ by (batch_there front place)
      where
        itself : batch_there (b ∷ []) place ≡ Some b
        itself = subst (λ (p : Place). batch_there (b ∷ []) p ≡ Some b) same (order-finds (b ∷ []) b (tt, tt) (inl refl))

        by : (o : Option Batch) → is_some (option_or o (batch_there (b ∷ []) place)) ≡ true
        by None = ap is_some itself
        by (Some x) = refl

    next : (is_some (batch_there front place) ≡ true) ⊎ ((x : Batch) × Among x (b ∷ bs) × (place_of x ≡ place)) → (is_some (batch_there (placed b front) place) ≡ true) ⊎ ((x : Batch) × Among x bs × (place_of x ≡ place))
    next (inl there) = inl (old (batch_there front place) refl there)
    next (inr found) = of found.1
      where
        of : Among found.0 (b ∷ bs) → (is_some (batch_there (placed b front) place) ≡ true) ⊎ ((x : Batch) × Among x bs × (place_of x ≡ place))
        of (inl same) = inl (new (ap place_of (sym same) ∙ found.2))
        of (inr later) = inr (found.0, later, found.2)

-- a batch is among those put in order, where batches of one place are one
pub among-order : (bs : List Batch) (x : Batch) → ((y : Batch) → Among y bs → place_of y ≡ place_of x → y ≡ x) → Among x bs → Among x (in_order bs)
among-order bs x one among = by (batch_there (in_order bs) (place_of x)) refl (order-has bs [] (place_of x) tt (inr (x, among, refl)))
  where
    by : (o : Option Batch) → batch_there (in_order bs) (place_of x) ≡ o → is_some o ≡ true → Among x (in_order bs)
    by None e h = absurd (true≢false (sym h))
    by (Some y) e h =
        let there = there-among (in_order bs) (place_of x) y e in
        subst (λ (z : Batch). Among z (in_order bs)) (one y (from y (in_order-among bs [] y there)) (sym (there-place (in_order bs) (place_of x) y e))) there
      where
        from : (z : Batch) → Among z [] ⊎ Among z bs → Among z bs
        from z (inl none) = absurd none
        from z (inr there) = there
