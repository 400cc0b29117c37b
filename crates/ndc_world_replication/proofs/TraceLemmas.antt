-- Steps over lists, and traces that grow by what was done.
use Rattle.std.proofs.Common.{◌≡◌, ◌<◌, ◌≤◌, ℕ, zero, suc, ◌+◌, List, [], ◌∷◌, ◌++◌, drop, length, slice_index_or, not, ap, sym, subst, ◌∙◌, arith, ◌≢◌, true, false, eq-eqb}
use Rattle.std.proofs.lemmas.List.{append-nil, at_drop_more, drop_all}
use Rattle.std.proofs.lemmas.Grind.{flat_map-append}
use Rattle.std.specs.List.{AllByRecursion, flat_map, fold}
use Rattle.ndc_script_types.specs.WellFormed.{IsCluster}
use Rattle.ndc_script_types.specs.declared.script.Header.{Header}
use Rattle.ndc_model_cells.specs.Writing.{same_cluster}
use Rattle.ndc_model_cells.specs.declared.job.ShardJob.{ShardJob}
use Rattle.ndc_domain.specs.Clusters.{count_of}
use Rattle.ndc_domain.specs.declared.clusters.ClusterNo.{ClusterNo}
use Rattle.ndc_model.specs.Moves.{Note, Trace, after_settlement, bootstrapped, due_arrived, flights_arrived, from_world, jobs_done, quietly, reapplied_all, renewed, settled_once, without_flights, worked}
use Rattle.ndc_model.proofs.FairLemmas.{clusters-among}
use Rattle.ndc_model.proofs.ListLemmas.{all-filter, filter-passes}
use Rattle.ndc_model.specs.World.{World, all_clusters, others_of, with_link}
use Rattle.ndc_cluster.proofs.EachLemmas.{all_there}
use Rattle.ndc_model_sets.proofs.Lists.{all-from}
use Rattle.ndc_model.specs.Conditions.{EachStep, late_jobs}
use Rattle.ndc_world_replication.specs.Dones.{notes_in, trace_of}
use Rattle.ndc_world_replication.specs.declared.working.Done.{Done}

-- the cluster at a place of a list
abbrev pub nth_cluster : List ClusterNo → ℕ → ClusterNo
nth_cluster clusters i = slice_index_or clusters i (record { number = 0 })

-- with the next step, those to come lead to where all lead
pub step_more : {Y : Type 0} (step : Y → ClusterNo → Y) (y z : Y) (xs : List ClusterNo) (i : ℕ) → i < length xs → z ≡ step y (nth_cluster xs i) → fold step z (drop (i + 1) xs) ≡ fold step y (drop i xs)
step_more {Y = Y} step y z xs i below new =
    ap (λ (v : Y). fold step v (drop (i + 1) xs)) new ∙ sym (at_drop_more (fold step y) xs i (record { number = 0 }) below)

-- after the last step all are done
pub step_all : {X Y : Type 0} (step : Y → X → Y) (y z : Y) (xs : List X) (i : ℕ) → fold step y (drop i xs) ≡ z → length xs ≤ i → y ≡ z
step_all step y z xs i kept past = sym (ap (fold step y) (drop_all i xs past)) ∙ kept

-- what holds before each step holds before the next one, and before those to come
each-next : {Y : Type 0} (holds : Y → ClusterNo → Type 0) (step : Y → ClusterNo → Y) (y : Y) (xs : List ClusterNo) (i : ℕ) → i < length xs → EachStep holds step y (drop i xs)
    → holds y (nth_cluster xs i) × EachStep holds step (step y (nth_cluster xs i)) (drop (suc i) xs)
each-next holds step y [] i below each = absurd (omega (arith, below))
each-next holds step y (x ∷ xs) zero below each = each
each-next holds step y (x ∷ xs) (suc i) below each = each-next holds step y xs i (omega (arith, below)) each

pub each_more : {Y : Type 0} (holds : Y → ClusterNo → Type 0) (step : Y → ClusterNo → Y) (y z : Y) (xs : List ClusterNo) (i : ℕ) → i < length xs → z ≡ step y (nth_cluster xs i) → EachStep holds step y (drop i xs)
    → EachStep holds step z (drop (i + 1) xs)
each_more {Y = Y} holds step y z xs i below new each =
    let next : suc i ≡ i + 1 = omega arith in
    subst (λ (n : ℕ). EachStep holds step z (drop n xs)) next
    (subst (λ (v : Y). EachStep holds step v (drop (suc i) xs)) (sym new) (each-next holds step y xs i below each).1)

pub each_here : {Y : Type 0} (holds : Y → ClusterNo → Type 0) (step : Y → ClusterNo → Y) (y : Y) (xs : List ClusterNo) (i : ℕ) → i < length xs → EachStep holds step y (drop i xs) → holds y (nth_cluster xs i)
each_here holds step y xs i below each = (each-next holds step y xs i below each).0

module _ (w v : World) (dones : List Done) (done : Done) where
  -- one more that was done
  more : (t : Trace) → v ≡ t.world → notes_in done ≡ t.notes → trace_of v (dones ++ done ∷ []) ≡ record { world = t.world; notes = flat_map notes_in dones ++ t.notes }
  more t here noted =
      let notes : flat_map notes_in (dones ++ done ∷ []) ≡ flat_map notes_in dones ++ t.notes =
      flat_map-append notes_in dones (done ∷ []) ∙ ap (λ (list : List Note). flat_map notes_in dones ++ list) (append-nil (notes_in done) ∙ noted) in
      λ i. record { world = here i; notes = notes i }

  pub bootstrapped_more : (header : Header) (reader source : ClusterNo) → v ≡ (bootstrapped header reader (from_world w) source).world → notes_in done ≡ (bootstrapped header reader (from_world w) source).notes
      → trace_of v (dones ++ done ∷ []) ≡ bootstrapped header reader (trace_of w dones) source
  unfolding bootstrapped jobs_done
  bootstrapped_more header reader source here noted = more (bootstrapped header reader (from_world w) source) here noted

  pub due_more : (header : Header) (reader : ClusterNo) → v ≡ (due_arrived header (from_world w) reader).world → notes_in done ≡ (due_arrived header (from_world w) reader).notes
      → trace_of v (dones ++ done ∷ []) ≡ due_arrived header (trace_of w dones) reader
  unfolding due_arrived jobs_done
  due_more header reader here noted = more (due_arrived header (from_world w) reader) here noted

  pub reapplied_more : (header : Header) (cluster : ClusterNo) → v ≡ (reapplied_all header (from_world w) cluster).world → notes_in done ≡ (reapplied_all header (from_world w) cluster).notes
      → trace_of v (dones ++ done ∷ []) ≡ reapplied_all header (trace_of w dones) cluster
  unfolding reapplied_all jobs_done
  reapplied_more header cluster here noted = more (reapplied_all header (from_world w) cluster) here noted

-- ---- work

module _ (header : Header) (reader : ClusterNo) (w v u : World) (here : v ≡ (flights_arrived header reader w).world) where
  pub worked_world : u ≡ (reapplied_all header (from_world v) reader).world → renewed u reader ≡ (worked header reader w).world
  unfolding worked reapplied_all jobs_done
  worked_world then =
      ap (λ (x : World). renewed x reader) (then ∙ ap (λ (x : World). (reapplied_all header (from_world x) reader).world) here)

  pub worked_notes : (arrived reapplied : List Note) → arrived ≡ (flights_arrived header reader w).notes → reapplied ≡ (reapplied_all header (from_world v) reader).notes
      → arrived ++ reapplied ≡ (worked header reader w).notes
  unfolding worked reapplied_all jobs_done
  worked_notes arrived reapplied first second =
      ap (λ (notes : List Note). notes ++ reapplied) first
      ∙ ap (λ (notes : List Note). (flights_arrived header reader w).notes ++ notes) (second ∙ ap (λ (x : World). (reapplied_all header (from_world x) reader).notes) here)

-- ---- bootstrap

module _ (header : Header) (reader source : ClusterNo) (w v u : World) (jobs : List ShardJob) (asked : jobs ≡ late_jobs header reader source w) where
  pub bootstrapped_world : v ≡ (jobs_done header reader jobs (from_world w)).world → u ≡ with_link reader source (λ link. record link { late = [] }) v
      → renewed u reader ≡ (bootstrapped header reader (from_world w) source).world
  unfolding bootstrapped
  bootstrapped_world done ended =
      ap (λ (x : World). renewed x reader)
      (ended ∙ ap (with_link reader source (λ link. record link { late = [] })) (done ∙ ap (λ (js : List ShardJob). (jobs_done header reader js (from_world w)).world) asked))

  pub bootstrapped_notes : (notes : List Note) → notes ≡ (jobs_done header reader jobs (from_world w)).notes → notes ≡ (bootstrapped header reader (from_world w) source).notes
  unfolding bootstrapped
  bootstrapped_notes notes told = told ∙ ap (λ (js : List ShardJob). (jobs_done header reader js (from_world w)).notes) asked

-- ---- settlement

-- two rounds after a world in which nothing is in flight, and then all levels are renewed
pub settled_trace : (header : Header) (w emptied first second last : World) (none once twice : List Done) → emptied ≡ without_flights w → none ≡ [] → trace_of first once ≡ settled_once header (trace_of emptied none)
    → trace_of second twice ≡ settled_once header (trace_of first once) → last ≡ fold renewed second (all_clusters header) → trace_of last twice ≡ after_settlement header w
unfolding after_settlement
settled_trace header w emptied first second last none once twice empty nothing round again renewal =
    let opening : trace_of emptied none ≡ from_world (without_flights w) =
    ap (λ (v : World). trace_of v none) empty ∙ ap (λ (dones : List Done). trace_of (without_flights w) dones) nothing in
    ap (λ (v : World). trace_of v twice) renewal
    ∙ ap (quietly (λ v. fold renewed v (all_clusters header))) (again ∙ ap (settled_once header) (round ∙ ap (settled_once header) opening))

-- ---- clusters of a list

-- each of all clusters is one
pub cluster_in : (header : Header) (clusters : List ClusterNo) (i : ℕ) → clusters ≡ all_clusters header → i < length clusters → IsCluster header (nth_cluster clusters i)
cluster_in header clusters i all below =
    all_there (IsCluster header) clusters i (record { number = 0 }) below
    (subst (AllByRecursion (IsCluster header)) (sym all) (all-from (IsCluster header) (all_clusters header) (λ c among. clusters-among (count_of header.clusters) c among)))

-- and so is each of the others
pub other_in : (header : Header) (reader : ClusterNo) (others : List ClusterNo) (i : ℕ) → others ≡ others_of header reader → i < length others → IsCluster header (nth_cluster others i)
other_in header reader others i all below =
    all_there (IsCluster header) others i (record { number = 0 }) below
    (subst (AllByRecursion (IsCluster header)) (sym all)
    (all-filter (IsCluster header) (λ other. not (same_cluster reader other)) (all_clusters header) (all-from (IsCluster header) (all_clusters header) (λ c among. clusters-among (count_of header.clusters) c among))))

-- and is another than the reader
pub other_apart : (header : Header) (reader : ClusterNo) (others : List ClusterNo) (i : ℕ) → others ≡ others_of header reader → i < length others → reader.number ≢ (nth_cluster others i).number
other_apart header reader others i all below same =
    let passes : not (same_cluster reader (nth_cluster others i)) ≡ true =
    all_there (λ (other : ClusterNo). not (same_cluster reader other) ≡ true) others i (record { number = 0 }) below
    (subst (AllByRecursion (λ (other : ClusterNo). not (same_cluster reader other) ≡ true)) (sym all) (filter-passes (λ other. not (same_cluster reader other)) (all_clusters header))) in
    let clash : false ≡ true = sym (ap not (eq-eqb reader.number (nth_cluster others i).number same)) ∙ passes in
    absurd (cc)
