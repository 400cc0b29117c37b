-- The jobs of work and of settlement may be done.
use Rattle.std.proofs.Common.{◌≡◌, ◌≢◌, ℕ, ◌<◌, ◌≤◌, ◌+◌, ◌*◌, Bool, true, false, List, [], ◌∷◌, length, inl, inr, refl, sym, ◌∙◌, subst, arith}
use Rattle.std.specs.List.{AllByRecursion, fold}
use Rattle.ndc_script_types.specs.WellFormed.{IsCluster}
use Rattle.ndc_script_types.specs.declared.script.Header.{Header}
use Rattle.ndc_model_cells.specs.Shards.{shard_of}
use Rattle.ndc_domain.specs.Clusters.{count_of}
use Rattle.ndc_domain.specs.declared.clusters.ClusterNo.{ClusterNo}
use Rattle.ndc_event.specs.declared.batch.Batch.{Batch}
use Rattle.ndc_event.specs.declared.name.Name.{Name}
use Rattle.ndc_laws_reached.proofs.ArrivalLaws.{flights_kept}
use Rattle.ndc_laws_reached.proofs.LaneLemmas.{emptied}
use Rattle.ndc_laws_reached.specs.Writing.{count_in}
use Rattle.ndc_laws_reached.proofs.LineLemmas.{more-lines, room-for, settled_kept, settled_most}
use Rattle.ndc_laws_reached.proofs.OwnLemmas.{owns}
use Rattle.ndc_laws_reached.proofs.RoundLemmas.{IsRound, owns-same, reapplied-round}
use Rattle.ndc_laws_reached.proofs.SettleLemmas.{AreDifferent, IsAlike, OneOwner, alike-then, below-different, bootstrap-alike, count-alike, due-alike, one-owner, others-two}
use Rattle.ndc_laws_reached.proofs.TableRound.{IsSpread, OneTable, tables-one}
use Rattle.ndc_laws_reached.proofs.WorkflowApplyLemmas.{applying-kept}
use Rattle.ndc_model.specs.Facts.{IsReached}
use Rattle.ndc_model.specs.Moves.{Trace, all_reapply, bootstrapped, due_arrived, flights_arrived, from_world, quietly, reapplied_all, settled_once, without_flights}
use Rattle.ndc_model.specs.World.{World, all_clusters, others_of, shards_of}
use Rattle.ndc_model.proofs.FairLemmas.{clusters-among}
use Rattle.ndc_model.specs.Conditions.{EachStep, MayBootstrap, MayDoAll, MaySettle, MaySettleOnce, MayWork, all_bootstrapped, all_due_arrived, due_jobs, late_jobs, reader_bootstrapped, tables_merged}
use Rattle.ndc_model_sets.proofs.Lists.{Among, all-among, all-from}
use Rattle.ndc_model_cells.specs.Allowed.{IsAllowed}
use Rattle.ndc_laws_jobs.proofs.ComeLemmas.{due_allowed, flights_allowed, late_allowed}
use Rattle.ndc_laws_jobs.proofs.ReapplyLemmas.{reapply-allowed}

-- a cluster works
pub work_allowed : (header : Header) (lines : ℕ) (reader : ClusterNo) (w : World) → IsCluster header reader → lines < 100000 → IsReached header lines w → MayWork IsAllowed header reader w
work_allowed header lines reader w known few is = record {
  arrive = flights_allowed header lines reader w known is;
  reapply = reapply-allowed header (lines + 1) (applying-kept header (lines + 1)) reader known (flights_arrived header reader w).world (more-lines header lines (flights_arrived header reader w).world few arrived)
      (λ domain workflow owned. omega (arith, room-for header lines (flights_arrived header reader w).world arrived domain workflow));
}
  where
    arrived : IsReached header lines (flights_arrived header reader w).world
    arrived = flights_kept header lines reader w known is

-- what holds before each step, where what is kept allows it
each-step : {X Y : Type 0} (I : Y → Type 0) (holds : Y → X → Type 0) (step : Y → X → Y) (xs : List X) → ((y : Y) (x : X) → Among x xs → I y → holds y x × I (step y x)) → (y : Y) → I y
    → EachStep holds step y xs × I (fold step y xs)
each-step I holds step [] each y i = (tt, i)
each-step I holds step (x ∷ xs) each y i =
    let one = each y x (inl refl) i in
    let rest = each-step I holds step xs (λ z other among. each z other (inr among)) (step y x) one.1 in
    ((one.0, rest.0), rest.1)

module _ (header : Header) (lines : ℕ) where
  -- a reader takes what it lacks from each source
  reader-may : (reader : ClusterNo) → IsCluster header reader → (t : Trace) → IsReached header lines t.world
      → MayBootstrap IsAllowed header t reader × IsAlike header lines t.world (reader_bootstrapped header t reader).world
  reader-may reader known t is =
      each-step (λ u. IsAlike header lines t.world u.world) (λ v source. MayDoAll IsAllowed header reader (late_jobs header reader source v.world) v.world) (bootstrapped header reader) (others_of header reader)
      (λ u source among alike. let two = others-two header reader source known among in (
        late_allowed header lines reader source two u.world alike.reached,
        alike-then header lines t.world u.world (bootstrapped header reader u source).world alike (bootstrap-alike header lines reader source two u alike.reached),
      ))
      t (record { reached = is; batches = refl; tables = refl })

  bootstraps-may : (t : Trace) → IsReached header lines t.world
      → EachStep (MayBootstrap IsAllowed header) (reader_bootstrapped header) t (all_clusters header) × IsAlike header lines t.world (all_bootstrapped header t).world
  bootstraps-may t is =
      each-step (λ u. IsAlike header lines t.world u.world) (MayBootstrap IsAllowed header) (reader_bootstrapped header) (all_clusters header)
      (λ u reader among alike. let r = reader-may reader (clusters-among (count_of header.clusters) reader among) u alike.reached in
      (r.0, alike-then header lines t.world u.world (reader_bootstrapped header u reader).world alike r.1))
      t (record { reached = is; batches = refl; tables = refl })

  dues-may : (t : Trace) → IsReached header lines t.world
      → EachStep (λ v reader. MayDoAll IsAllowed header reader (due_jobs header reader v.world) v.world) (due_arrived header) t (all_clusters header) × IsAlike header lines t.world (all_due_arrived header t).world
  dues-may t is =
      each-step (λ u. IsAlike header lines t.world u.world) (λ v reader. MayDoAll IsAllowed header reader (due_jobs header reader v.world) v.world) (due_arrived header) (all_clusters header)
      (λ u reader among alike. let known = clusters-among (count_of header.clusters) reader among in (
        due_allowed header lines reader u.world known alike.reached,
        alike-then header lines t.world u.world (due_arrived header u reader).world alike (due-alike header lines reader known u alike.reached),
      ))
      t (record { reached = is; batches = refl; tables = refl })

  -- one cluster after the other applies its strays again
  reapplies-may : (clusters : List ClusterNo) → AllByRecursion (IsCluster header) clusters → AreDifferent clusters → (t : Trace) → IsReached header lines t.world → OneOwner header t.world
      → ((cluster : ClusterNo) → Among cluster clusters → (domain workflow : Name) → owns header cluster t.world domain ≡ true → count_in header domain workflow t.world + 1 ≤ 2 * lines)
      → EachStep (λ v cluster. MayDoAll IsAllowed header cluster (all_reapply header) v.world) (reapplied_all header) t clusters
  reapplies-may [] known different t is owner room = tt
  reapplies-may (cluster ∷ clusters) known different t is owner room = (
    reapply-allowed header lines (applying-kept header lines) cluster known.0 t.world is (room cluster (inl refl)),
    reapplies-may clusters known.1 different.1 (reapplied_all header t cluster) first.reached
        (λ one two there also domain a b. owner one two there also domain (before one domain a) (before two domain b))
        (λ other among domain workflow owned.
        subst (λ (written : List Batch). length written + 1 ≤ 2 * lines) (sym (first.strange domain workflow (not-first domain other among (before other domain owned) (owns header cluster t.world domain) refl)))
        (room other (inr among) domain workflow (before other domain owned))),
  )
    where
      first : IsRound header lines cluster (λ domain workflow. Among (shard_of domain workflow header.shards) (shards_of header)) t.world (reapplied_all header t cluster).world
      first = reapplied-round header lines (applying-kept header lines) cluster known.0 t is (room cluster (inl refl))

      before : (other : ClusterNo) (domain : Name) → owns header other (reapplied_all header t cluster).world domain ≡ true → owns header other t.world domain ≡ true
      before other domain owned = sym (owns-same header other domain (reapplied_all header t cluster).world t.world first.tables) ∙ owned

      -- where another cluster writes to a domain, the first one does not
      not-first : (domain : Name) (other : ClusterNo) → Among other clusters → owns header other t.world domain ≡ true → (b : Bool) → owns header cluster t.world domain ≡ b → b ≡ false
      not-first domain other among owned true e =
          absurd (all-among (λ o. o.number ≢ cluster.number) clusters other different.0 among (owner other cluster (all-among (IsCluster header) clusters other known.1 among) known.0 domain owned e))
      not-first domain other among owned false e = refl

  -- a round of settlement
  once-may : (t : Trace) → IsReached header lines t.world → ((domain workflow : Name) → count_in header domain workflow t.world + 1 ≤ 2 * lines) → MaySettleOnce IsAllowed header t
  once-may t is room = record {
    bootstrap = boot.0;
    due = dues.0;
    reapply =
        reapplies-may (all_clusters header) (all-from (IsCluster header) (all_clusters header) (λ c among. clusters-among (count_of header.clusters) c among)) (below-different (count_of header.clusters)) three alike.reached
        (one-owner header three.world (λ first second there also. (λ i. alike.tables i first) ∙ tables.1 first second there also ∙ (λ i. sym alike.tables i second)))
        (λ c among domain workflow owned. omega (arith, room domain workflow, count-alike header lines three.world t.world (alike.batches ∙ tables.0.batches) domain workflow));
  }
    where
      one : Trace
      one = quietly (tables_merged header) t

      tables : IsSpread header lines t.world one.world × OneTable header one.world
      tables = tables-one header lines t.world t.world (record { reached = is; batches = refl })

      two : Trace
      two = all_bootstrapped header one

      three : Trace
      three = all_due_arrived header two

      boot : EachStep (MayBootstrap IsAllowed header) (reader_bootstrapped header) one (all_clusters header) × IsAlike header lines one.world two.world
      boot = bootstraps-may one tables.0.reached

      dues : EachStep (λ v reader. MayDoAll IsAllowed header reader (due_jobs header reader v.world) v.world) (due_arrived header) two (all_clusters header) × IsAlike header lines two.world three.world
      dues = dues-may two boot.1.reached

      alike : IsAlike header lines one.world three.world
      alike = alike-then header lines one.world two.world three.world boot.1 dues.1

-- a settlement
pub settle_allowed : (header : Header) (lines : ℕ) (w : World) → lines < 100000 → IsReached header lines w → MaySettle IsAllowed header w
settle_allowed header lines w few is = record {
  first = once-may header (lines + 1) start begun (λ domain workflow. omega (arith, room domain workflow));
  second = once-may header (lines + 1) (settled_once header start) (settled_kept header (lines + 1) start (applying-kept header (lines + 1)) begun (λ domain workflow. omega (arith, room domain workflow)))
      (λ domain workflow. omega (arith, room domain workflow, settled_most header (lines + 1) start (applying-kept header (lines + 1)) begun (λ d u. omega (arith, room d u)) domain workflow));
}
  where
    start : Trace
    start = from_world (without_flights w)

    begun : IsReached header (lines + 1) (without_flights w)
    begun = more-lines header lines (without_flights w) few (emptied header lines w is)

    room : (domain workflow : Name) → count_in header domain workflow (without_flights w) + 2 ≤ 2 * (lines + 1)
    room = room-for header lines (without_flights w) (emptied header lines w is)
