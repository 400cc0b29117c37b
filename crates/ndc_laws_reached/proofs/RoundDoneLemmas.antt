-- A round of reapplication of all clusters: after it each workflow is done; where each is done before, nothing changes.
use Rattle.std.proofs.Common.{◌≡◌, ℕ, ◌<◌, Bool, true, false, List, [], ◌∷◌, map, inl, inr, refl, sym, ◌∙◌, subst, ap, arith}
use Rattle.std.specs.List.{AllByRecursion, fold}
use Rattle.ndc_script_types.specs.WellFormed.{IsCluster}
use Rattle.ndc_script_types.specs.declared.script.Header.{Header}
use Rattle.ndc_model_cells.specs.Cells.{learned_of}
use Rattle.ndc_model_cells.specs.Jobs.{cells_after, workflows_of}
use Rattle.ndc_model_cells.specs.Shards.{shard_of}
use Rattle.ndc_domain.specs.Clusters.{count_of}
use Rattle.ndc_domain.specs.declared.clusters.ClusterNo.{ClusterNo}
use Rattle.ndc_event.specs.declared.batch.Batch.{Batch}
use Rattle.ndc_event.specs.declared.name.Name.{Name}
use Rattle.ndc_model.specs.Fair.{written_of}
use Rattle.ndc_model.specs.Moves.{Trace, all_reapply, reapplied_all}
use Rattle.ndc_model.specs.World.{World, all_clusters, cell_at, shards_of}
use Rattle.ndc_model.proofs.FairLemmas.{clusters-among}
use Rattle.ndc_model.proofs.WorldLemmas.{same-cells}
use Rattle.ndc_model_sets.specs.Sets.{Has}
use Rattle.ndc_model_sets.proofs.BranchLemmas.{among-has}
use Rattle.ndc_model_sets.proofs.Lists.{Among, all-from}
use Rattle.ndc_laws_reached.specs.Writing.{ApplyingKeeps, applied_in}
use Rattle.ndc_laws_reached.proofs.LaneLemmas.{below-among}
use Rattle.ndc_laws_reached.proofs.BringLemmas.{after-more, done-world, world_after}
use Rattle.ndc_laws_reached.proofs.ManyLemmas.{range-among, range-below}
use Rattle.ndc_laws_reached.proofs.MessageLemmas.{learned-arrived}
use Rattle.ndc_laws_reached.proofs.WrittenLemmas.{arrived-written, lives, names-of}
use Rattle.ndc_laws_reached.proofs.ApplyLemmas.{applied_all, one-shard, reapplies}
use Rattle.ndc_laws_reached.proofs.OwnLemmas.{idle-applied, owns, workflows-among}
use Rattle.ndc_laws_reached.proofs.RoundLemmas.{has-cell, owns-same}
use Rattle.ndc_laws_reached.specs.Settled.{ApplyingSettles}
use Rattle.ndc_laws_reached.proofs.DoneLemmas.{IsDone, IsOn, IsReady, done-applied, none-done, on-none, on-then, step-on, workflows-listed}
use Rattle.ndc_laws_reached.proofs.WholeLemmas.{owner-there}

module _ (header : Header) (lines : ℕ) where
  -- a batch that lives in a shard
  abbrev Lives : ℕ → Batch → Type 0
  Lives shard b = shard_of b.domain b.workflow header.shards ≡ shard

  -- the workflows of a cell live in its shard
  all-live : (cluster : ClusterNo) → IsCluster header cluster → (shard : ℕ) → shard < header.shards → (w : World) → IsReady header lines w → AllByRecursion (Lives shard) (workflows_of (cell_at cluster shard w).arrived)
  all-live cluster known shard below w is =
      all-from (Lives shard) (workflows_of (cell_at cluster shard w).arrived)
      (λ b among. lives header lines w is.reached shard below b (arrived-written header lines w is.reached shard below cluster known b (workflows-among (cell_at cluster shard w).arrived b among)))

  module _ (keeps : ApplyingKeeps header lines) (settles : ApplyingSettles header lines) where
    -- reapplication in these workflows
    applied-on : (cluster : ClusterNo) → IsCluster header cluster → (shard : ℕ) → shard < header.shards → (bs : List Batch) → AllByRecursion (Lives shard) bs → (w : World) → IsReady header lines w
        → IsOn header lines w (applied_all header cluster shard bs w) × ((b : Batch) → Among b bs → owns header cluster w b.domain ≡ true → IsDone header b.domain b.workflow (applied_all header cluster shard bs w))
    applied-on cluster known shard below [] live w is = (on-none header lines w is, λ b none mine. absurd none)
    applied-on cluster known shard below (b ∷ bs) live w is = joined one (applied-on cluster known shard below bs live.1 (applied_in header cluster shard b w) one.0.ready)
      where
        middle : World
        middle = applied_in header cluster shard b w

        one : IsOn header lines w (applied_in header cluster shard b w) × (owns header cluster w b.domain ≡ true → IsDone header b.domain b.workflow (applied_in header cluster shard b w))
        one = step-on header lines cluster known shard below b live.0 w is keeps settles

        joined : IsOn header lines w (applied_in header cluster shard b w) × (owns header cluster w b.domain ≡ true → IsDone header b.domain b.workflow (applied_in header cluster shard b w))
            → IsOn header lines (applied_in header cluster shard b w) (applied_all header cluster shard bs (applied_in header cluster shard b w))
            × ((o : Batch) → Among o bs → owns header cluster (applied_in header cluster shard b w) o.domain ≡ true → IsDone header o.domain o.workflow (applied_all header cluster shard bs (applied_in header cluster shard b w)))
            → IsOn header lines w (applied_all header cluster shard (b ∷ bs) w) × ((o : Batch) → Among o (b ∷ bs) → owns header cluster w o.domain ≡ true → IsDone header o.domain o.workflow (applied_all header cluster shard (b ∷ bs) w))
        joined first rest = (on-then header lines w (applied_in header cluster shard b w) (applied_all header cluster shard bs (applied_in header cluster shard b w)) first.0 rest.0, each)
          where
            each : (o : Batch) → Among o (b ∷ bs) → owns header cluster w o.domain ≡ true → IsDone header o.domain o.workflow (applied_all header cluster shard (b ∷ bs) w)
            each o (inl same) mine =
                rest.0.still o.domain o.workflow
                (subst (λ (x : Batch). IsDone header x.domain x.workflow (applied_in header cluster shard b w)) (sym same) (first.1 (subst (λ (x : Batch). owns header cluster w x.domain ≡ true) same mine)))
            each o (inr among) mine = rest.1 o among (owns-same header cluster o.domain (applied_in header cluster shard b w) w first.0.tables ∙ mine)

    -- one shard of a cluster
    shard-on : (cluster : ClusterNo) → IsCluster header cluster → (shard : ℕ) → shard < header.shards → (w : World) → IsReady header lines w → IsOn header lines w (world_after header cluster (reapplies shard ∷ []) w)
        × ((domain workflow : Name) → shard_of domain workflow header.shards ≡ shard → owns header cluster w domain ≡ true → IsDone header domain workflow (world_after header cluster (reapplies shard ∷ []) w))
    shard-on cluster known shard below w is =
        subst (λ (v : World). IsOn header lines w v × ((domain workflow : Name) → shard_of domain workflow header.shards ≡ shard → owns header cluster w domain ≡ true → IsDone header domain workflow v))
        (sym (one-shard header cluster shard w (has-cell header lines keeps cluster known w is.reached shard below)))
        (all.0, λ domain workflow lives_there mine. done domain workflow lives_there mine (written_of header domain workflow w) refl)
      where
        bs : List Batch
        bs = workflows_of (cell_at cluster shard w).arrived

        all : IsOn header lines w (applied_all header cluster shard (workflows_of (cell_at cluster shard w).arrived) w)
            × ((b : Batch) → Among b (workflows_of (cell_at cluster shard w).arrived) → owns header cluster w b.domain ≡ true → IsDone header b.domain b.workflow (applied_all header cluster shard (workflows_of (cell_at cluster shard w).arrived) w))
        all = applied-on cluster known shard below (workflows_of (cell_at cluster shard w).arrived) (all-live cluster known shard below w is) w is

        done : (domain workflow : Name) → shard_of domain workflow header.shards ≡ shard → owns header cluster w domain ≡ true → (list : List Batch) → written_of header domain workflow w ≡ list
            → IsDone header domain workflow (applied_all header cluster shard (workflows_of (cell_at cluster shard w).arrived) w)
        done domain workflow lives_there mine [] e = all.0.still domain workflow (none-done header lines w domain workflow e)
        done domain workflow lives_there mine (b ∷ list) e =
            let learned : learned_of domain workflow (cell_at cluster shard w) ≡ written_of header domain workflow w =
            subst (λ (s : ℕ). learned_of domain workflow (cell_at cluster s w) ≡ written_of header domain workflow w) lives_there (is.learned cluster known domain workflow mine) in
            let has : Has (learned_of domain workflow (cell_at cluster shard w)) b =
            subst (λ (l : List Batch). Has l b) (sym learned)
            (among-has (written_of header domain workflow w) b (is.reached.fair.writing.sound domain workflow).set.ordered (subst (λ (l : List Batch). Among b l) (sym e) (inl refl))) in
            let there = learned-arrived header lines w is.reached shard below cluster known domain workflow b has in
            let f = workflows-listed (cell_at cluster shard w).arrived domain workflow b there.0 there.1 in
            let n = names-of domain workflow f.0 f.2 in
            subst (λ (d : Name). IsDone header d workflow (applied_all header cluster shard (workflows_of (cell_at cluster shard w).arrived) w)) n.0
            (subst (λ (u : Name). IsDone header f.0.domain u (applied_all header cluster shard (workflows_of (cell_at cluster shard w).arrived) w)) n.1
            (all.1 f.0 f.1 (subst (λ (d : Name). owns header cluster w d ≡ true) (sym n.0) mine)))

    -- all shards of a cluster
    shards-on : (cluster : ClusterNo) → IsCluster header cluster → (shards : List ℕ) → AllByRecursion (λ shard. shard < header.shards) shards → (w : World) → IsReady header lines w
        → IsOn header lines w (world_after header cluster (map reapplies shards) w)
        × ((domain workflow : Name) → Among (shard_of domain workflow header.shards) shards → owns header cluster w domain ≡ true → IsDone header domain workflow (world_after header cluster (map reapplies shards) w))
    unfolding cells_after
    shards-on cluster known [] below w is = (subst (IsOn header lines w) (sym (same-cells cluster w)) (on-none header lines w is), λ domain workflow none mine. absurd none)
    shards-on cluster known (shard ∷ shards) below w is =
        subst
        (λ (v : World). IsOn header lines w v × ((domain workflow : Name) → Among (shard_of domain workflow header.shards) (shard ∷ shards) → owns header cluster w domain ≡ true → IsDone header domain workflow v))
        (after-more header cluster w is.reached.shaped known (reapplies shard) (map reapplies shards)) (joined (shards-on cluster known shards below.1 (world_after header cluster (reapplies shard ∷ []) w) first.0.ready))
      where
        first : IsOn header lines w (world_after header cluster (reapplies shard ∷ []) w)
            × ((domain workflow : Name) → shard_of domain workflow header.shards ≡ shard → owns header cluster w domain ≡ true → IsDone header domain workflow (world_after header cluster (reapplies shard ∷ []) w))
        first = shard-on cluster known shard below.0 w is

        middle : World
        middle = world_after header cluster (reapplies shard ∷ []) w

        last : World
        last = world_after header cluster (map reapplies shards) (world_after header cluster (reapplies shard ∷ []) w)

        joined : IsOn header lines middle last × ((domain workflow : Name) → Among (shard_of domain workflow header.shards) shards → owns header cluster middle domain ≡ true → IsDone header domain workflow last)
            → IsOn header lines w last × ((domain workflow : Name) → Among (shard_of domain workflow header.shards) (shard ∷ shards) → owns header cluster w domain ≡ true → IsDone header domain workflow last)
        joined rest = (on-then header lines w middle last first.0 rest.0, each)
          where
            each : (domain workflow : Name) → Among (shard_of domain workflow header.shards) (shard ∷ shards) → owns header cluster w domain ≡ true → IsDone header domain workflow last
            each domain workflow (inl same) mine = rest.0.still domain workflow (first.1 domain workflow same mine)
            each domain workflow (inr among) mine = rest.1 domain workflow among (owns-same header cluster domain middle w first.0.tables ∙ mine)

    -- the shards of a header
    abbrev AreBelow : List ℕ → Type 0
    AreBelow shards = AllByRecursion (λ shard. shard < header.shards) shards

    header-shards : AreBelow (shards_of header)
    header-shards = all-from (λ shard. shard < header.shards) (shards_of header) (λ shard among. omega (arith, range-below 0 header.shards shard among))

    -- one cluster
    cluster-on : (cluster : ClusterNo) → IsCluster header cluster → (t : Trace) → IsReady header lines t.world → IsOn header lines t.world (reapplied_all header t cluster).world
        × ((domain workflow : Name) → shard_of domain workflow header.shards < header.shards → owns header cluster t.world domain ≡ true → IsDone header domain workflow (reapplied_all header t cluster).world)
    unfolding reapplied_all
    cluster-on cluster known t is =
        subst
        (λ (v : World). IsOn header lines t.world v × ((domain workflow : Name) → shard_of domain workflow header.shards < header.shards → owns header cluster t.world domain ≡ true → IsDone header domain workflow v))
        (sym (done-world header cluster (all_reapply header) t))
        (let all = shards-on cluster known (shards_of header) header-shards t.world is in
        (all.0, λ domain workflow below mine. all.1 domain workflow (range-among 0 header.shards (shard_of domain workflow header.shards) (shard_of domain workflow header.shards) below (omega arith)) mine))

    -- one cluster after the other
    clusters-on : (clusters : List ClusterNo) → AllByRecursion (IsCluster header) clusters → (t : Trace) → IsReady header lines t.world → IsOn header lines t.world (fold (reapplied_all header) t clusters).world
        × ((cluster : ClusterNo) → Among cluster clusters → (domain workflow : Name) → shard_of domain workflow header.shards < header.shards → owns header cluster t.world domain ≡ true
        → IsDone header domain workflow (fold (reapplied_all header) t clusters).world)
    clusters-on [] known t is = (on-none header lines t.world is, λ cluster none domain workflow below mine. absurd none)
    clusters-on (cluster ∷ clusters) known t is = joined (clusters-on clusters known.1 (reapplied_all header t cluster) first.0.ready)
      where
        first : IsOn header lines t.world (reapplied_all header t cluster).world
            × ((domain workflow : Name) → shard_of domain workflow header.shards < header.shards → owns header cluster t.world domain ≡ true → IsDone header domain workflow (reapplied_all header t cluster).world)
        first = cluster-on cluster known.0 t is

        last : World
        last = (fold (reapplied_all header) (reapplied_all header t cluster) clusters).world

        joined : IsOn header lines (reapplied_all header t cluster).world last
            × ((other : ClusterNo) → Among other clusters → (domain workflow : Name) → shard_of domain workflow header.shards < header.shards → owns header other (reapplied_all header t cluster).world domain ≡ true → IsDone header domain workflow last)
            → IsOn header lines t.world last
            × ((other : ClusterNo) → Among other (cluster ∷ clusters) → (domain workflow : Name) → shard_of domain workflow header.shards < header.shards → owns header other t.world domain ≡ true → IsDone header domain workflow last)
        joined rest = (on-then header lines t.world (reapplied_all header t cluster).world last first.0 rest.0, each)
          where
            each : (other : ClusterNo) → Among other (cluster ∷ clusters) → (domain workflow : Name) → shard_of domain workflow header.shards < header.shards → owns header other t.world domain ≡ true → IsDone header domain workflow last
            each other (inl same) domain workflow below mine = rest.0.still domain workflow (first.1 domain workflow below (subst (λ (c : ClusterNo). owns header c t.world domain ≡ true) same mine))
            each other (inr among) domain workflow below mine = rest.1 other among domain workflow below (owns-same header other domain (reapplied_all header t cluster).world t.world first.0.tables ∙ mine)

    -- all clusters: then each workflow is done
    pub round-done : ((domain workflow : Name) → shard_of domain workflow header.shards < header.shards) → (t : Trace) → IsReady header lines t.world
        → IsOn header lines t.world (fold (reapplied_all header) t (all_clusters header)).world × ((domain workflow : Name) → IsDone header domain workflow (fold (reapplied_all header) t (all_clusters header)).world)
    round-done live t is = (all.0, λ domain workflow. each domain workflow (written_of header domain workflow t.world) refl)
      where
        last : World
        last = (fold (reapplied_all header) t (all_clusters header)).world

        all : IsOn header lines t.world last
            × ((cluster : ClusterNo) → Among cluster (all_clusters header) → (domain workflow : Name) → shard_of domain workflow header.shards < header.shards → owns header cluster t.world domain ≡ true → IsDone header domain workflow last)
        all = clusters-on (all_clusters header) (all-from (IsCluster header) (all_clusters header) (λ c among. clusters-among (count_of header.clusters) c among)) t is

        each : (domain workflow : Name) → (list : List Batch) → written_of header domain workflow t.world ≡ list → IsDone header domain workflow last
        each domain workflow [] e = all.0.still domain workflow (none-done header lines t.world domain workflow e)
        each domain workflow (b ∷ list) e =
            let o = owner-there header lines t.world is.reached is.tables domain workflow b (subst (λ (l : List Batch). Among b l) (sym e) (inl refl)) (live domain workflow) in
            all.1 o.0 (below-among (count_of header.clusters) o.0 o.1) domain workflow (live domain workflow) o.2

    -- where each workflow is done, nothing is applied
    module _ (w : World) (is : IsReady header lines w) (done : (domain workflow : Name) → IsDone header domain workflow w) where
      applied-idle : (cluster : ClusterNo) → IsCluster header cluster → (shard : ℕ) → shard < header.shards → (bs : List Batch) → AllByRecursion (Lives shard) bs → applied_all header cluster shard bs w ≡ w
      applied-idle cluster known shard below [] live = refl
      applied-idle cluster known shard below (b ∷ bs) live = ap (applied_all header cluster shard bs) (by (owns header cluster w b.domain) refl) ∙ applied-idle cluster known shard below bs live.1
        where
          by : (t : Bool) → owns header cluster w b.domain ≡ t → applied_in header cluster shard b w ≡ w
          by true e = done-applied header lines cluster known shard below b live.0 w is e (done b.domain b.workflow)
          by false e = idle-applied header cluster shard b w e

      shards-idle : (cluster : ClusterNo) → IsCluster header cluster → (shards : List ℕ) → AreBelow shards → world_after header cluster (map reapplies shards) w ≡ w
      unfolding cells_after
      shards-idle cluster known [] below = same-cells cluster w
      shards-idle cluster known (shard ∷ shards) below =
          sym (after-more header cluster w is.reached.shaped known (reapplies shard) (map reapplies shards))
          ∙ ap (world_after header cluster (map reapplies shards)) (one-shard header cluster shard w (has-cell header lines keeps cluster known w is.reached shard below.0)
          ∙ applied-idle cluster known shard below.0 (workflows_of (cell_at cluster shard w).arrived) (all-live cluster known shard below.0 w is))
          ∙ shards-idle cluster known shards below.1

      clusters-idle : (clusters : List ClusterNo) → AllByRecursion (IsCluster header) clusters → (t : Trace) → t.world ≡ w → (fold (reapplied_all header) t clusters).world ≡ w
      unfolding reapplied_all
      clusters-idle [] known t same = same
      clusters-idle (cluster ∷ clusters) known t same =
          clusters-idle clusters known.1 (reapplied_all header t cluster)
          (done-world header cluster (all_reapply header) t ∙ ap (world_after header cluster (all_reapply header)) same ∙ shards-idle cluster known.0 (shards_of header) header-shards)

      pub round-idle : (t : Trace) → t.world ≡ w → (fold (reapplied_all header) t (all_clusters header)).world ≡ w
      round-idle t same = clusters-idle (all_clusters header) (all-from (IsCluster header) (all_clusters header) (λ c among. clusters-among (count_of header.clusters) c among)) t same
