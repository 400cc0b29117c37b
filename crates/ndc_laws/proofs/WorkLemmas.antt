-- After `work` nothing is in flight to the cluster, and it has applied again what it may.
use Rattle.std.proofs.Common.{◌≡◌, ℕ, suc, ◌+◌, ◌*◌, ◌<◌, ◌≤◌, Bool, true, false, if◌then◌else◌, List, [], ◌∷◌, ◌++◌, length, map, Option, Some, None, inl, inr, refl, sym, ◌∙◌, subst, ap, arith, true≢false}
use Rattle.std.specs.List.{AllByRecursion}
use Rattle.std.specs.Prelude.{find}
use Rattle.std.proofs.lemmas.Bool.{and_parts}
use Rattle.ndc_script_types.specs.WellFormed.{IsCluster, IsWellFormed}
use Rattle.ndc_script_types.specs.declared.script.Act.TheVariants as act
use Rattle.ndc_script_types.specs.declared.script.Header.{Header}
use Rattle.ndc_script_types.specs.declared.script.Line.{Line}
use Rattle.ndc_model_cells.specs.Cells.{Cell, arrived_of, learned_of}
use Rattle.ndc_model_cells.specs.Jobs.{cells_after, workflows_of}
use Rattle.ndc_model_cells.specs.Places.{is_of}
use Rattle.ndc_model_cells.specs.Shards.{shard_of}
use Rattle.ndc_model_cells.specs.Writing.{Desk, same_cluster}
use Rattle.ndc_domain.specs.declared.clusters.ClusterNo.{ClusterNo}
use Rattle.ndc_domain.specs.declared.record.DomainRecord.{DomainRecord}
use Rattle.ndc_event.specs.declared.batch.Batch.{Batch}
use Rattle.ndc_event.specs.declared.name.Name.{Name}
use Rattle.ndc_laws_cells.proofs.FoundLemmas.{find-passes}
use Rattle.ndc_laws_reached.specs.Writing.{ApplyingKeeps, IsApplied, applied_in, cell_applied, count_in}
use Rattle.ndc_laws_reached.proofs.ApplyLemmas.{applied_all, one-shard, reapplies}
use Rattle.ndc_laws_reached.proofs.ArrivalLaws.{flights_kept}
use Rattle.ndc_laws_reached.proofs.BringLemmas.{after-more, done-world, world_after}
use Rattle.ndc_laws_reached.proofs.DoneLemmas.{workflows-listed}
use Rattle.ndc_laws_reached.proofs.LandLemmas.{cell-here, cell-other}
use Rattle.ndc_laws_reached.proofs.LateLemmas.{AreEmpty}
use Rattle.ndc_laws_reached.proofs.LetterLemmas.{shard-below}
use Rattle.ndc_laws_reached.proofs.LineLemmas.{more-lines, room-for, work_kept}
use Rattle.ndc_laws_reached.proofs.ManyLemmas.{range-among, range-below}
use Rattle.ndc_laws_reached.proofs.OwnLemmas.{AreApart, Rise, apart-flip, range-rises, workflows-among, workflows-apart}
use Rattle.ndc_laws_reached.proofs.RoundLemmas.{applied-tables, has-cell}
use Rattle.ndc_laws_reached.proofs.WorkflowApplyLemmas.{applying-kept}
use Rattle.ndc_laws_reached.proofs.WrittenLemmas.{arrived-written, lives, names-of}
use Rattle.ndc_laws.specs.Promised.{line, world_before}
use Rattle.ndc_laws.specs.Worked.{HasApplied, HasWorked}
use Rattle.ndc_laws.proofs.AncestorLemmas.{waits-for-ancestors}
use Rattle.ndc_laws.proofs.LinesBefore.{runs-reached}
use Rattle.ndc_laws.proofs.QuietLemmas.{applied-same, reapplication-leaves}
use Rattle.ndc_model.specs.Facts.{IsReached}
use Rattle.ndc_model.specs.Fair.{written_of}
use Rattle.ndc_model.specs.Laws.{script_of}
use Rattle.ndc_model.specs.Lines.{act_step}
use Rattle.ndc_model.specs.Moves.{all_reapply, flights_arrived, jobs_done, link_without_flights, map_from, reapplied_all, renewed, renewed_lane, renewed_link, without_flight, worked}
use Rattle.ndc_model.specs.Queues.{Lane, new_lane}
use Rattle.ndc_model.specs.World.{Link, World, cell_at, cell_of, flight_at, home_at, is_link, lane_in, link_found, shards_of}
use Rattle.ndc_model.proofs.ListLemmas.{all-index}
use Rattle.ndc_model.proofs.WorldLemmas.{same-cells}
use Rattle.ndc_model_sets.specs.Current.{HasNoStray}
use Rattle.ndc_model_sets.specs.Learned.{learned}
use Rattle.ndc_model_sets.proofs.Lists.{Among, all-among, all-from, among-filter, filter-among, find-among}

-- nothing is in flight to a reader
abbrev NoneTo : ClusterNo → List Link → Type 0
NoneTo reader links = AllByRecursion (λ link. same_cluster link.reader reader ≡ true → AreEmpty link.lanes) links

emptied-lanes : (lanes : List Lane) → AreEmpty (map without_flight lanes)
emptied-lanes [] = tt
emptied-lanes (lane ∷ lanes) = (refl, emptied-lanes lanes)

emptied-to : (reader : ClusterNo) (links : List Link) → NoneTo reader (map (λ link. if same_cluster link.reader reader then link_without_flights link else link) links)
emptied-to reader [] = tt
emptied-to reader (link ∷ links) = (by (same_cluster link.reader reader) refl, emptied-to reader links)
  where
    by : (t : Bool) → same_cluster link.reader reader ≡ t → same_cluster (if t then link_without_flights link else link).reader reader ≡ true → AreEmpty (if t then link_without_flights link else link).lanes
    by true e mine = emptied-lanes link.lanes
    by false e mine = absurd (true≢false (sym mine ∙ e))

renewed-lanes : (w : World) (link : Link) (place : ℕ) (lanes : List Lane) → AreEmpty lanes → AreEmpty (map_from (renewed_lane w link) place lanes)
renewed-lanes w link place [] empty = tt
renewed-lanes w link place (lane ∷ lanes) empty = (empty.0, renewed-lanes w link (suc place) lanes empty.1)

renewed-to : (w : World) (reader : ClusterNo) (links : List Link) → NoneTo reader links → NoneTo reader (map (renewed_link w reader) links)
renewed-to w reader [] none = tt
renewed-to w reader (link ∷ links) none = (by (same_cluster link.reader reader) refl, renewed-to w reader links none.1)
  where
    by : (t : Bool) → same_cluster link.reader reader ≡ t → same_cluster (if t then record link { lanes = map_from (renewed_lane w link) 0 link.lanes } else link).reader reader ≡ true
        → AreEmpty (if t then record link { lanes = map_from (renewed_lane w link) 0 link.lanes } else link).lanes
    by true e mine = renewed-lanes w link 0 link.lanes (none.0 e)
    by false e mine = absurd (true≢false (sym mine ∙ e))

-- so each flight to it is empty
flight-empty : (reader source : ClusterNo) (shard : ℕ) (w : World) → NoneTo reader w.links → flight_at reader source shard w ≡ []
flight-empty reader source shard w none = by (find (is_link reader source) w.links) refl
  where
    by : (o : Option Link) → find (is_link reader source) w.links ≡ o → (lane_in (link_found reader source o) shard).flight ≡ []
    by None e = refl
    by (Some link) e =
        let mine = (and_parts (same_cluster link.reader reader) (same_cluster link.source source) (find-passes (is_link reader source) w.links link e)).0 in
        all-index (λ lane. lane.flight ≡ []) link.lanes shard new_lane refl
        (all-among (λ l. same_cluster l.reader reader ≡ true → AreEmpty l.lanes) w.links link none (find-among (is_link reader source) w.links link e) mine)

work-flight : (header : Header) (cluster : ClusterNo) (w : World) (source : ClusterNo) (shard : ℕ) → flight_at cluster source shard (worked header cluster w).world ≡ []
unfolding worked reapplied_all flights_arrived jobs_done renewed
work-flight header cluster w source shard =
    flight-empty cluster source shard (worked header cluster w).world (renewed-to (reapplied_all header (flights_arrived header cluster w) cluster).world cluster _ (emptied-to cluster w.links))

module _ (header : Header) (lines : ℕ) (keeps : ApplyingKeeps header lines) (cluster : ClusterNo) (known : IsCluster header cluster) where
  -- there is room for one batch more in a workflow
  abbrev HasRoom : World → Name → Name → Type 0
  HasRoom w domain workflow = count_in header domain workflow w + 1 ≤ 2 * lines

  -- the cluster has applied again what it may to a workflow that lives in a shard
  abbrev Applied : ℕ → World → Name → Name → Type 0
  Applied shard w domain workflow = HasApplied (home_at header cluster w) domain workflow (cell_at cluster shard w)

  same-written : (domain workflow : Name) (w v : World) → written_of header domain workflow v ≡ written_of header domain workflow w → HasRoom w domain workflow → HasRoom v domain workflow
  same-written domain workflow w v same room = subst (λ (written : List Batch). length written + 1 ≤ 2 * lines) (sym same) room

  applied-still : (shard : ℕ) (domain workflow : Name) (w v : World) → home_at header cluster v ≡ home_at header cluster w
      → learned_of domain workflow (cell_at cluster shard v) ≡ learned_of domain workflow (cell_at cluster shard w) → Applied shard w domain workflow → Applied shard v domain workflow
  applied-still shard domain workflow w v home same applied =
      applied-same (home_at header cluster v) domain workflow (cell_at cluster shard w) (cell_at cluster shard v) same
      (subst (λ (desk : Desk). HasApplied desk domain workflow (cell_at cluster shard w)) (sym home) applied)

  -- one of these batches is of a workflow
  abbrev OfOne : List Batch → Name → Name → Type 0
  OfOne bs domain workflow = (b : Batch) × Among b bs × (is_of domain workflow b ≡ true)

  -- a world after reapplication in the workflows of these batches, in one shard
  record AreApplied (shard : ℕ) (bs : List Batch) (w v : World) : Type 0 where
    reached : IsReached header lines v
    home : home_at header cluster v ≡ home_at header cluster w
    applied : (b : Batch) → Among b bs → Applied shard v b.domain b.workflow
    learned : (domain workflow : Name) → (OfOne bs domain workflow → ⊥) → learned_of domain workflow (cell_at cluster shard v) ≡ learned_of domain workflow (cell_at cluster shard w)
    written : (domain workflow : Name) → (OfOne bs domain workflow → ⊥) → written_of header domain workflow v ≡ written_of header domain workflow w
    cells : (place : ℕ) → (place ≡ shard → ⊥) → cell_at cluster place v ≡ cell_at cluster place w

  -- one of them
  module _ (shard : ℕ) (below : shard < header.shards) (b : Batch) (lives_there : shard_of b.domain b.workflow header.shards ≡ shard) (w : World) (is : IsReached header lines w) (room : HasRoom w b.domain b.workflow) where
    abbrev v : World
    v = applied_in header cluster shard b w

    kept : IsApplied header lines b w v
    kept = keeps cluster shard b w known below lives_there is room

    home-kept : home_at header cluster v ≡ home_at header cluster w
    home-kept = ap (λ (t : ClusterNo → List DomainRecord). record { clusters = header.clusters; me = cluster; limit = header.limit; table = t cluster }) (applied-tables header cluster shard b w)

    there : cell_at cluster shard v ≡ cell_applied header cluster shard b w
    there = cell-here header w is.shaped cluster known shard below (cell_applied header cluster shard b w)

    leaves : HasApplied (home_at header cluster w) b.domain b.workflow (cell_applied header cluster shard b w)
        × ((domain workflow : Name) → is_of domain workflow b ≡ false → learned_of domain workflow (cell_applied header cluster shard b w) ≡ learned_of domain workflow (cell_at cluster shard w))
    leaves =
        subst
        (λ s. HasApplied (home_at header cluster w) b.domain b.workflow (cell_applied header cluster s b w)
        × ((domain workflow : Name) → is_of domain workflow b ≡ false → learned_of domain workflow (cell_applied header cluster s b w) ≡ learned_of domain workflow (cell_at cluster s w))) lives_there
        (let r = reapplication-leaves header lines w is cluster known b (subst (λ s. s < header.shards) (sym lives_there) below) in (r.applied, r.others))

    one-applied : Applied shard v b.domain b.workflow
    one-applied =
        subst (λ (desk : Desk). HasApplied desk b.domain b.workflow (cell_at cluster shard v)) (sym home-kept)
        (subst (HasApplied (home_at header cluster w) b.domain b.workflow) (sym there) leaves.0)

    others-learned : (domain workflow : Name) → is_of domain workflow b ≡ false → learned_of domain workflow (cell_at cluster shard v) ≡ learned_of domain workflow (cell_at cluster shard w)
    others-learned domain workflow other = ap (learned_of domain workflow) there ∙ leaves.1 domain workflow other

    others-there : (place : ℕ) → (place ≡ shard → ⊥) → cell_at cluster place v ≡ cell_at cluster place w
    others-there place apart = cell-other header w is.shaped cluster known shard below (cell_applied header cluster shard b w) cluster place (λ _. apart)

    -- it, and the others after it
    then-applied : (bs : List Batch) (u : World) → AllByRecursion (λ other. is_of b.domain b.workflow other ≡ false) bs → AreApplied shard bs v u → AreApplied shard (b ∷ bs) w u
    then-applied bs u apart rest = record {
      reached = rest.reached;
      home = rest.home ∙ home-kept;
      applied = each;
      learned = λ domain workflow never. rest.learned domain workflow (λ one. never (one.0, inr one.1, one.2)) ∙ others-learned domain workflow (other domain workflow never);
      written = λ domain workflow never. rest.written domain workflow (λ one. never (one.0, inr one.1, one.2)) ∙ kept.others domain workflow (other domain workflow never);
      cells = λ place elsewhere. rest.cells place elsewhere ∙ others-there place elsewhere;
    }
      where
        other : (domain workflow : Name) → (OfOne (b ∷ bs) domain workflow → ⊥) → is_of domain workflow b ≡ false
        other domain workflow never = by (is_of domain workflow b) refl
          where
            by : (t : Bool) → is_of domain workflow b ≡ t → t ≡ false
            by true e = absurd (never (b, inl refl, e))
            by false e = refl

        alone : OfOne bs b.domain b.workflow → ⊥
        alone one = true≢false (sym one.2 ∙ all-among (λ o. is_of b.domain b.workflow o ≡ false) bs one.0 apart one.1)

        each : (o : Batch) → Among o (b ∷ bs) → Applied shard u o.domain o.workflow
        each o (inl same) =
            subst (λ (x : Batch). Applied shard u x.domain x.workflow) (sym same)
            (applied-still shard b.domain b.workflow v u rest.home (rest.learned b.domain b.workflow alone) one-applied)
        each o (inr among) = rest.applied o among

  all-applied : (shard : ℕ) → shard < header.shards → (bs : List Batch) → AreApart bs → AllByRecursion (λ b. shard_of b.domain b.workflow header.shards ≡ shard) bs → (w : World) → IsReached header lines w
      → AllByRecursion (λ b. HasRoom w b.domain b.workflow) bs → AreApplied shard bs w (applied_all header cluster shard bs w)
  all-applied shard below [] apart live w is room = record {
    reached = is;
    home = refl;
    applied = λ b none. absurd none;
    learned = λ domain workflow never. refl;
    written = λ domain workflow never. refl;
    cells = λ place elsewhere. refl;
  }
  all-applied shard below (b ∷ bs) apart live w is room =
      then-applied shard below b live.0 w is room.0 bs (applied_all header cluster shard bs (applied_in header cluster shard b w)) apart.0
      (all-applied shard below bs apart.1 live.1 (applied_in header cluster shard b w) (kept shard below b live.0 w is room.0).reached (still bs apart.0 room.1))
    where
      still : (list : List Batch) → AllByRecursion (λ other. is_of b.domain b.workflow other ≡ false) list → AllByRecursion (λ o. HasRoom w o.domain o.workflow) list
          → AllByRecursion (λ o. HasRoom (applied_in header cluster shard b w) o.domain o.workflow) list
      still [] none all = tt
      still (o ∷ list) none all = (
        same-written o.domain o.workflow w (applied_in header cluster shard b w) ((kept shard below b live.0 w is room.0).others o.domain o.workflow (apart-flip b o none.0)) all.0,
        still list none.1 all.1,
      )

  -- a world after reapplication in these shards
  record IsRound (shards : List ℕ) (w v : World) : Type 0 where
    reached : IsReached header lines v
    home : home_at header cluster v ≡ home_at header cluster w
    applied : (domain workflow : Name) (shard : ℕ) → Among shard shards → Applied shard v domain workflow
    written : (domain workflow : Name) → (Among (shard_of domain workflow header.shards) shards → ⊥) → written_of header domain workflow v ≡ written_of header domain workflow w
    cells : (place : ℕ) → (Among place shards → ⊥) → cell_at cluster place v ≡ cell_at cluster place w

  -- one shard
  module _ (shard : ℕ) (below : shard < header.shards) (w : World) (is : IsReached header lines w) (room : (domain workflow : Name) → shard_of domain workflow header.shards ≡ shard → HasRoom w domain workflow) where
    abbrev cell : Cell
    cell = cell_at cluster shard w

    abbrev bs : List Batch
    bs = workflows_of cell.arrived

    abbrev u : World
    u = applied_all header cluster shard bs w

    live : (b : Batch) → Among b bs → shard_of b.domain b.workflow header.shards ≡ shard
    live b among = lives header lines w is shard below b (arrived-written header lines w is shard below cluster known b (workflows-among cell.arrived b among))

    are : AreApplied shard bs w u
    are =
        all-applied shard below bs (workflows-apart cell.arrived) (all-from (λ b. shard_of b.domain b.workflow header.shards ≡ shard) bs live) w is
        (all-from (λ b. HasRoom w b.domain b.workflow) bs (λ b among. room b.domain b.workflow (live b among)))

    -- a workflow of which nothing has arrived, and one of which something has
    each : (domain workflow : Name) → Applied shard u domain workflow
    each domain workflow = by (arrived_of domain workflow cell) refl
      where
        by : (list : List Batch) → arrived_of domain workflow cell ≡ list → Applied shard u domain workflow
        by [] e =
            applied-still shard domain workflow w u are.home
            (are.learned domain workflow
            (λ one. subst (λ (l : List Batch). Among one.0 l) e (among-filter (is_of domain workflow) cell.arrived one.0 one.2 (workflows-among cell.arrived one.0 one.1))))
            (λ version may. subst HasNoStray (sym (ap learned e)) tt)
        by (c ∷ list) e =
            let p = filter-among (is_of domain workflow) cell.arrived c (subst (λ (l : List Batch). Among c l) (sym e) (inl refl)) in
            let f = workflows-listed cell.arrived domain workflow c p.1 p.0 in
            let n = names-of domain workflow f.0 f.2 in
            subst (λ (d : Name). Applied shard u d workflow) n.0 (subst (λ (name : Name). Applied shard u f.0.domain name) n.1 (are.applied f.0 f.1))

    one-round : IsRound (shard ∷ []) w (world_after header cluster (reapplies shard ∷ []) w)
    one-round =
        subst (IsRound (shard ∷ []) w) (sym (one-shard header cluster shard w (has-cell header lines keeps cluster known w is shard below)))
        (record {
          reached = are.reached;
          home = are.home;
          applied = here;
          written = λ domain workflow never. are.written domain workflow (λ one. never (inl (lives_in domain workflow one)));
          cells = λ place never. are.cells place (λ same. never (inl same));
        })
      where
        here : (domain workflow : Name) (place : ℕ) → Among place (shard ∷ []) → Applied place u domain workflow
        here domain workflow place (inl same) = subst (λ (n : ℕ). Applied n u domain workflow) (sym same) (each domain workflow)
        here domain workflow place (inr none) = absurd none

        lives_in : (domain workflow : Name) → OfOne bs domain workflow → shard_of domain workflow header.shards ≡ shard
        lives_in domain workflow one =
            let n = names-of domain workflow one.0 one.2 in
            subst (λ (d : Name). shard_of d workflow header.shards ≡ shard) n.0 (subst (λ (name : Name). shard_of one.0.domain name header.shards ≡ shard) n.1 (live one.0 one.1))

  -- many shards
  rounds : (shards : List ℕ) → Rise shards → AllByRecursion (λ shard. shard < header.shards) shards → (w : World) → IsReached header lines w
      → ((domain workflow : Name) → Among (shard_of domain workflow header.shards) shards → HasRoom w domain workflow) → IsRound shards w (world_after header cluster (map reapplies shards) w)
  unfolding cells_after
  rounds [] rise below w is room =
      subst (IsRound [] w) (sym (same-cells cluster w))
      (record { reached = is; home = refl; applied = λ domain workflow shard none. absurd none; written = λ domain workflow never. refl; cells = λ place never. refl })
  rounds (shard ∷ shards) rise below w is room =
      subst (IsRound (shard ∷ shards) w) (after-more header cluster w is.shaped known (reapplies shard) (map reapplies shards))
      (joined (world_after header cluster (map reapplies shards) middle) (rounds shards rise.1 below.1 middle first.reached still))
    where
      middle : World
      middle = world_after header cluster (reapplies shard ∷ []) w

      first : IsRound (shard ∷ []) w middle
      first = one-round shard below.0 w is (λ domain workflow same. room domain workflow (inl same))

      apart : (place : ℕ) → Among place shards → place ≡ shard → ⊥
      apart place among same = let less : shard < place = all-among (λ more. shard < more) shards place rise.0 among in omega (arith, less, same)

      still : (domain workflow : Name) → Among (shard_of domain workflow header.shards) shards → HasRoom middle domain workflow
      still domain workflow among = same-written domain workflow w middle (first.written domain workflow not_here) (room domain workflow (inr among))
        where
          not_here : Among (shard_of domain workflow header.shards) (shard ∷ []) → ⊥
          not_here (inl same) = apart (shard_of domain workflow header.shards) among same
          not_here (inr none) = absurd none

      not_first : (place : ℕ) → (Among place (shard ∷ shards) → ⊥) → Among place (shard ∷ []) → ⊥
      not_first place never (inl same) = never (inl same)
      not_first place never (inr none) = absurd none

      joined : (v : World) → IsRound shards middle v → IsRound (shard ∷ shards) w v
      joined v rest = record {
        reached = rest.reached;
        home = rest.home ∙ first.home;
        applied = here;
        written = λ domain workflow never. rest.written domain workflow (λ among. never (inr among)) ∙ first.written domain workflow (not_first (shard_of domain workflow header.shards) never);
        cells = λ place never. rest.cells place (λ among. never (inr among)) ∙ first.cells place (not_first place never);
      }
        where
          here : (domain workflow : Name) (place : ℕ) → Among place (shard ∷ shards) → Applied place v domain workflow
          here domain workflow place (inl same) =
              subst (λ (n : ℕ). Applied n v domain workflow) (sym same)
              (applied-still shard domain workflow middle v rest.home (ap (learned_of domain workflow) (rest.cells shard (λ among. apart shard among refl))) (first.applied domain workflow shard (inl refl)))
          here domain workflow place (inr among) = rest.applied domain workflow place among

-- all shards, after all that was in flight
work-applied : (header : Header) (lines : ℕ) (cluster : ClusterNo) (w : World) → 0 < header.shards → IsCluster header cluster → lines < 100000 → IsReached header lines w
    → (domain workflow : Name) → HasApplied (home_at header cluster (worked header cluster w).world) domain workflow (cell_of header cluster domain workflow (worked header cluster w).world)
unfolding worked reapplied_all renewed
work-applied header lines cluster w some known most is domain workflow =
    subst (λ (v : World). HasApplied (home_at header cluster v) domain workflow (cell_of header cluster domain workflow v)) (sym (done-world header cluster (all_reapply header) (flights_arrived header cluster w)))
    (round.applied domain workflow (shard_of domain workflow header.shards) (range-among 0 header.shards (shard_of domain workflow header.shards) (shard_of domain workflow header.shards) (shard-below domain workflow header.shards some) (omega arith)))
  where
    start : World
    start = (flights_arrived header cluster w).world

    before : IsReached header lines start
    before = flights_kept header lines cluster w known is

    round : IsRound header (lines + 1) (applying-kept header (lines + 1)) cluster known (shards_of header) start (world_after header cluster (map reapplies (shards_of header)) start)
    round =
        rounds header (lines + 1) (applying-kept header (lines + 1)) cluster known (shards_of header) (range-rises 0 header.shards)
        (all-from (λ shard. shard < header.shards) (shards_of header) (λ shard among. omega (arith, range-below 0 header.shards shard among))) start (more-lines header lines start most before)
        (λ d u among. omega (arith, room-for header lines start before d u))

-- a cluster that may work has worked then
pub work_leaves : (header : Header) (lines : ℕ) (cluster : ClusterNo) (w : World) → 0 < header.shards → IsCluster header cluster → lines < 100000 → IsReached header lines w → HasWorked header cluster (worked header cluster w).world
work_leaves header lines cluster w some known most is = record {
  flight = work-flight header cluster w;
  waiting = λ shard below. waits-for-ancestors header (lines + 1) (worked header cluster w).world cluster shard (work_kept header lines cluster w known most (applying-kept header (lines + 1)) is) known below;
  applied = work-applied header lines cluster w some known most is;
}

-- so it has after each line `work` of a script
pub work_line : (header : Header) (front back : List Line) (number : ℕ) (cluster : ClusterNo) → IsWellFormed (script_of header (front ++ line number (act.Work cluster) ∷ back))
    → HasWorked header cluster (act_step header (act.Work cluster) (world_before header front)).world
unfolding act_step
work_line header front back number cluster is =
    let r = runs-reached header front back (line number (act.Work cluster)) is in
    let least = is.header.shards_least in
    work_leaves header r.lines cluster (world_before header front) (omega (arith, least)) r.fit r.most r.reached
