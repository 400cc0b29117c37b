-- A round of reapplication at one cluster: to each workflow at most one batch is written.
use Rattle.std.proofs.Common.{◌≡◌, ℕ, zero, suc, ◌+◌, ◌*◌, ◌<◌, ◌≤◌, Bool, true, false, List, [], ◌∷◌, length, map, slice_index_or, inl, inr, refl, sym, ◌∙◌, subst, ap, arith, true≢false}
use Rattle.std.specs.List.{AllByRecursion}
use Rattle.std.specs.Prelude.{◌==◌}
use Rattle.std.proofs.lemmas.Bool.{eqb-true, eq-eqb}
use Rattle.ndc_script_types.specs.WellFormed.{IsCluster}
use Rattle.ndc_script_types.specs.declared.script.Header.{Header}
use Rattle.ndc_model_cells.specs.Jobs.{cells_after, workflows_of}
use Rattle.ndc_model_cells.specs.Places.{is_of}
use Rattle.ndc_model_cells.specs.Shards.{shard_of}
use Rattle.ndc_domain.specs.Records.{record_of}
use Rattle.ndc_domain.specs.declared.clusters.ClusterNo.{ClusterNo}
use Rattle.ndc_domain.specs.declared.record.DomainRecord.{DomainRecord}
use Rattle.ndc_event.specs.declared.batch.Batch.{Batch}
use Rattle.ndc_event.specs.declared.name.Name.{Name}
use Rattle.ndc_model.specs.Facts.{IsReached}
use Rattle.ndc_model.specs.Fair.{written_of}
use Rattle.ndc_model.specs.Moves.{Trace, all_reapply, reapplied_all}
use Rattle.ndc_model.specs.World.{Cluster, World, cell_at, cluster_at, new_cluster, shards_of}
use Rattle.ndc_model.proofs.WorldLemmas.{same-cells, set-cases}
use Rattle.ndc_model_sets.proofs.Lists.{Among, all-among, all-from}
use Rattle.ndc_laws_reached.specs.Writing.{ApplyingKeeps, IsApplied, applied_in, count_in}
use Rattle.ndc_laws_reached.proofs.FrameLemmas.{tables_in}
use Rattle.ndc_laws_reached.proofs.BringLemmas.{after-more, done-world, world_after}
use Rattle.ndc_laws_reached.proofs.ManyLemmas.{range-below}
use Rattle.ndc_laws_reached.proofs.WrittenLemmas.{arrived-written, lives, names-of}
use Rattle.ndc_laws_reached.proofs.ApplyLemmas.{HasCell, applied_all, one-shard, reapplies}
use Rattle.ndc_laws_reached.proofs.OwnLemmas.{AreApart, Rise, apart-flip, idle-applied, of-both, owns, owns_by, range-rises, workflows-among, workflows-apart}

-- a world after a round of a cluster in some workflows: nothing more is written of other workflows, nor of a domain to
-- which the cluster does not write; one batch more of a workflow at most
pub record IsRound (header : Header) (lines : ℕ) (cluster : ClusterNo) (touched : Name → Name → Type 0) (w v : World) : Type 0 where
  pub reached : IsReached header lines v
  pub tables : tables_in v ≡ tables_in w
  pub rest : (domain workflow : Name) → (touched domain workflow → ⊥) → written_of header domain workflow v ≡ written_of header domain workflow w
  pub strange : (domain workflow : Name) → owns header cluster w domain ≡ false → written_of header domain workflow v ≡ written_of header domain workflow w
  pub most : (domain workflow : Name) → count_in header domain workflow v ≤ count_in header domain workflow w + 1

-- a reapplication leaves all tables
pub applied-tables : (header : Header) (cluster : ClusterNo) (shard : ℕ) (b : Batch) (w : World) → tables_in (applied_in header cluster shard b w) ≡ tables_in w
applied-tables header cluster shard b w = λ i other. same other i
  where
    same : (other : ClusterNo) → tables_in (applied_in header cluster shard b w) other ≡ tables_in w other
    same other =
        set-cases (λ (c : Cluster). c.table ≡ (cluster_at other w).table) w.clusters cluster.number other.number _ (new_cluster 0)
        (λ at. ap (λ (n : ℕ). (slice_index_or w.clusters n (new_cluster 0)).table) (sym at)) refl

-- who writes is the same where tables are
pub owns-same : (header : Header) (cluster : ClusterNo) (domain : Name) (v w : World) → tables_in v ≡ tables_in w → owns header cluster v domain ≡ owns header cluster w domain
owns-same header cluster domain v w tables = ap (λ (t : ClusterNo → List DomainRecord). owns_by cluster header.clusters (record_of (t cluster) domain)) tables

module _ (header : Header) (lines : ℕ) (keeps : ApplyingKeeps header lines) (cluster : ClusterNo) (known : IsCluster header cluster) where
  -- one of these batches is of a workflow
  abbrev OfOne : List Batch → Name → Name → Type 0
  OfOne bs domain workflow = (b : Batch) × Among b bs × (is_of domain workflow b ≡ true)

  -- there is room for one batch more in a workflow, where the cluster writes to it
  abbrev Room : World → Name → Name → Type 0
  Room w domain workflow = owns header cluster w domain ≡ true → count_in header domain workflow w + 1 ≤ 2 * lines

  round-none : (touched : Name → Name → Type 0) (w : World) → IsReached header lines w → IsRound header lines cluster touched w w
  round-none touched w is = record { reached = is; tables = refl; rest = λ domain workflow never. refl; strange = λ domain workflow never. refl; most = λ domain workflow. omega arith }

  -- one workflow, and the others after it
  module _ (shard : ℕ) (below : shard < header.shards) (b : Batch) (bs : List Batch) (w : World) (is : IsReached header lines w) (apart : AllByRecursion (λ other. is_of b.domain b.workflow other ≡ false) bs) where
    abbrev middle : World
    middle = applied_in header cluster shard b w

    -- nothing of a workflow is written after its own turn
    own-rest : (domain workflow : Name) (v : World) → IsRound header lines cluster (OfOne bs) middle v → is_of domain workflow b ≡ true → written_of header domain workflow v ≡ written_of header domain workflow middle
    own-rest domain workflow v round own =
        round.rest domain workflow
        (λ one. true≢false (sym (of-both domain workflow b one.0 own one.2) ∙ all-among (λ other. is_of b.domain b.workflow other ≡ false) bs one.0 apart one.1))

    then-rest : (v : World) → owns header cluster w b.domain ≡ true → IsApplied header lines b w middle → IsRound header lines cluster (OfOne bs) middle v → IsRound header lines cluster (OfOne (b ∷ bs)) w v
    then-rest v mine applied round = record {
      reached = round.reached;
      tables = round.tables ∙ applied-tables header cluster shard b w;
      rest = λ domain workflow never. by domain workflow never (is_of domain workflow b) refl;
      strange = λ domain workflow never. other-domain domain workflow never (is_of domain workflow b) refl;
      most = λ domain workflow. count domain workflow (is_of domain workflow b) refl;
    }
      where
        by : (domain workflow : Name) → (OfOne (b ∷ bs) domain workflow → ⊥) → (t : Bool) → is_of domain workflow b ≡ t → written_of header domain workflow v ≡ written_of header domain workflow w
        by domain workflow never true e = absurd (never (b, inl refl, e))
        by domain workflow never false e = round.rest domain workflow (λ one. never (one.0, inr one.1, one.2)) ∙ applied.others domain workflow e

        other-domain : (domain workflow : Name) → owns header cluster w domain ≡ false → (t : Bool) → is_of domain workflow b ≡ t → written_of header domain workflow v ≡ written_of header domain workflow w
        other-domain domain workflow never true e = absurd (true≢false (sym (subst (λ (d : Name). owns header cluster w d ≡ true) ((names-of domain workflow b e).0) mine) ∙ never))
        other-domain domain workflow never false e =
            round.strange domain workflow (owns-same header cluster domain middle w (applied-tables header cluster shard b w) ∙ never) ∙ applied.others domain workflow e

        count : (domain workflow : Name) → (t : Bool) → is_of domain workflow b ≡ t → count_in header domain workflow v ≤ count_in header domain workflow w + 1
        count domain workflow true e =
            let n = names-of domain workflow b e in
            let own : count_in header domain workflow middle ≤ count_in header domain workflow w + 1 =
            subst (λ (d : Name). count_in header d workflow middle ≤ count_in header d workflow w + 1) n.0 (subst (λ (u : Name). count_in header b.domain u middle ≤ count_in header b.domain u w + 1) n.1 applied.own) in
            omega (arith, own, ap (λ (list : List Batch). length list) (own-rest domain workflow v round e))
        count domain workflow false e = omega (arith, round.most domain workflow, ap (λ (list : List Batch). length list) (applied.others domain workflow e))

  -- the workflows of one shard
  workflows-round : (shard : ℕ) → shard < header.shards → (bs : List Batch) → AreApart bs → AllByRecursion (λ b. shard_of b.domain b.workflow header.shards ≡ shard) bs → (w : World) → IsReached header lines w
      → AllByRecursion (λ b. Room w b.domain b.workflow) bs → IsRound header lines cluster (OfOne bs) w (applied_all header cluster shard bs w)
  workflows-round shard below [] apart live w is room = round-none (OfOne []) w is
  workflows-round shard below (b ∷ bs) apart live w is room = by (owns header cluster w b.domain) refl (workflows-round shard below bs apart.1 live.1)
    where
      by : (t : Bool) → owns header cluster w b.domain ≡ t
          → ((v : World) → IsReached header lines v → AllByRecursion (λ b. Room v b.domain b.workflow) bs → IsRound header lines cluster (OfOne bs) v (applied_all header cluster shard bs v))
          → IsRound header lines cluster (OfOne (b ∷ bs)) w (applied_all header cluster shard bs (applied_in header cluster shard b w))
      by false never more =
          let r = more w is room.1 in
          subst (λ (v : World). IsRound header lines cluster (OfOne (b ∷ bs)) w (applied_all header cluster shard bs v)) (sym (idle-applied header cluster shard b w never))
          (record { reached = r.reached; tables = r.tables; rest = λ domain workflow none. r.rest domain workflow (λ one. none (one.0, inr one.1, one.2)); strange = r.strange; most = r.most })
      by true mine more =
          let applied = keeps cluster shard b w known below live.0 is (room.0 mine) in
          then-rest shard below b bs w is apart.0 (applied_all header cluster shard bs (applied_in header cluster shard b w)) mine applied
          (more (applied_in header cluster shard b w) applied.reached (still bs apart.0 room.1))
        where
          still : (list : List Batch) → AllByRecursion (λ other. is_of b.domain b.workflow other ≡ false) list → AllByRecursion (λ o. Room w o.domain o.workflow) list
              → AllByRecursion (λ o. Room (applied_in header cluster shard b w) o.domain o.workflow) list
          still [] none all = tt
          still (o ∷ list) none all = (
            λ owned. let same = (keeps cluster shard b w known below live.0 is (room.0 mine)).others o.domain o.workflow (apart-flip b o none.0) in
                subst (λ (written : List Batch). length written + 1 ≤ 2 * lines) (sym same)
                (all.0 (sym (owns-same header cluster o.domain (applied_in header cluster shard b w) w (applied-tables header cluster shard b w)) ∙ owned)),
            still list none.1 all.1,
          )

  -- there is a cell for each shard
  pub has-cell : (w : World) → IsReached header lines w → (shard : ℕ) → shard < header.shards → HasCell cluster shard w
  has-cell w is shard below = record { cluster_below = within; shard_below = omega (arith, below, cells-many w.clusters cluster.number is.shaped.cells within) }
    where
      within : cluster.number < length w.clusters
      within = omega (arith, known, is.shaped.clusters)

      cells-many : (clusters : List Cluster) (i : ℕ) → AllByRecursion (λ c. length c.cells ≡ header.shards) clusters → i < length clusters → length (slice_index_or clusters i (new_cluster 0)).cells ≡ header.shards
      cells-many [] i all less = absurd (omega (arith, less))
      cells-many (c ∷ cs) zero all less = all.0
      cells-many (c ∷ cs) (suc i) all less = cells-many cs i all.1 (omega (arith, less))

  -- one shard
  shard-round : (shard : ℕ) → shard < header.shards → (w : World) → IsReached header lines w → ((domain workflow : Name) → shard_of domain workflow header.shards ≡ shard → Room w domain workflow)
      → IsRound header lines cluster (λ domain workflow. shard_of domain workflow header.shards ≡ shard) w (world_after header cluster (reapplies shard ∷ []) w)
  shard-round shard below w is room =
      subst (IsRound header lines cluster (λ domain workflow. shard_of domain workflow header.shards ≡ shard) w) (sym (one-shard header cluster shard w (has-cell w is shard below)))
      (record {
        reached = round.reached;
        tables = round.tables;
        rest = λ domain workflow never. round.rest domain workflow
            (λ one. let n = names-of domain workflow one.0 one.2 in
            never (ap (λ (d : Name). shard_of d workflow header.shards) (sym n.0) ∙ ap (λ (u : Name). shard_of (one.0).domain u header.shards) (sym n.1) ∙ live one.0 one.1));
        strange = round.strange;
        most = round.most;
      })
    where
      bs : List Batch
      bs = workflows_of (cell_at cluster shard w).arrived

      live : (b : Batch) → Among b bs → shard_of b.domain b.workflow header.shards ≡ shard
      live b among = lives header lines w is shard below b (arrived-written header lines w is shard below cluster known b (workflows-among (cell_at cluster shard w).arrived b among))

      round : IsRound header lines cluster (OfOne bs) w (applied_all header cluster shard bs w)
      round =
          workflows-round shard below bs (workflows-apart (cell_at cluster shard w).arrived) (all-from (λ b. shard_of b.domain b.workflow header.shards ≡ shard) bs live) w is
          (all-from (λ b. Room w b.domain b.workflow) bs (λ b among. room b.domain b.workflow (live b among)))

  -- many shards
  shards-round : (shards : List ℕ) → Rise shards → AllByRecursion (λ shard. shard < header.shards) shards → (w : World) → IsReached header lines w
      → ((domain workflow : Name) → Among (shard_of domain workflow header.shards) shards → Room w domain workflow)
      → IsRound header lines cluster (λ domain workflow. Among (shard_of domain workflow header.shards) shards) w (world_after header cluster (map reapplies shards) w)
  unfolding cells_after
  shards-round [] rise below w is room = subst (IsRound header lines cluster (λ domain workflow. ⊥) w) (sym (same-cells cluster w)) (round-none (λ domain workflow. ⊥) w is)
  shards-round (shard ∷ shards) rise below w is room =
      subst (IsRound header lines cluster (λ domain workflow. Among (shard_of domain workflow header.shards) (shard ∷ shards)) w) (after-more header cluster w is.shaped known (reapplies shard) (map reapplies shards))
      (joined (world_after header cluster (map reapplies shards) middle) (shards-round shards rise.1 below.1 middle first.reached still))
    where
      middle : World
      middle = world_after header cluster (reapplies shard ∷ []) w

      first : IsRound header lines cluster (λ domain workflow. shard_of domain workflow header.shards ≡ shard) w middle
      first = shard-round shard below.0 w is (λ domain workflow same. room domain workflow (inl same))

      later : (domain workflow : Name) → Among (shard_of domain workflow header.shards) shards → shard_of domain workflow header.shards ≡ shard → ⊥
      later domain workflow among same = let less : shard < shard_of domain workflow header.shards = all-among (λ more. shard < more) shards (shard_of domain workflow header.shards) rise.0 among in omega (arith, less, same)

      still : (domain workflow : Name) → Among (shard_of domain workflow header.shards) shards → Room middle domain workflow
      still domain workflow among owned =
          subst (λ (written : List Batch). length written + 1 ≤ 2 * lines) (sym (first.rest domain workflow (later domain workflow among)))
          (room domain workflow (inr among) (sym (owns-same header cluster domain middle w first.tables) ∙ owned))

      joined : (v : World) → IsRound header lines cluster (λ domain workflow. Among (shard_of domain workflow header.shards) shards) middle v
          → IsRound header lines cluster (λ domain workflow. Among (shard_of domain workflow header.shards) (shard ∷ shards)) w v
      joined v second = record {
        reached = second.reached;
        tables = second.tables ∙ first.tables;
        rest = λ domain workflow never. second.rest domain workflow (λ among. never (inr among)) ∙ first.rest domain workflow (λ same. never (inl same));
        strange = λ domain workflow never. second.strange domain workflow (owns-same header cluster domain middle w first.tables ∙ never) ∙ first.strange domain workflow never;
        most = λ domain workflow. count domain workflow (shard_of domain workflow header.shards == shard) refl;
      }
        where
          count : (domain workflow : Name) (t : Bool) → (shard_of domain workflow header.shards == shard) ≡ t → count_in header domain workflow v ≤ count_in header domain workflow w + 1
          count domain workflow true e =
              let same : shard_of domain workflow header.shards ≡ shard = eqb-true (shard_of domain workflow header.shards) shard e in
              omega (arith, first.most domain workflow, ap (λ (list : List Batch). length list) (second.rest domain workflow (λ among. later domain workflow among same)))
          count domain workflow false e =
              let other : shard_of domain workflow header.shards ≡ shard → ⊥ = (λ same. true≢false (sym (eq-eqb (shard_of domain workflow header.shards) shard same) ∙ e)) in
              omega (arith, second.most domain workflow, ap (λ (list : List Batch). length list) (first.rest domain workflow other))

  -- all shards: a cluster applies its strays again
  pub reapplied-round : (t : Trace) → IsReached header lines t.world → ((domain workflow : Name) → owns header cluster t.world domain ≡ true → count_in header domain workflow t.world + 1 ≤ 2 * lines)
      → IsRound header lines cluster (λ domain workflow. Among (shard_of domain workflow header.shards) (shards_of header)) t.world (reapplied_all header t cluster).world
  unfolding reapplied_all
  reapplied-round t is room =
      subst (IsRound header lines cluster (λ domain workflow. Among (shard_of domain workflow header.shards) (shards_of header)) t.world) (sym (done-world header cluster (all_reapply header) t))
      (shards-round (shards_of header) (range-rises 0 header.shards)
      (all-from (λ shard. shard < header.shards) (shards_of header) (λ shard among. omega (arith, range-below 0 header.shards shard among))) t.world is (λ domain workflow among. room domain workflow))
