-- Strays may be applied again, in one workflow after the other.
use Rattle.std.proofs.Common.{◌≡◌, ℕ, ◌<◌, ◌≤◌, ◌+◌, ◌*◌, Bool, true, false, List, [], ◌∷◌, length, map, inl, inr, Option, Some, None, Result, Ok, Err, refl, sym, ◌∙◌, subst, ap, arith}
use Rattle.std.specs.List.{AllByRecursion}
use Rattle.ndc_script_types.specs.WellFormed.{IsCluster}
use Rattle.ndc_script_types.specs.declared.script.Header.{Header}
use Rattle.ndc_model_cells.specs.declared.job.Job.TheVariants.{Reapply}
use Rattle.ndc_model_cells.specs.Cells.{Cell, learned_of}
use Rattle.ndc_model_cells.specs.Jobs.{workflows_of}
use Rattle.ndc_model_cells.specs.Places.{is_of}
use Rattle.ndc_model_cells.specs.Shards.{shard_of}
use Rattle.ndc_model_cells.specs.Writing.{Entry, Desk, may_write, reapplication_below, reapplication_by, reapplication_of}
use Rattle.ndc_command.specs.declared.refusal.Refusal.{Refusal}
use Rattle.ndc_domain.specs.declared.clusters.ClusterNo.{ClusterNo}
use Rattle.ndc_event.specs.declared.batch.Batch.{Batch}
use Rattle.ndc_event.specs.declared.name.Name.{Name}
use Rattle.ndc_laws_reached.proofs.BringLemmas.{world_after}
use Rattle.ndc_laws_reached.proofs.ManyLemmas.{range-below}
use Rattle.ndc_laws_reached.proofs.WrittenLemmas.{arrived-written, lives, names-of}
use Rattle.ndc_laws_reached.proofs.FrameLemmas.{tables_in}
use Rattle.ndc_laws_reached.specs.Writing.{ApplyingKeeps, applied_in, cell_applied, count_in}
use Rattle.ndc_laws_reached.proofs.ApplyLemmas.{applied_all, cell-put, one-shard, reapplies}
use Rattle.ndc_laws_reached.proofs.OwnLemmas.{AreApart, Rise, apart-flip, idle-applied, owns, range-rises, workflows-among, workflows-apart}
use Rattle.ndc_laws_reached.proofs.RoundLemmas.{applied-tables, has-cell, owns-same}
use Rattle.ndc_laws_reached.proofs.WriterLemmas.{WritesWith, are-few, may-add, may-parts}
use Rattle.ndc_model.specs.Facts.{IsReached}
use Rattle.ndc_model.specs.Fair.{written_of}
use Rattle.ndc_model.specs.Moves.{all_reapply}
use Rattle.ndc_model.specs.World.{World, cell_at, home_at, shards_of}
use Rattle.ndc_model.specs.Conditions.{MayDoAll}
use Rattle.ndc_model_sets.specs.Branches.{workflow_tip}
use Rattle.ndc_model_sets.specs.Current.{strays}
use Rattle.ndc_model_sets.proofs.Lists.{Among, all-among, all-from}
use Rattle.ndc_model_cells.specs.Allowed.{HasRoom, IsAllowed, MayReapply, MayWriteAll}
use Rattle.ndc_laws_cells.proofs.MayLemmas.{tip-all}
use Rattle.ndc_laws_cells.proofs.ReapplyLemmas.{reapplication-writes}
use Rattle.ndc_laws_jobs.proofs.ComeLemmas.{allowed-more}
use Rattle.ndc_laws_jobs.proofs.EntryLemmas.{entry-may}
use Rattle.ndc_laws_jobs.proofs.RoomLemmas.{has-room}
use Rattle.ndc_laws_reached.proofs.WorkflowApplyLemmas.{tip-names}

-- one workflow
module _ (header : Header) (lines : ℕ) (w : World) (is : IsReached header lines w) (cluster : ClusterNo) (known : IsCluster header cluster) (b : Batch)
    (below : shard_of b.domain b.workflow header.shards < header.shards) where
  abbrev at : ℕ
  at = shard_of b.domain b.workflow header.shards

  abbrev cell : Cell
  cell = cell_at cluster at w

  abbrev home : Desk
  home = home_at header cluster w

  abbrev all : List Batch
  all = written_of header b.domain b.workflow w

  abbrev part : List Batch
  part = learned_of b.domain b.workflow cell

  apply-may : MayWriteAll b.domain b.workflow (reapplication_of (home_at header cluster w) b.domain b.workflow (cell_at cluster (shard_of b.domain b.workflow header.shards) w)) (cell_at cluster (shard_of b.domain b.workflow header.shards) w)
  unfolding reapplication_of
  apply-may = by (may_write home b.domain b.workflow cell) refl
    where
      entries-may : (version : ℕ) → WritesWith home b.domain part version → (tip : Batch) → workflow_tip part ≡ Some tip → (entries : List Entry)
          → reapplication_below b.domain b.workflow version (Some tip) part (strays part) ≡ entries → MayWriteAll b.domain b.workflow entries cell
      entries-may version with tip found [] e = tt
      entries-may version with tip found (entry ∷ others) e =
          let may = may-add header lines w is cluster known b.domain b.workflow below version with in
          let n = tip-names header lines w is b tip (tip-all all part version may tip found) in
          let r = reapplication-writes all part version may (are-few header lines w is cluster known b.domain b.workflow below version with) b.domain b.workflow n.0 n.1 (Some tip) found (strays part) refl entry others e in
          subst (λ (l : List Entry). MayWriteAll b.domain b.workflow (entry ∷ l) cell) (sym r.0) (entry-may header lines w is cluster known b.domain b.workflow below version 0 entry with.by_record r.2, tt)

      below-tip : (version : ℕ) → WritesWith home b.domain part version → (o : Option Batch) → workflow_tip part ≡ o → MayWriteAll b.domain b.workflow (reapplication_below b.domain b.workflow version o part (strays part)) cell
      below-tip version with None found = tt
      below-tip version with (Some tip) found = entries-may version with tip found (reapplication_below b.domain b.workflow version (Some tip) part (strays part)) refl

      by : (r : Result ℕ Refusal) → may_write home b.domain b.workflow cell ≡ r → MayWriteAll b.domain b.workflow (reapplication_by b.domain b.workflow r part) cell
      by (Ok version) m = below-tip version (may-parts home b.domain b.workflow cell version m) (workflow_tip part) refl
      by (Err why) m = tt

module _ (header : Header) (lines : ℕ) (keeps : ApplyingKeeps header lines) (cluster : ClusterNo) (known : IsCluster header cluster) where
  -- there is room for one batch more in a workflow, where the cluster writes to it
  abbrev Room : World → Name → Name → Type 0
  Room w domain workflow = owns header cluster w domain ≡ true → count_in header domain workflow w + 1 ≤ 2 * lines

  -- a world after some reapplication: it is as it should be, its tables are the same, and nothing more is written of some workflows
  record Leaves (same : Name → Name → Type 0) (w v : World) : Type 0 where
    reached : IsReached header lines v
    tables : tables_in v ≡ tables_in w
    rest : (domain workflow : Name) → same domain workflow → written_of header domain workflow v ≡ written_of header domain workflow w

  -- there is room still in the workflows of which nothing more is written
  room-still : (same : Name → Name → Type 0) (w v : World) → Leaves same w v → (domain workflow : Name) → same domain workflow → Room w domain workflow → Room v domain workflow
  room-still same w v leaves domain workflow other room owned =
      subst (λ (written : List Batch). length written + 1 ≤ 2 * lines) (sym (leaves.rest domain workflow other)) (room (sym (owns-same header cluster domain v w leaves.tables) ∙ owned))

  -- the other workflows
  abbrev Others : Batch → Name → Name → Type 0
  Others b domain workflow = is_of domain workflow b ≡ false

  -- one workflow
  one-leaves : (shard : ℕ) → shard < header.shards → (b : Batch) → shard_of b.domain b.workflow header.shards ≡ shard → (w : World) → IsReached header lines w → Room w b.domain b.workflow
      → Leaves (Others b) w (applied_in header cluster shard b w)
  one-leaves shard below b live w is room = by (owns header cluster w b.domain) refl
    where
      by : (t : Bool) → owns header cluster w b.domain ≡ t → Leaves (Others b) w (applied_in header cluster shard b w)
      by true mine = let a = keeps cluster shard b w known below live is (room mine) in record { reached = a.reached; tables = applied-tables header cluster shard b w; rest = a.others }
      by false never =
          subst (Leaves (Others b) w) (sym (idle-applied header cluster shard b w never)) (record { reached = is; tables = refl; rest = λ domain workflow other. refl })

  one-may : (shard : ℕ) → shard < header.shards → (b : Batch) → shard_of b.domain b.workflow header.shards ≡ shard → (w : World) → IsReached header lines w
      → HasRoom (learned_of b.domain b.workflow (cell_at cluster shard w))
      × MayWriteAll b.domain b.workflow (reapplication_of (home_at header cluster w) b.domain b.workflow (cell_at cluster shard w)) (cell_at cluster shard w)
  one-may shard below b live w is =
      subst (λ (s : ℕ). HasRoom (learned_of b.domain b.workflow (cell_at cluster s w))
      × MayWriteAll b.domain b.workflow (reapplication_of (home_at header cluster w) b.domain b.workflow (cell_at cluster s w)) (cell_at cluster s w)) live
      (has-room header lines w is cluster known b.domain b.workflow there, apply-may header lines w is cluster known b there)
    where
      there : shard_of b.domain b.workflow header.shards < header.shards
      there = subst (λ (s : ℕ). s < header.shards) (sym live) below

  -- the others of a list
  abbrev OthersOf : List Batch → Name → Name → Type 0
  OthersOf bs domain workflow = AllByRecursion (λ b. is_of domain workflow b ≡ false) bs

  -- the workflows of a shard, one after the other
  workflows-may : (shard : ℕ) → shard < header.shards → (bs : List Batch) → AreApart bs → AllByRecursion (λ b. shard_of b.domain b.workflow header.shards ≡ shard) bs → (w : World) → IsReached header lines w
      → AllByRecursion (λ b. Room w b.domain b.workflow) bs
      → MayReapply (home_at header cluster w) bs (cell_at cluster shard w) × Leaves (OthersOf bs) w (applied_all header cluster shard bs w)
  workflows-may shard below [] apart live w is room = (tt, record { reached = is; tables = refl; rest = λ domain workflow other. refl })
  workflows-may shard below (b ∷ bs) apart live w is room =
      joined (workflows-may shard below bs apart.1 live.1 (applied_in header cluster shard b w) first.reached (still bs apart.0 room.1))
    where
      v : World
      v = applied_in header cluster shard b w

      first : Leaves (Others b) w (applied_in header cluster shard b w)
      first = one-leaves shard below b live.0 w is room.0

      still : (list : List Batch) → AllByRecursion (λ other. is_of b.domain b.workflow other ≡ false) list → AllByRecursion (λ o. Room w o.domain o.workflow) list
          → AllByRecursion (λ o. Room (applied_in header cluster shard b w) o.domain o.workflow) list
      still [] none rooms = tt
      still (o ∷ list) none rooms = (room-still (Others b) w (applied_in header cluster shard b w) first o.domain o.workflow (apart-flip b o none.0) rooms.0, still list none.1 rooms.1)

      home-same : home_at header cluster v ≡ home_at header cluster w
      home-same = λ i. record { clusters = header.clusters; me = cluster; limit = header.limit; table = applied-tables header cluster shard b w i cluster }

      cell-is : cell_at cluster shard v ≡ cell_applied header cluster shard b w
      cell-is = cell-put cluster shard w (has-cell header lines keeps cluster known w is shard below) (cell_applied header cluster shard b w)

      joined : MayReapply (home_at header cluster v) bs (cell_at cluster shard v) × Leaves (OthersOf bs) v (applied_all header cluster shard bs v)
          → MayReapply (home_at header cluster w) (b ∷ bs) (cell_at cluster shard w) × Leaves (OthersOf (b ∷ bs)) w (applied_all header cluster shard (b ∷ bs) w)
      joined rest =
          let one = one-may shard below b live.0 w is in (
            (one.0, one.1, subst (λ (h : Desk). MayReapply h bs (cell_applied header cluster shard b w)) home-same (subst (MayReapply (home_at header cluster v) bs) cell-is rest.0)),
            record {
              reached = rest.1.reached;
              tables = rest.1.tables ∙ first.tables;
              rest = λ domain workflow other. rest.1.rest domain workflow other.1 ∙ first.rest domain workflow other.0;
            },
          )

  -- the workflows of other shards
  abbrev InOthers : ℕ → Name → Name → Type 0
  InOthers shard domain workflow = shard_of domain workflow header.shards ≡ shard → ⊥

  -- one shard
  shard-may : (shard : ℕ) → shard < header.shards → (w : World) → IsReached header lines w → ((domain workflow : Name) → shard_of domain workflow header.shards ≡ shard → Room w domain workflow)
      → IsAllowed (home_at header cluster w) Reapply (cell_at cluster shard w) × Leaves (InOthers shard) w (world_after header cluster (reapplies shard ∷ []) w)
  shard-may shard below w is room = (
    done.0,
    subst (Leaves (InOthers shard) w) (sym (one-shard header cluster shard w (has-cell header lines keeps cluster known w is shard below)))
        (record { reached = done.1.reached; tables = done.1.tables; rest = λ domain workflow other. done.1.rest domain workflow (all-from (λ b. is_of domain workflow b ≡ false) bs (λ b among. never domain workflow other b among (is_of domain workflow b) refl)) }),
  )
    where
      bs : List Batch
      bs = workflows_of (cell_at cluster shard w).arrived

      live : (b : Batch) → Among b (workflows_of (cell_at cluster shard w).arrived) → shard_of b.domain b.workflow header.shards ≡ shard
      live b among = lives header lines w is shard below b (arrived-written header lines w is shard below cluster known b (workflows-among (cell_at cluster shard w).arrived b among))

      never : (domain workflow : Name) → InOthers shard domain workflow → (b : Batch) → Among b bs → (t : Bool) → is_of domain workflow b ≡ t → t ≡ false
      never domain workflow other b among true e =
          let n = names-of domain workflow b e in
          absurd (other (ap (λ (d : Name). shard_of d workflow header.shards) (sym n.0) ∙ ap (λ (u : Name). shard_of b.domain u header.shards) (sym n.1) ∙ live b among))
      never domain workflow other b among false e = refl

      done : MayReapply (home_at header cluster w) bs (cell_at cluster shard w) × Leaves (OthersOf bs) w (applied_all header cluster shard bs w)
      done = workflows-may shard below bs (workflows-apart (cell_at cluster shard w).arrived) (all-from (λ b. shard_of b.domain b.workflow header.shards ≡ shard) bs live) w is
          (all-from (λ b. Room w b.domain b.workflow) bs (λ b among. room b.domain b.workflow (live b among)))

  -- many shards
  shards-may : (shards : List ℕ) → Rise shards → AllByRecursion (λ shard. shard < header.shards) shards → (w : World) → IsReached header lines w
      → ((domain workflow : Name) → Among (shard_of domain workflow header.shards) shards → Room w domain workflow) → MayDoAll IsAllowed header cluster (map reapplies shards) w
  shards-may [] rise below w is room = tt
  shards-may (shard ∷ shards) rise below w is room =
      let first = shard-may shard below.0 w is (λ domain workflow same. room domain workflow (inl same)) in
      allowed-more header cluster w is.shaped known (reapplies shard) (map reapplies shards) first.0
      (shards-may shards rise.1 below.1 (world_after header cluster (reapplies shard ∷ []) w) first.1.reached
      (λ domain workflow among. room-still (InOthers shard) w (world_after header cluster (reapplies shard ∷ []) w) first.1 domain workflow
      (λ same. let less : shard < shard_of domain workflow header.shards = all-among (λ more. shard < more) shards (shard_of domain workflow header.shards) rise.0 among in omega (arith, less, same))
      (room domain workflow (inr among))))

  -- a cluster may apply its strays again, where there is room for one batch more in each workflow to which it writes
  pub reapply-allowed : (w : World) → IsReached header lines w → ((domain workflow : Name) → owns header cluster w domain ≡ true → count_in header domain workflow w + 1 ≤ 2 * lines) → MayDoAll IsAllowed header cluster (all_reapply header) w
  reapply-allowed w is room =
      shards-may (shards_of header) (range-rises 0 header.shards)
      (all-from (λ shard. shard < header.shards) (shards_of header) (λ shard among. omega (arith, range-below 0 header.shards shard among))) w is (λ domain workflow among. room domain workflow)
