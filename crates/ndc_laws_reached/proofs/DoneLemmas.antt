-- A round of reapplication in which each writer has learned all that was written: after it nothing is to be applied again.
use Rattle.std.proofs.Common.{◌≡◌, ℕ, ◌+◌, ◌*◌, ◌<◌, ◌≤◌, Bool, true, false, ◌&&◌, if◌then◌else◌, List, [], ◌∷◌, length, slice_index_or, slice_set, Option, Some, None, Result, Ok, Err, ◌⊎◌, inl, inr, refl, sym, ◌∙◌, subst, ap, true≢false}
use Rattle.std.specs.Prelude.{not}
use Rattle.std.specs.Str.{bytes_eq}
use Rattle.ndc_script_types.specs.WellFormed.{IsCluster}
use Rattle.ndc_script_types.specs.declared.script.Header.{Header}
use Rattle.ndc_model_cells.specs.Cells.{empty_cell, learned_of}
use Rattle.ndc_model_cells.specs.Jobs.{cell_for, workflows_of}
use Rattle.ndc_model_cells.specs.Places.{is_of}
use Rattle.ndc_model_cells.specs.Shards.{shard_of}
use Rattle.ndc_model_cells.specs.Writing.{Entry, alone, may_write, reapplication_below, reapplication_by, reapplication_of, with_all_written}
use Rattle.ndc_model_cells.proofs.CellLemmas.{others_learned}
use Rattle.ndc_command.specs.declared.refusal.Refusal.{Refusal}
use Rattle.ndc_domain.specs.declared.clusters.ClusterNo.{ClusterNo}
use Rattle.ndc_event.specs.declared.batch.Batch.{Batch}
use Rattle.ndc_event.specs.declared.name.Name.{Name}
use Rattle.ndc_reapply.specs.declared.stray.Stray.{Stray}
use Rattle.ndc_model.specs.Facts.{IsReached}
use Rattle.ndc_model.specs.Fair.{written_of}
use Rattle.ndc_model.specs.World.{World, cell_at, cell_of, cluster_at, home_at, new_cluster}
use Rattle.ndc_model.proofs.WorldLemmas.{cells-cases, set-cases}
use Rattle.ndc_model_sets.specs.Branches.{workflow_tip}
use Rattle.ndc_model_sets.specs.Current.{HasNoStray, NoneWhereOpen, state_to, strays}
use Rattle.ndc_model_sets.proofs.Lists.{Among, among-filter}
use Rattle.ndc_laws_reached.specs.Writing.{ApplyingKeeps, IsApplied, applied_in, cell_applied, count_in, with_cell}
use Rattle.ndc_laws_reached.proofs.FrameLemmas.{tables_in}
use Rattle.ndc_laws_reached.proofs.WrittenLemmas.{names-of, own-names}
use Rattle.ndc_laws_reached.proofs.ApplyLemmas.{same-cell}
use Rattle.ndc_laws_reached.proofs.OwnLemmas.{idle-applied, owns}
use Rattle.ndc_laws_reached.proofs.RoundLemmas.{applied-tables, owns-same}
use Rattle.ndc_laws_reached.proofs.SettleLemmas.{one-owner}
use Rattle.ndc_laws_reached.proofs.TableRound.{OneTable}
use Rattle.ndc_laws_reached.specs.Settled.{ApplyingSettles, IsOwnSettled}
use Rattle.ndc_laws_reached.proofs.WholeLemmas.{owner-may}

-- an entry that is written where a run is open
where-running : (P : List Entry → Type 0) (running : Bool) (entry : Entry) → P [] → P (entry ∷ []) → P (if running then entry ∷ [] else [])
where-running P true entry none one = one
where-running P false entry none one = none

-- it is not written where there are strays only if the run is closed
closed-none : (running : Bool) (entry : Entry) (stray : Stray) (list : List Stray) → (running ≡ true → (stray ∷ list) ≡ []) → (if running then entry ∷ [] else []) ≡ []
closed-none true entry stray list none = absurd (let e : (stray ∷ list) ≡ [] = none refl in cc)
closed-none false entry stray list none = refl

-- what reapplication writes to a workflow: nothing, or one batch of it
reapplied-cases : (P : List Entry → Type 0) (domain workflow : Name) (may : Result ℕ Refusal) (batches : List Batch) → P [] → ((x : Batch) → x.domain ≡ domain → x.workflow ≡ workflow → P (alone x ∷ [])) → P (reapplication_by domain workflow may batches)
reapplied-cases P domain workflow (Err why) batches none one = none
reapplied-cases P domain workflow (Ok version) batches none one = by (workflow_tip batches) (strays batches)
  where
    by : (tip : Option Batch) (list : List Stray) → P (reapplication_below domain workflow version tip batches list)
    by None list = none
    by (Some tip) [] = none
    by (Some tip) (stray ∷ list) = where-running P (state_to tip.run tip.key batches).running _ none (one _ refl refl)

-- where nothing is to be applied again, nothing is written
none-by : (domain workflow : Name) (may : Result ℕ Refusal) (batches : List Batch) → HasNoStray batches → reapplication_by domain workflow may batches ≡ []
none-by domain workflow (Err why) batches none = refl
none-by domain workflow (Ok version) batches none = by (workflow_tip batches) (strays batches) none
  where
    by : (tip : Option Batch) (list : List Stray) → NoneWhereOpen tip batches list → reapplication_below domain workflow version tip batches list ≡ []
    by None list none = refl
    by (Some tip) [] none = refl
    by (Some tip) (stray ∷ list) none = closed-none (state_to tip.run tip.key batches).running _ stray list none

-- what is learned of another workflow stays
applied-others : (header : Header) (cluster : ClusterNo) (shard : ℕ) (b : Batch) (w : World) (domain workflow : Name) → is_of domain workflow b ≡ false
    → learned_of domain workflow (cell_applied header cluster shard b w) ≡ learned_of domain workflow (cell_at cluster shard w)
unfolding reapplication_of
applied-others header cluster shard b w domain workflow other =
    reapplied-cases (λ entries. learned_of domain workflow (with_all_written entries (cell_at cluster shard w)) ≡ learned_of domain workflow (cell_at cluster shard w)) b.domain b.workflow
    (may_write (home_at header cluster w) b.domain b.workflow (cell_at cluster shard w)) (learned_of b.domain b.workflow (cell_at cluster shard w)) refl
    (λ x d u. others_learned domain workflow (alone x) (cell_at cluster shard w)
    (subst (λ (n : Name). (bytes_eq n domain && bytes_eq x.workflow workflow) ≡ false) (sym d) (subst (λ (n : Name). (bytes_eq b.domain domain && bytes_eq n workflow) ≡ false) (sym u) other)) tt)

-- a workflow of which something stands in a list is listed
pub workflows-listed : (bs : List Batch) (domain workflow : Name) (x : Batch) → Among x bs → is_of domain workflow x ≡ true → (b : Batch) × Among b (workflows_of bs) × (is_of domain workflow b ≡ true)
workflows-listed [] domain workflow x none own = absurd none
workflows-listed (c ∷ bs) domain workflow x among own = by (is_of domain workflow c) refl among (λ there. workflows-listed bs domain workflow x there own)
  where
    behind : is_of domain workflow c ≡ false → (b : Batch) × Among b (workflows_of bs) × (is_of domain workflow b ≡ true) → (b : Batch) × Among b (workflows_of (c ∷ bs)) × (is_of domain workflow b ≡ true)
    behind other found = (found.0, inr (among-filter (λ o. not (is_of c.domain c.workflow o)) (workflows_of bs) found.0 (apart (is_of c.domain c.workflow found.0) refl) found.1), found.2)
      where
        apart : (t : Bool) → is_of c.domain c.workflow found.0 ≡ t → not t ≡ true
        apart true e =
            let n = names-of c.domain c.workflow found.0 e in
            let m = names-of domain workflow found.0 found.2 in
            absurd (true≢false (sym (subst (λ (d : Name). is_of d workflow c ≡ true) (sym n.0 ∙ m.0) (subst (λ (u : Name). is_of c.domain u c ≡ true) (sym n.1 ∙ m.1) (own-names c))) ∙ other))
        apart false e = refl

    by : (t : Bool) → is_of domain workflow c ≡ t → Among x (c ∷ bs) → (Among x bs → (b : Batch) × Among b (workflows_of bs) × (is_of domain workflow b ≡ true)) → (b : Batch) × Among b (workflows_of (c ∷ bs)) × (is_of domain workflow b ≡ true)
    by true e among rest = (c, inl refl, e)
    by false e (inl same) rest = absurd (true≢false (sym own ∙ ap (is_of domain workflow) same ∙ e))
    by false e (inr there) rest = behind e (rest there)

-- nothing is to be applied again to a workflow
abbrev pub IsDone : Header → Name → Name → World → Type 0
IsDone header domain workflow w = HasNoStray (written_of header domain workflow w)

-- a world in which each writer has learned all that was written, and each workflow is done or has room for one batch more
pub record IsReady (header : Header) (lines : ℕ) (w : World) : Type 0 where
  pub reached : IsReached header lines w
  pub tables : OneTable header w
  pub learned : (cluster : ClusterNo) → IsCluster header cluster → (domain workflow : Name) → owns header cluster w domain ≡ true
      → learned_of domain workflow (cell_of header cluster domain workflow w) ≡ written_of header domain workflow w
  pub room : (domain workflow : Name) → IsDone header domain workflow w ⊎ (count_in header domain workflow w + 1 ≤ 2 * lines)

-- a world after such a one: what was done is done still
pub record IsOn (header : Header) (lines : ℕ) (w v : World) : Type 0 where
  pub ready : IsReady header lines v
  pub tables : tables_in v ≡ tables_in w
  pub still : (domain workflow : Name) → IsDone header domain workflow w → IsDone header domain workflow v

module _ (header : Header) (lines : ℕ) where
  pub on-none : (w : World) → IsReady header lines w → IsOn header lines w w
  on-none w is = record { ready = is; tables = refl; still = λ domain workflow done. done }

  pub on-then : (u v w : World) → IsOn header lines u v → IsOn header lines v w → IsOn header lines u w
  on-then u v w one two = record { ready = two.ready; tables = two.tables ∙ one.tables; still = λ domain workflow done. two.still domain workflow (one.still domain workflow done) }

  -- a workflow to which nothing was written is done
  pub none-done : (w : World) (domain workflow : Name) → written_of header domain workflow w ≡ [] → IsDone header domain workflow w
  none-done w domain workflow none = subst HasNoStray (sym none) tt

  module _ (cluster : ClusterNo) (known : IsCluster header cluster) (shard : ℕ) (below : shard < header.shards) (b : Batch) (lives_there : shard_of b.domain b.workflow header.shards ≡ shard) (w : World) (is : IsReady header lines w) where
    abbrev v : World
    v = applied_in header cluster shard b w

    whole : owns header cluster w b.domain ≡ true → learned_of b.domain b.workflow (cell_at cluster shard w) ≡ written_of header b.domain b.workflow w
    whole mine = subst (λ (s : ℕ). learned_of b.domain b.workflow (cell_at cluster s w) ≡ written_of header b.domain b.workflow w) lives_there (is.learned cluster known b.domain b.workflow mine)

    -- where the workflow is done nothing is applied
    pub done-applied : owns header cluster w b.domain ≡ true → IsDone header b.domain b.workflow w → v ≡ w
    unfolding reapplication_of
    done-applied mine done =
        ap (λ (entries : List Entry). with_cell cluster shard (with_all_written entries (cell_at cluster shard w)) w)
        (none-by b.domain b.workflow (may_write (home_at header cluster w) b.domain b.workflow (cell_at cluster shard w)) (learned_of b.domain b.workflow (cell_at cluster shard w)) (subst HasNoStray (sym (whole mine)) done))
        ∙ same-cell cluster shard w

    -- what a cell has learned of another workflow stays
    learned-others : (domain workflow : Name) → is_of domain workflow b ≡ false → (other : ClusterNo) (place : ℕ) → learned_of domain workflow (cell_at other place v) ≡ learned_of domain workflow (cell_at other place w)
    learned-others domain workflow apart other place =
        cells-cases (λ c. learned_of domain workflow c ≡ learned_of domain workflow (cell_at other place w)) cluster other place (slice_set (cluster_at cluster w).cells shard (cell_applied header cluster shard b w)) w
        (λ at. set-cases (λ c. learned_of domain workflow c ≡ learned_of domain workflow (cell_at other place w)) (cluster_at cluster w).cells shard place (cell_applied header cluster shard b w) empty_cell
        (λ in_shard. applied-others header cluster shard b w domain workflow apart ∙ ap (λ (n : ℕ). learned_of domain workflow (cell_for shard (slice_index_or w.clusters n (new_cluster 0)).cells)) (sym at)
        ∙ ap (λ (s : ℕ). learned_of domain workflow (cell_at other s w)) (sym in_shard))
        (ap (λ (n : ℕ). learned_of domain workflow (cell_for place (slice_index_or w.clusters n (new_cluster 0)).cells)) (sym at)))
        refl

    tables-same : tables_in v ≡ tables_in w
    tables-same = applied-tables header cluster shard b w

    -- a writer applies what is to be applied
    writes-on : owns header cluster w b.domain ≡ true → IsApplied header lines b w v → IsOwnSettled header cluster b v → IsOn header lines w v
    writes-on mine applied settled = record {
      ready = record {
        reached = applied.reached;
        tables = λ one two here there. (λ i. tables-same i one) ∙ is.tables one two here there ∙ (λ i. sym tables-same i two);
        learned = λ other there domain workflow owned. learned other there domain workflow (sym (owns-same header other domain v w tables-same) ∙ owned) (is_of domain workflow b) refl;
        room = λ domain workflow. room domain workflow (is_of domain workflow b) refl (is.room domain workflow);
      };
      tables = tables-same;
      still = λ domain workflow done. still domain workflow (is_of domain workflow b) refl done;
    }
      where
        own-done : (domain workflow : Name) → is_of domain workflow b ≡ true → IsDone header domain workflow v
        own-done domain workflow e =
            let n = names-of domain workflow b e in
            subst (λ (d : Name). IsDone header d workflow v) n.0 (subst (λ (u : Name). IsDone header b.domain u v) n.1 settled.strays)

        still : (domain workflow : Name) → (t : Bool) → is_of domain workflow b ≡ t → IsDone header domain workflow w → IsDone header domain workflow v
        still domain workflow true e done = own-done domain workflow e
        still domain workflow false e done = subst HasNoStray (sym (applied.others domain workflow e)) done

        room : (domain workflow : Name) → (t : Bool) → is_of domain workflow b ≡ t → IsDone header domain workflow w ⊎ (count_in header domain workflow w + 1 ≤ 2 * lines)
            → IsDone header domain workflow v ⊎ (count_in header domain workflow v + 1 ≤ 2 * lines)
        room domain workflow true e before = inl (own-done domain workflow e)
        room domain workflow false e (inl done) = inl (subst HasNoStray (sym (applied.others domain workflow e)) done)
        room domain workflow false e (inr left) = inr (subst (λ (l : List Batch). length l + 1 ≤ 2 * lines) (sym (applied.others domain workflow e)) left)

        learned : (other : ClusterNo) → IsCluster header other → (domain workflow : Name) → owns header other w domain ≡ true → (t : Bool) → is_of domain workflow b ≡ t
            → learned_of domain workflow (cell_of header other domain workflow v) ≡ written_of header domain workflow v
        learned other there domain workflow owned true e =
            let n = names-of domain workflow b e in
            let same : cluster.number ≡ other.number = one-owner header w is.tables cluster other known there domain (subst (λ (d : Name). owns header cluster w d ≡ true) n.0 mine) owned in
            subst (λ (k : ℕ). learned_of domain workflow (cell_of header (record { number = k }) domain workflow v) ≡ written_of header domain workflow v) same
            (subst (λ (d : Name). learned_of d workflow (cell_of header cluster d workflow v) ≡ written_of header d workflow v) n.0
            (subst (λ (u : Name). learned_of b.domain u (cell_of header cluster b.domain u v) ≡ written_of header b.domain u v) n.1 settled.learned))
        learned other there domain workflow owned false e =
            learned-others domain workflow e other (shard_of domain workflow header.shards) ∙ is.learned other there domain workflow owned ∙ sym (applied.others domain workflow e)

    -- one reapplication: after that of a writer the workflow is done
    pub step-on : ApplyingKeeps header lines → ApplyingSettles header lines → IsOn header lines w v × (owns header cluster w b.domain ≡ true → IsDone header b.domain b.workflow v)
    step-on keeps settles = by (owns header cluster w b.domain) refl
      where
        same-on : v ≡ w → IsOn header lines w v
        same-on same = subst (IsOn header lines w) (sym same) (on-none w is)

        writer : owns header cluster w b.domain ≡ true → IsDone header b.domain b.workflow w ⊎ (count_in header b.domain b.workflow w + 1 ≤ 2 * lines)
            → IsOn header lines w v × (owns header cluster w b.domain ≡ true → IsDone header b.domain b.workflow v)
        writer mine (inl done) = (same-on (done-applied mine done), λ _. subst (IsDone header b.domain b.workflow) (sym (done-applied mine done)) done)
        writer mine (inr left) =
            let may = owner-may header lines w is.reached is.tables cluster known b.domain b.workflow shard below lives_there mine (whole mine) in
            let settled = settles cluster shard b w may.0 known below lives_there is.reached (whole mine) may.1 left in
            (writes-on mine (keeps cluster shard b w known below lives_there is.reached left) settled, λ _. settled.strays)

        by : (t : Bool) → owns header cluster w b.domain ≡ t → IsOn header lines w v × (owns header cluster w b.domain ≡ true → IsDone header b.domain b.workflow v)
        by true e = writer e (is.room b.domain b.workflow)
        by false e = (same-on (idle-applied header cluster shard b w e), λ mine. absurd (true≢false (sym mine ∙ e)))
