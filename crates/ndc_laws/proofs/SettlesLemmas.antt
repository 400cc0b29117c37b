-- Reapplication by a writer that has learned all settles the workflow.
use Rattle.std.proofs.Common.{◌≡◌, ◌<◌, ◌≤◌, ◌+◌, ◌*◌, ℕ, Bool, true, false, List, [], ◌∷◌, Option, Some, None, Ok, refl, sym, ◌∙◌, subst, ap, arith, true≢false, if◌then◌else◌}
use Rattle.ndc_script_types.specs.WellFormed.{IsCluster}
use Rattle.ndc_script_types.specs.declared.script.Header.{Header}
use Rattle.ndc_model_cells.specs.Cells.{Cell, learned_of}
use Rattle.ndc_model_cells.specs.Shards.{shard_of}
use Rattle.ndc_model_cells.specs.Writing.{Entry, alone, may_write, reapplication_below, reapplication_by, reapplication_of, with_all_written, with_written}
use Rattle.ndc_domain.specs.declared.clusters.ClusterNo.{ClusterNo}
use Rattle.ndc_event.specs.declared.batch.Batch.{Batch}
use Rattle.ndc_laws_reached.specs.Writing.{applied_in, count_in, with_cell}
use Rattle.ndc_laws_reached.specs.Settled.{ApplyingSettles, IsOwnSettled}
use Rattle.ndc_laws_reached.proofs.LandLemmas.{cell-here}
use Rattle.ndc_laws_reached.proofs.MoveLemmas.{Leaves, entry-leaves, same-world}
use Rattle.ndc_laws_reached.proofs.WriterLemmas.{WritesWith, are-few, may-add, may-parts}
use Rattle.ndc_laws.proofs.QuietLemmas.{new, written-learned, written-settled}
use Rattle.ndc_model.specs.Facts.{IsReached}
use Rattle.ndc_model.specs.Fair.{written_of}
use Rattle.ndc_model.specs.World.{World, cell_at, home_at}
use Rattle.ndc_reapply.specs.declared.stray.Stray.{Stray}
use Rattle.ndc_model_sets.specs.Branches.{workflow_tip}
use Rattle.ndc_model_sets.specs.Current.{HasNoStray, NoneWhereOpen, state_to, strays}
use Rattle.ndc_model_sets.specs.Sets.{arrived}
use Rattle.ndc_state.specs.Value.{StateValue}
use Rattle.ndc_laws_cells.specs.Adding.{MayAdd}
use Rattle.ndc_laws_cells.specs.Entries.{AreFew, IsWrite}
use Rattle.ndc_laws_cells.proofs.MayLemmas.{tip-all}
use Rattle.ndc_laws_cells.proofs.ReapplyLemmas.{reapplication-writes}
use Rattle.ndc_laws_reached.proofs.WorkflowApplyLemmas.{tip-names}

module _ (header : Header) (lines : ℕ) (w : World) (is : IsReached header lines w) (cluster : ClusterNo) (known : IsCluster header cluster) (b : Batch)
    (below : shard_of b.domain b.workflow header.shards < header.shards) (version : ℕ)
    (whole : learned_of b.domain b.workflow (cell_at cluster (shard_of b.domain b.workflow header.shards) w) ≡ written_of header b.domain b.workflow w)
    (may : may_write (home_at header cluster w) b.domain b.workflow (cell_at cluster (shard_of b.domain b.workflow header.shards) w) ≡ Ok version)
    (room : count_in header b.domain b.workflow w + 1 ≤ 2 * lines) where
  abbrev at : ℕ
  at = shard_of b.domain b.workflow header.shards

  abbrev cell : Cell
  cell = cell_at cluster at w

  abbrev all : List Batch
  all = written_of header b.domain b.workflow w

  abbrev part : List Batch
  part = learned_of b.domain b.workflow cell

  with : WritesWith (home_at header cluster w) b.domain part version
  with = may-parts (home_at header cluster w) b.domain b.workflow cell version may

  adds : MayAdd all part version
  adds = may-add header lines w is cluster known b.domain b.workflow below version with

  few : AreFew all version
  few = are-few header lines w is cluster known b.domain b.workflow below version with

  -- where nothing is written there is no stray
  unchanged : HasNoStray part → IsOwnSettled header cluster b (with_cell cluster at cell w)
  unchanged none =
      subst (IsOwnSettled header cluster b) (sym (same-world header lines w is cluster known b.domain b.workflow below))
      (record { learned = whole; strays = subst HasNoStray whole none })

  module _ (tip : Batch) (found : workflow_tip part ≡ Some tip) (x : Stray) (list : List Stray) (are : strays part ≡ x ∷ list) where
    abbrev state : StateValue
    state = state_to tip.run tip.key part

    abbrev one : Batch
    one = new header lines w is cluster known b below version with tip found x list are

    abbrev v : World
    v = with_cell cluster at (with_written (alone one) cell) w

    written : IsWrite all part b.domain b.workflow version 0 (alone one) → IsOwnSettled header cluster b v
    written write = record {
      learned = ap (learned_of b.domain b.workflow) (cell-here header w is.shaped cluster known at below (with_written (alone one) cell))
          ∙ written-learned header lines w is cluster known b below version with tip found x list are write ∙ same;
      strays = subst HasNoStray same (written-settled header lines w is cluster known b below version with tip found x list are write);
    }
      where
        leaves : Leaves header lines w is cluster known b.domain b.workflow below (alone one) b.domain b.workflow v
        leaves =
            entry-leaves header lines w is cluster known b.domain b.workflow below version 0 (alone one) with.by_record write (omega (arith, room))
            (let n = is.fair.numbers.written b.domain b.workflow in let m = n.originals_most in omega (arith, m))

        -- what is learned then is what was written
        same : arrived one part ≡ written_of header b.domain b.workflow v
        same = ap (arrived one) whole ∙ sym leaves.own

    applied : IsOwnSettled header cluster b (with_cell cluster at (with_all_written (reapplication_below b.domain b.workflow version (Some tip) part (x ∷ list)) cell) w)
    applied = by state.running refl
      where
        entries : Bool → List Entry
        entries running = if running then alone one ∷ [] else []

        by : (running : Bool) → state.running ≡ running → IsOwnSettled header cluster b (with_cell cluster at (with_all_written (entries state.running) cell) w)
        by true running =
            let n = tip-names header lines w is b tip (tip-all all part version adds tip found) in
            let e : reapplication_below b.domain b.workflow version (Some tip) part (x ∷ list) ≡ alone one ∷ [] = ap entries running in
            let r = reapplication-writes all part version adds few b.domain b.workflow n.0 n.1 (Some tip) found (x ∷ list) are (alone one) [] e in
            subst (λ l. IsOwnSettled header cluster b (with_cell cluster at (with_all_written l cell) w)) (sym (ap entries running)) (written r.2)
        by false closed =
            subst (λ l. IsOwnSettled header cluster b (with_cell cluster at (with_all_written l cell) w)) (sym (ap entries closed))
            (unchanged (subst (λ o. NoneWhereOpen o part (strays part)) (sym found) (λ running. absurd (true≢false (sym running ∙ closed)))))

  own-settled : IsOwnSettled header cluster b (applied_in header cluster at b w)
  unfolding reapplication_of
  own-settled =
      subst (λ r. IsOwnSettled header cluster b (with_cell cluster at (with_all_written (reapplication_by b.domain b.workflow r part) cell) w)) (sym may)
      (by (workflow_tip part) refl (strays part) refl)
    where
      by : (o : Option Batch) → workflow_tip part ≡ o → (list : List Stray) → strays part ≡ list
          → IsOwnSettled header cluster b (with_cell cluster at (with_all_written (reapplication_below b.domain b.workflow version o part list) cell) w)
      by None found list are = unchanged (subst (λ o. NoneWhereOpen o part (strays part)) (sym found) tt)
      by (Some tip) found [] are = unchanged (subst (λ o. NoneWhereOpen o part (strays part)) (sym found) (λ running. are))
      by (Some tip) found (x ∷ list) are = applied tip found x list are

-- a writer that has learned all settles the workflow
pub applying-settles : (header : Header) (lines : ℕ) → ApplyingSettles header lines
applying-settles header lines cluster shard b w version known below lives is whole may room =
    by shard lives below whole may
  where
    by : (s : ℕ) → shard_of b.domain b.workflow header.shards ≡ s → s < header.shards → learned_of b.domain b.workflow (cell_at cluster s w) ≡ written_of header b.domain b.workflow w
        → may_write (home_at header cluster w) b.domain b.workflow (cell_at cluster s w) ≡ Ok version → IsOwnSettled header cluster b (applied_in header cluster s b w)
    by s same less all_learned may_do =
        subst (λ n. IsOwnSettled header cluster b (applied_in header cluster n b w)) same
        (own-settled header lines w is cluster known b (subst (λ n. n < header.shards) (sym same) less) version
        (subst (λ n. learned_of b.domain b.workflow (cell_at cluster n w) ≡ written_of header b.domain b.workflow w) (sym same) all_learned)
        (subst (λ n. may_write (home_at header cluster w) b.domain b.workflow (cell_at cluster n w) ≡ Ok version) (sym same) may_do) room)
