-- Reapplication in one workflow keeps worlds as they should be; and all lines that write do.
use Rattle.std.proofs.Common.{◌≡◌, ◌<◌, ◌≤◌, ◌+◌, ◌*◌, ◌&&◌, ℕ, false, List, [], ◌∷◌, length, Option, Some, None, Result, Ok, Err, refl, sym, subst, ap, arith}
use Rattle.std.specs.Str.{bytes_eq}
use Rattle.ndc_script_types.specs.WellFormed.{IsCluster, IsName, IsWellFormedHeader}
use Rattle.ndc_script_types.specs.declared.script.Header.{Header}
use Rattle.ndc_model_cells.specs.Cells.{Cell, learned_of}
use Rattle.ndc_model_cells.specs.Places.{is_of}
use Rattle.ndc_model_cells.specs.Shards.{shard_of}
use Rattle.ndc_model_cells.specs.Writing.{Entry, may_write, reapplication_below, reapplication_by, reapplication_of, with_all_written, with_written}
use Rattle.ndc_command.specs.declared.refusal.Refusal.{Refusal}
use Rattle.ndc_domain.specs.declared.clusters.ClusterNo.{ClusterNo}
use Rattle.ndc_event.specs.declared.batch.Batch.{Batch}
use Rattle.ndc_model.specs.Facts.{IsReached}
use Rattle.ndc_model.specs.Fair.{written_of}
use Rattle.ndc_model.specs.Moves.{all_written}
use Rattle.ndc_model.specs.World.{World, cell_at, home_at}
use Rattle.ndc_model_sets.specs.Branches.{workflow_tip}
use Rattle.ndc_model_sets.specs.Current.{strays}
use Rattle.ndc_model_sets.specs.Sets.{Has}
use Rattle.ndc_model_sets.proofs.BranchLemmas.{has-among}
use Rattle.ndc_model_sets.proofs.Lists.{all-among, filter-among}
use Rattle.ndc_text.specs.Ranges.{InRange}
use Rattle.ndc_laws_reached.specs.Writing.{ApplyingKeeps, IsApplied, WritingKeeps, applied_in, count_in, with_cell}
use Rattle.ndc_laws_reached.proofs.WrittenLemmas.{names-of}
use Rattle.ndc_laws_reached.proofs.JoinedLemmas.{joined-length}
use Rattle.ndc_laws_reached.proofs.MoveLemmas.{Leaves, command-kept, entry-leaves, reset-kept, same-world}
use Rattle.ndc_laws_cells.proofs.PairLemmas.{news}
use Rattle.ndc_laws_reached.proofs.WriterLemmas.{WritesWith, are-few, may-add, may-parts}
use Rattle.ndc_laws_cells.specs.Entries.{IsWrite}
use Rattle.ndc_laws_cells.proofs.MayLemmas.{tip-all}
use Rattle.ndc_laws_cells.proofs.ReapplyLemmas.{reapplication-writes}

-- the names of a batch that was written to a workflow are those of the workflow
pub tip-names : (header : Header) (lines : ℕ) (w : World) → IsReached header lines w → (b tip : Batch) → Has (written_of header b.domain b.workflow w) tip → IsName b.domain × IsName b.workflow
tip-names header lines w is b tip has =
    let all : List Batch = written_of header b.domain b.workflow w in
    let p = filter-among (is_of b.domain b.workflow) (all_written header (shard_of b.domain b.workflow header.shards) w) tip (has-among all tip has) in
    let n = names-of b.domain b.workflow tip p.0 in
    let r = all-among InRange all tip (is.ranges b.domain b.workflow) (has-among all tip has) in
    (subst IsName n.0 r.domain, subst IsName n.1 r.workflow)

module _ (header : Header) (lines : ℕ) (w : World) (is : IsReached header lines w) (cluster : ClusterNo) (known : IsCluster header cluster) (b : Batch)
    (below : shard_of b.domain b.workflow header.shards < header.shards) (room : count_in header b.domain b.workflow w + 1 ≤ 2 * lines) where
  abbrev at : ℕ
  at = shard_of b.domain b.workflow header.shards

  abbrev cell : Cell
  cell = cell_at cluster at w

  abbrev all : List Batch
  all = written_of header b.domain b.workflow w

  abbrev part : List Batch
  part = learned_of b.domain b.workflow cell

  -- an entry that reapplication writes
  record Applies (entry : Entry) (others : List Entry) : Type 0 where
    version : ℕ
    with : WritesWith (home_at header cluster w) b.domain part version
    alone : others ≡ []
    lone : entry.second ≡ None
    write : IsWrite all part b.domain b.workflow version 0 entry

  applies : (entry : Entry) (others : List Entry) → reapplication_of (home_at header cluster w) b.domain b.workflow cell ≡ entry ∷ others → Applies entry others
  unfolding reapplication_of
  applies entry others e = by (may_write (home_at header cluster w) b.domain b.workflow cell) refl e
    where
      below-tip : (version : ℕ) → WritesWith (home_at header cluster w) b.domain part version → (o : Option Batch) → workflow_tip part ≡ o
          → reapplication_below b.domain b.workflow version o part (strays part) ≡ entry ∷ others → Applies entry others
      below-tip version with None tip h = absurd (cc)
      below-tip version with (Some tip) found h =
          let may = may-add header lines w is cluster known b.domain b.workflow below version with in
          let n = tip-names header lines w is b tip (tip-all all part version may tip found) in
          let r = reapplication-writes all part version may (are-few header lines w is cluster known b.domain b.workflow below version with) b.domain b.workflow n.0 n.1 (Some tip) found (strays part) refl entry others h in
          record { version = version; with = with; alone = r.0; lone = r.1; write = r.2 }

      by : (r : Result ℕ Refusal) → may_write (home_at header cluster w) b.domain b.workflow cell ≡ r → reapplication_by b.domain b.workflow r part ≡ entry ∷ others → Applies entry others
      by (Ok version) m h = below-tip version (may-parts (home_at header cluster w) b.domain b.workflow cell version m) (workflow_tip part) refl h
      by (Err why) m h = absurd (cc)

  nothing-applied : IsApplied header lines b w (with_cell cluster at cell w)
  nothing-applied =
      subst (IsApplied header lines b w) (sym (same-world header lines w is cluster known b.domain b.workflow below))
      (record { reached = is; others = λ d u other. refl; own = omega arith })

  one-applied : (entry : Entry) → Applies entry [] → IsApplied header lines b w (with_cell cluster at (with_written entry cell) w)
  one-applied entry a =
      record {
        reached = leaves.reached;
        others = λ d u other. leaves.others d u
            (subst (λ n. (bytes_eq n d && bytes_eq entry.batch.workflow u) ≡ false) (sym a.write.domain_is) (subst (λ n. (bytes_eq b.domain d && bytes_eq n u) ≡ false) (sym a.write.workflow_is) other));
        own = (let l = ap length leaves.own in let j = joined-length all entry.batch entry.second a.write.added a.write.second in omega (arith, l, j, one));
      }
    where
      one : length (news entry.batch entry.second) ≡ 1
      one = ap (λ o. length (news entry.batch o)) a.lone

      leaves : Leaves header lines w is cluster known b.domain b.workflow below entry b.domain b.workflow (with_cell cluster at (with_written entry cell) w)
      leaves =
          entry-leaves header lines w is cluster known b.domain b.workflow below a.version 0 entry a.with.by_record a.write
          (omega (arith, one, room)) (let n = is.fair.numbers.written b.domain b.workflow in let m = n.originals_most in omega (arith, m))

  pub workflow-applied : IsApplied header lines b w (applied_in header cluster at b w)
  workflow-applied = by (reapplication_of (home_at header cluster w) b.domain b.workflow cell) refl
    where
      alone : (entry : Entry) (others : List Entry) → Applies entry others → Applies entry []
      alone entry others a = record { version = a.version; with = a.with; alone = refl; lone = a.lone; write = a.write }

      by : (entries : List Entry) → reapplication_of (home_at header cluster w) b.domain b.workflow cell ≡ entries → IsApplied header lines b w (with_cell cluster at (with_all_written entries cell) w)
      by [] e = nothing-applied
      by (entry ∷ others) e =
          let a = applies entry others e in
          subst (λ (l : List Entry). IsApplied header lines b w (with_cell cluster at (with_all_written (entry ∷ l) cell) w)) (sym a.alone) (one-applied entry (alone entry others a))

pub applying-kept : (header : Header) (lines : ℕ) → ApplyingKeeps header lines
applying-kept header lines cluster shard b w known below lives is room =
    subst (λ s. IsApplied header lines b w (applied_in header cluster s b w)) lives (workflow-applied header lines w is cluster known b (subst (λ s. s < header.shards) (sym lives) below) room)

-- lines that write keep worlds as they should be
pub writing_keeps : (header : Header) (lines : ℕ) → IsWellFormedHeader header → lines < 100000 → WritingKeeps header lines
writing_keeps header lines well few = record {
  command = λ cluster domain workflow command w fit is. command-kept header well lines few w is cluster domain workflow fit.0 command fit.1;
  reset = λ cluster domain workflow event w fit is. reset-kept header well lines few w is cluster domain workflow fit.0 event;
  applied = applying-kept header (lines + 1);
}
