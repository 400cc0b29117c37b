-- In a world that is as it should be, a cluster that may write has learned all that was written with its version, and nothing later.
pub use Rattle.ndc_laws_cells.proofs.VersionLemmas.{IsWriter, WritesWith, may-parts}
use Rattle.std.proofs.Common.{◌≡◌, ◌<◌, ◌≤◌, ℕ, true, List, [], length, ◌⊎◌, inl, inr, Some, sym, ◌∙◌, subst, ap, arith}
use Rattle.std.specs.List.{flat_map}
use Rattle.ndc_script_types.specs.WellFormed.{IsCluster}
use Rattle.ndc_script_types.specs.declared.script.Header.{Header}
use Rattle.ndc_model_cells.specs.Cells.{Cell, arrived_of, both, learned_of}
use Rattle.ndc_model_cells.specs.Places.{is_of}
use Rattle.ndc_model_cells.specs.Shards.{shard_of}
use Rattle.ndc_model_cells.specs.Writing.{Entry}
use Rattle.ndc_model_cells.proofs.PlaceLemmas.{set_of_workflow}
use Rattle.ndc_domain.specs.Clusters.{count_of, writer_of}
use Rattle.ndc_domain.specs.Records.{IsRecord, record_of}
use Rattle.ndc_domain.specs.declared.clusters.ClusterNo.{ClusterNo}
use Rattle.ndc_event.specs.declared.batch.Batch.{Batch}
use Rattle.ndc_event.specs.declared.name.Name.{Name}
use Rattle.ndc_model.specs.Facts.{IsReached}
use Rattle.ndc_model.specs.Fair.{AreNumbersSmall, IsOwn, written_of}
use Rattle.ndc_model.specs.Moves.{all_written}
use Rattle.ndc_model.specs.World.{World, all_clusters, cell_at, cluster_at, home_at}
use Rattle.ndc_model.proofs.FairLemmas.{clusters-among}
use Rattle.ndc_model_sets.specs.Learned.{IsPart}
use Rattle.ndc_model_sets.specs.Sets.{Has, IsSet}
use Rattle.ndc_model_sets.proofs.BranchLemmas.{has-among}
use Rattle.ndc_model_sets.proofs.LearnedLemmas.{learned-reaches, learned_closed, reaches-has}
use Rattle.ndc_model_sets.proofs.Lists.{Among, all-among, filter-among, find-among}
use Rattle.ndc_text.specs.Ranges.{InRange}
use Rattle.ndc_laws_reached.proofs.WrittenLemmas.{arrived-written, cell-is, flat-among, has-written, in_order-among, names-of}
use Rattle.ndc_laws_reached.proofs.LandLemmas.{IsWritable}
use Rattle.ndc_laws_cells.specs.Adding.{MayAdd}
use Rattle.ndc_laws_cells.specs.Entries.{AreFew, IsWrite}
use Rattle.ndc_laws_cells.proofs.MayLemmas.{version-most}

module _ (header : Header) (lines : ℕ) (w : World) (is : IsReached header lines w) (cluster : ClusterNo) (known : IsCluster header cluster) (domain workflow : Name)
    (below : shard_of domain workflow header.shards < header.shards) where
  abbrev at : ℕ
  at = shard_of domain workflow header.shards

  abbrev cell : Cell
  cell = cell_at cluster at w

  abbrev all : List Batch
  all = written_of header domain workflow w

  abbrev part : List Batch
  part = learned_of domain workflow cell

  held-set : IsSet (arrived_of domain workflow cell)
  held-set = set_of_workflow domain workflow cell (cell-is header lines w is at below cluster known)

  pub within : IsPart part all
  within x has =
      let held : Has (arrived_of domain workflow cell) x = reaches-has (arrived_of domain workflow cell) x (learned-reaches (arrived_of domain workflow cell) x held-set has) in
      let p = filter-among (is_of domain workflow) cell.arrived x (has-among (arrived_of domain workflow cell) x held) in
      let n = names-of domain workflow x p.0 in
      let there = has-written header lines w is at below x (arrived-written header lines w is at below cluster known x p.1) in
      subst (λ d. Has (written_of header d workflow w) x) n.0 (subst (λ u. Has (written_of header x.domain u w) x) n.1 there)

  -- what was written with a version of this cluster it has learned
  own : (version : ℕ) → writer_of header.clusters version ≡ Some cluster → (x : Batch) → Has all x → x.key.version ≡ version → Has part x
  own version writer x has same = by (in_order-among (flat_map (λ c. flat_map both (cell_at c at w).written) (all_clusters header)) [] x p.1)
    where
      p : (is_of domain workflow x ≡ true) × Among x (all_written header at w)
      p = filter-among (is_of domain workflow) (all_written header at w) x (has-among all x has)

      n : (x.domain ≡ domain) × (x.workflow ≡ workflow)
      n = names-of domain workflow x p.0

      by : Among x [] ⊎ Among x (flat_map (λ c. flat_map both (cell_at c at w).written) (all_clusters header)) → Has part x
      by (inl none) = absurd none
      by (inr there) =
          let f = flat-among (λ c. flat_map both (cell_at c at w).written) (all_clusters header) x there in
          let listed : IsCluster header f.0 = clusters-among (count_of header.clusters) f.0 f.1 in
          let o = all-among (IsOwn header f.0 at (cluster_at f.0 w).table (cell_at f.0 at w)) (flat_map both (cell_at f.0 at w).written) x (is.fair.writers f.0 at listed below) f.2 in
          let both_are : Some f.0 ≡ Some cluster = sym o.version ∙ ap (writer_of header.clusters) same ∙ writer in
          let one : f.0 ≡ cluster = cc in
          subst (λ d. Has (learned_of d workflow cell) x) n.0 (subst (λ u. Has (learned_of x.domain u cell) x) n.1 (subst (λ (c : ClusterNo). Has (learned_of x.domain x.workflow (cell_at c at w)) x) one o.learned))

  pub may-add : (version : ℕ) → WritesWith (home_at header cluster w) domain part version → MayAdd all part version
  may-add version with =
      let closed = learned_closed (arrived_of domain workflow cell) held-set in
      record {
        sound = is.fair.writing.sound domain workflow;
        named = is.fair.copies domain workflow;
        part_set = closed.0;
        part_closed = closed.1;
        within = within;
        own = own version with.by_record.writer;
        top = λ x has. let l = version-most part x (has-among part x has) in let m = with.most in omega (arith, l, m);
      }

  pub are-few : (version : ℕ) → WritesWith (home_at header cluster w) domain part version → AreFew all version
  are-few version with =
      let n : AreNumbersSmall lines all = is.fair.numbers.written domain workflow in
      let most = is.fair.numbers.lines_most in
      record {
        version_most = (let r = all-among IsRecord (cluster_at cluster w).table with.by_record.found (is.fair.records.tables cluster known).sound (find-among _ (cluster_at cluster w).table with.by_record.found with.by_record.has) in
            let v = r.0 in let e = with.by_record.version_is in omega (arith, v, e));
        tasks = λ x has. all-among (λ (y : Batch). y.key.task ≤ length all) all x n.tasks (has-among all x has);
        batches_most = (let b = n.batches_most in omega (arith, b, most));
        originals_most = (let o = n.originals_most in omega (arith, o, most));
        events_most = n.events_most;
        range = λ x has. all-among InRange all x (is.ranges domain workflow) (has-among all x has);
      }

  -- an entry that may be written to the workflow
  pub writable : (version originals : ℕ) (entry : Entry) → IsWriter (home_at header cluster w) domain version → IsWrite all (learned_of domain workflow (cell_at cluster (shard_of domain workflow header.shards) w)) domain workflow version originals entry
      → IsWritable header cluster w originals entry.batch entry.second
  writable version originals entry with write = record {
    writer = ap (writer_of header.clusters) write.version_is ∙ with.writer;
    found = with.found;
    has = ap (record_of (cluster_at cluster w).table) write.domain_is ∙ with.has;
    version_is = with.version_is ∙ sym write.version_is;
    write =
        subst (λ v. IsWrite (written_of header entry.batch.domain entry.batch.workflow w) (learned_of entry.batch.domain entry.batch.workflow (cell_at cluster (shard_of entry.batch.domain entry.batch.workflow header.shards) w))
        entry.batch.domain entry.batch.workflow v originals entry) (sym write.version_is)
        (subst (λ u. IsWrite (written_of header entry.batch.domain u w) (learned_of entry.batch.domain u (cell_at cluster (shard_of entry.batch.domain u header.shards) w)) entry.batch.domain u version originals entry) (sym write.workflow_is)
        (subst (λ d. IsWrite (written_of header d workflow w) (learned_of d workflow (cell_at cluster (shard_of d workflow header.shards) w)) d workflow version originals entry) (sym write.domain_is) write));
  }
