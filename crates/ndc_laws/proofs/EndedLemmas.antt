-- After further lines tables have grown, and so an ended version stays ended, and nothing more is written with it.
use Rattle.std.proofs.Common.{◌≡◌, ◌≢◌, ℕ, ◌+◌, ◌<◌, ◌≤◌, true, ◌⊎◌, inl, inr, List, [], ◌∷◌, length, Some, Ok, sym, ◌∙◌, subst, ap, arith}
use Rattle.std.specs.List.{AllByRecursion, IsAmong, flat_map}
use Rattle.ndc_script_types.specs.WellFormed.{IsCluster, IsWellFormedHeader}
use Rattle.ndc_script_types.specs.declared.script.Header.{Header}
use Rattle.ndc_script_types.specs.declared.script.Line.{Line}
use Rattle.ndc_model_cells.specs.Cells.{both, learned_of}
use Rattle.ndc_model_cells.specs.Places.{is_of}
use Rattle.ndc_model_cells.specs.Shards.{shard_of}
use Rattle.ndc_model_cells.specs.Writing.{may_write}
use Rattle.ndc_domain.specs.Clusters.{count_of, writer_of}
use Rattle.ndc_domain.specs.Records.{record_of}
use Rattle.ndc_domain.specs.declared.clusters.ClusterNo.{ClusterNo}
use Rattle.ndc_domain.specs.declared.record.DomainRecord.{DomainRecord}
use Rattle.ndc_event.specs.declared.batch.Batch.{Batch}
use Rattle.ndc_event.specs.declared.name.Name.{Name}
use Rattle.ndc_laws_reached.proofs.LetterLemmas.{shard-below}
use Rattle.ndc_laws_reached.proofs.WrittenLemmas.{flat-among, in_order-among, names-of}
use Rattle.ndc_model.specs.Sometime.{IsReachedSometime}
use Rattle.ndc_laws_reached.proofs.GrowLemmas.{grows-none, record-grows}
use Rattle.ndc_laws.specs.Grown.{IsWellFormedLine, TablesGrow, world_after}
use Rattle.ndc_laws.proofs.GrowLemmas.{tables-then}
use Rattle.ndc_laws.proofs.LineLemmas.{line-above, line-grows}
use Rattle.ndc_laws.proofs.WriteLemmas.{WasOrIsAbove, WritesAbove, above-none, above-one, above-then}
use Rattle.ndc_laws_reached.proofs.WriterLemmas.{may-parts, within}
use Rattle.ndc_graceful.specs.declared.handover.Handover.{Handover}
use Rattle.ndc_laws_reached.proofs.ReachedLemmas.{line_reached}
use Rattle.ndc_model.specs.Facts.{IsHandoverFit, IsReached}
use Rattle.ndc_model.specs.Fair.{HasRecordFrom, IsOwn, written_of}
use Rattle.ndc_model.specs.Lines.{act_step}
use Rattle.ndc_model.specs.Moves.{all_written}
use Rattle.ndc_model.specs.World.{World, all_clusters, cell_at, cell_of, cluster_at, home_at}
use Rattle.ndc_model.proofs.FairLemmas.{clusters-among}
use Rattle.ndc_laws_cells.proofs.Lists.{is-among}
use Rattle.ndc_model_sets.specs.Sets.{Has}
use Rattle.ndc_model_sets.proofs.BranchLemmas.{has-among}
use Rattle.ndc_model_sets.proofs.Lists.{Among, all-among, filter-among}

-- tables grow after lines that run one after the other
pub lines-grow : (header : Header) (lines : ℕ) (more : List Line) (w : World) → IsWellFormedHeader header → AllByRecursion (IsWellFormedLine header) more → lines + length more ≤ 100000 → IsReached header lines w
    → TablesGrow w (world_after header more w)
lines-grow header lines [] w sound fit few is = λ one. grows-none (cluster_at one w).table
lines-grow header lines (line ∷ more) w sound fit few is =
    tables-then w (act_step header line.act w).world (world_after header more (act_step header line.act w).world) (line-grows header lines line.act w sound fit.0 is)
    (lines-grow header (lines + 1) more (act_step header line.act w).world sound fit.1 (omega (arith, few)) (line_reached header lines line.act w sound fit.0 (omega (arith, few)) is))

-- where tables have grown since a handover was open, no cluster may write with its old version
pub stays-ended : (header : Header) (lines : ℕ) (w v : World) (handover : Handover) → IsReached header lines w → IsAmong w.handovers handover → TablesGrow w v → (cluster : ClusterNo) (workflow : Name) (version : ℕ)
    → may_write (home_at header cluster v) handover.domain workflow (cell_of header cluster handover.domain workflow v) ≡ Ok version → version ≢ handover.old
stays-ended header lines w v handover is opened grown cluster workflow version may same =
    let handed = all-among (IsHandoverFit header w) w.handovers handover is.handovers.each (is-among w.handovers handover opened) in
    let r = (may-parts (home_at header cluster v) handover.domain workflow (cell_of header cluster handover.domain workflow v) version may).by_record in
    let writers : Some cluster ≡ Some handover.from = sym r.writer ∙ ap (writer_of header.clusters) same ∙ handed.writer in
    let one : cluster ≡ handover.from = cc in
    let given : HasRecordFrom handover.new handover.domain (cluster_at handover.from v).table =
    record-grows (cluster_at handover.from w).table (cluster_at handover.from v).table (grown handover.from) handover.new handover.domain handed.given in
    let records : Some r.found ≡ Some given.found = sym (subst (λ (c : ClusterNo). record_of (cluster_at c v).table handover.domain ≡ Some r.found) one r.has) ∙ given.has in
    let record_same : r.found ≡ given.found = cc in
    let least = given.least in let later = handed.later in let version_is = r.version_is in
    let versions : r.found.version ≡ given.found.version = ap (λ (x : DomainRecord). x.version) record_same in
    absurd (omega (arith, least, later, version_is, same, versions))

pub ended-behind : (header : Header) (lines : ℕ) (more : List Line) (w : World) (handover : Handover) → IsWellFormedHeader header → AllByRecursion (IsWellFormedLine header) more → lines + length more ≤ 100000 → IsReached header lines w
    → IsAmong w.handovers handover → (cluster : ClusterNo) (workflow : Name) (version : ℕ)
    → may_write (home_at header cluster (world_after header more w)) handover.domain workflow (cell_of header cluster handover.domain workflow (world_after header more w)) ≡ Ok version → version ≢ handover.old
ended-behind header lines more w handover sound fit few is opened =
    stays-ended header lines w (world_after header more w) handover is opened (lines-grow header lines more w sound fit few is)

-- lines that run one after the other write nothing below the versions of records
pub lines-above : (header : Header) (lines : ℕ) (more : List Line) (w : World) → IsWellFormedHeader header → AllByRecursion (IsWellFormedLine header) more → lines + length more ≤ 100000 → IsReached header lines w
    → WritesAbove w (world_after header more w)
lines-above header lines [] w sound fit few is = above-none w
lines-above header lines (line ∷ more) w sound fit few is =
    above-then w (act_step header line.act w).world (world_after header more (act_step header line.act w).world) (line-grows header lines line.act w sound fit.0 is) (line-above header lines line.act w is)
    (lines-above header (lines + 1) more (act_step header line.act w).world sound fit.1 (omega (arith, few)) (line_reached header lines line.act w sound fit.0 (omega (arith, few)) is))

-- lines that have run lead to a world as it should be
pub lines-reached : (header : Header) (lines : ℕ) (more : List Line) (w : World) → IsWellFormedHeader header → AllByRecursion (IsWellFormedLine header) more → lines + length more ≤ 100000 → IsReached header lines w
    → IsReachedSometime header (world_after header more w)
lines-reached header lines [] w sound fit few is = record { lines = lines; most = omega (arith, few); reached = is }
lines-reached header lines (line ∷ more) w sound fit few is =
    lines-reached header (lines + 1) more (act_step header line.act w).world sound fit.1 (omega (arith, few)) (line_reached header lines line.act w sound fit.0 (omega (arith, few)) is)

-- where nothing was written below the versions of records since a handover was open, no batch of its old version was
module _ (header : Header) (lines later : ℕ) (w v : World) (sound : IsWellFormedHeader header) (is : IsReached header lines w) (then : IsReached header later v) (handover : Handover) (opened : IsAmong w.handovers handover)
    (above : WritesAbove w v) where
  pub nothing-more : (workflow : Name) (b : Batch) → Has (written_of header handover.domain workflow v) b → b.key.version ≡ handover.old → Has (written_of header handover.domain workflow w) b
  nothing-more workflow b has old = by (in_order-among (flat_map (λ c. flat_map both (cell_at c at v).written) (all_clusters header)) [] b p.1)
    where
      at : ℕ
      at = shard_of handover.domain workflow header.shards

      below : at < header.shards
      below = shard-below handover.domain workflow header.shards (omega (arith, sound.shards_least))

      handed : IsHandoverFit header w handover
      handed = all-among (IsHandoverFit header w) w.handovers handover is.handovers.each (is-among w.handovers handover opened)

      p : (is_of handover.domain workflow b ≡ true) × Among b (all_written header at v)
      p = filter-among (is_of handover.domain workflow) (all_written header at v) b (has-among (written_of header handover.domain workflow v) b has)

      n : (b.domain ≡ handover.domain) × (b.workflow ≡ workflow)
      n = names-of handover.domain workflow b p.0

      of-cluster : (cluster : ClusterNo) → IsCluster header cluster → Some cluster ≡ Some handover.from → WasOrIsAbove w cluster at b → Has (written_of header handover.domain workflow w) b
      of-cluster cluster listed same (inl was) =
          let own = all-among (IsOwn header cluster at (cluster_at cluster w).table (cell_at cluster at w)) (flat_map both (cell_at cluster at w).written) b (is.fair.writers cluster at listed below) was in
          within header lines w is cluster listed handover.domain workflow below b
          (subst (λ (d : Name). Has (learned_of d workflow (cell_at cluster at w)) b) n.0 (subst (λ (u : Name). Has (learned_of b.domain u (cell_at cluster at w)) b) n.1 own.learned))
      of-cluster cluster listed same (inr higher) =
          let one : cluster ≡ handover.from = cc in
          let given = handed.given in
          let has : record_of (cluster_at cluster w).table b.domain ≡ Some given.found =
          subst (λ (c : ClusterNo). record_of (cluster_at c w).table b.domain ≡ Some given.found) (sym one) (ap (record_of (cluster_at handover.from w).table) n.0 ∙ given.has) in
          let least = given.least in let more = handed.later in let most = higher given.found has in
          absurd (omega (arith, least, more, most, old))

      by : Among b [] ⊎ Among b (flat_map (λ c. flat_map both (cell_at c at v).written) (all_clusters header)) → Has (written_of header handover.domain workflow w) b
      by (inl none) = absurd none
      by (inr there) =
          let f = flat-among (λ c. flat_map both (cell_at c at v).written) (all_clusters header) b there in
          let listed : IsCluster header f.0 = clusters-among (count_of header.clusters) f.0 f.1 in
          let o = all-among (IsOwn header f.0 at (cluster_at f.0 v).table (cell_at f.0 at v)) (flat_map both (cell_at f.0 at v).written) b (then.fair.writers f.0 at listed below) f.2 in
          let writers : Some f.0 ≡ Some handover.from = sym o.version ∙ ap (writer_of header.clusters) old ∙ handed.writer in
          of-cluster f.0 listed writers (above-one w v above f.0 at b f.2)

-- after further lines nothing more is written with an ended version
pub nothing-behind : (header : Header) (lines : ℕ) (more : List Line) (w : World) (handover : Handover) → IsWellFormedHeader header → AllByRecursion (IsWellFormedLine header) more → lines + length more ≤ 100000 → IsReached header lines w
    → IsAmong w.handovers handover → (workflow : Name) (b : Batch) → Has (written_of header handover.domain workflow (world_after header more w)) b → b.key.version ≡ handover.old
    → Has (written_of header handover.domain workflow w) b
nothing-behind header lines more w handover sound fit few is opened =
    let at = lines-reached header lines more w sound fit few is in
    nothing-more header lines at.lines w (world_after header more w) sound is at.reached handover opened (lines-above header lines more w sound fit few is)
