-- Worlds stay as they should be without progress reports.
use Rattle.std.proofs.Common.{◌≡◌, ℕ, suc, ◌≤◌, List, [], ◌∷◌, length, map, refl, sym, ◌∙◌, subst, ap, arith}
use Rattle.std.specs.List.{AllByRecursion, IsAmong}
use Rattle.ndc_script_types.specs.declared.script.Header.{Header}
use Rattle.ndc_model_cells.specs.Jobs.{cell_for}
use Rattle.ndc_domain.specs.declared.clusters.ClusterNo.{ClusterNo}
use Rattle.ndc_laws_reached.proofs.FrameLemmas.{cells_in, fair-alike, handovers-alike, letters-alike, letters_in, queues-same, ranges-alike, tables_in, wrote-same}
use Rattle.ndc_laws_reached.proofs.ReportLemmas.{IsTold}
use Rattle.ndc_model.specs.Facts.{IsReached}
use Rattle.ndc_model.specs.Fair.{IsShaped}
use Rattle.ndc_model.specs.World.{Cluster, World, cluster_at}
use Rattle.ndc_progress.specs.declared.report.Report.{Report}
use Rattle.ndc_model.specs.Bare.{bare, bare_cluster}
use Rattle.ndc_laws_jobs.proofs.MoveLemmas.{cluster-bare, same-at}

nothing : (report : Report) → IsAmong [] report → ⊥
nothing report at = omega (arith, at.1.0)

module _ (header : Header) (lines : ℕ) (w : World) (is : IsReached header lines w) where
  tables : tables_in (bare w) ≡ tables_in w
  tables = λ i other. same-at w (λ c. c.table) other (λ c. refl) i

  letters : letters_in (bare w) ≡ letters_in w
  letters = λ i other. same-at w (λ c. c.letters) other (λ c. refl) i

  cells : cells_in (bare w) ≡ cells_in w
  cells = λ i other place. same-at w (λ c. cell_for place c.cells) other (λ c. refl) i

  same-count : (clusters : List Cluster) → length (map bare_cluster clusters) ≡ length clusters
  same-count [] = refl
  same-count (c ∷ clusters) = ap (λ n. suc n) (same-count clusters)

  same-cells : (clusters : List Cluster) → AllByRecursion (λ c. length c.cells ≡ header.shards) clusters → AllByRecursion (λ c. length c.cells ≡ header.shards) (map bare_cluster clusters)
  same-cells [] all = tt
  same-cells (c ∷ clusters) all = (all.0, same-cells clusters all.1)

  shaped : IsShaped header (bare w)
  shaped = record {
    clusters = same-count w.clusters ∙ is.shaped.clusters;
    cells = same-cells w.clusters is.shaped.cells;
    links = is.shaped.links;
    ends = is.shaped.ends;
    lanes = is.shaped.lanes;
    sources = is.shaped.sources;
    trimmed = is.shaped.trimmed;
  }

  -- there is no report
  none : (other : ClusterNo) → (cluster_at other (bare w)).reports ≡ []
  none other = ap (λ (c : Cluster). c.reports) (cluster-bare w other)

  pub bare-reached : IsReached header lines (bare w)
  bare-reached = record {
    shaped = shaped;
    fair = fair-alike header (bare w) w lines cells tables refl refl is.fair;
    ranges = ranges-alike header (bare w) w (wrote-same header (bare w) w lines cells tables refl refl).batches is.ranges;
    handovers = handovers-alike header (bare w) w tables (queues-same header (bare w) w lines cells tables refl refl) refl is.handovers;
    letters = letters-alike header (bare w) w tables (queues-same header (bare w) w lines cells tables refl refl) letters is.letters;
    beats = λ other there. subst (AllByRecursion (λ (report : Report). report.beat ≤ lines)) (sym (none other)) tt;
    reports = record {
      one = λ first second one other there also at_first at_second. absurd (nothing one (subst (λ (l : List Report). IsAmong l one) (none first) at_first));
      told = λ other there. subst (AllByRecursion (IsTold header (bare w))) (sym (none other)) tt;
    };
  }
