use Rattle.std.proofs.Common.{◌≡◌, ℕ, zero, suc, List, [], ◌∷◌, arith, ap, length, length-append, refl, replicate, ◌∙◌}
use Rattle.std.proofs.lemmas.Simd.{splat_is_map}
use Rattle.ndc_domain.specs.Clusters.{cluster_no}
use Rattle.ndc_progress.specs.declared.report.Report.{Report}
use Rattle.ndc_script_types.specs.Below.{clusters_below}
use Rattle.ndc_world.proofs.reporting.no_reports.Goals as goal

-- how many the first clusters are
length-below : (count : ℕ) → length (clusters_below count) ≡ count
length-below zero = refl
length-below (suc count) = length-append (clusters_below count) (cluster_no count ∷ []) ∙ omega (arith, length-below count)

pub returns : goal.returns
returns c =
    c.in_ok-reports.ensures ∙ ap (λ (count : ℕ). replicate {A = List Report} count []) c.count.ensures.count
    ∙ splat_is_map (clusters_below (length c.args.header.now.clusters.members)) (length c.args.header.now.clusters.members) [] (length-below (length c.args.header.now.clusters.members))
