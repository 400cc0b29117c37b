-- Progress reports are nothing to what is shown of a script.
use Rattle.std.proofs.Common.{◌≡◌, ℕ, List, [], ◌∷◌, length, map, refl, ap, ◌∙◌}
use Rattle.std.specs.List.{fold}
use Rattle.ndc_script_types.specs.declared.script.Header.{Header}
use Rattle.ndc_model.specs.Bare.{bare, bare_cluster}
use Rattle.ndc_model.specs.Standing.{StandFor}
use Rattle.ndc_laws_jobs.proofs.MoveLemmas.{map-same}
use Rattle.ndc_model_cells.specs.Cells.{Cell}
use Rattle.ndc_model_cells.specs.Jobs.{cell_for}
use Rattle.ndc_domain.specs.declared.record.DomainRecord.{DomainRecord}
use Rattle.ndc_model.specs.World.{Cluster, World, shards_of}
use Rattle.ndc_progress.specs.declared.report.Report.{Report}
use Rattle.ndc_script_types.specs.declared.script.Script.{Script}
use Rattle.ndc_model.specs.Lines.{ran_of}
use Rattle.ndc_world.specs.Counts.{refused_in}
use Rattle.ndc_world.specs.Standing.{WorldValue}
use Rattle.ndc_world.specs.Summary.{summary_of, summary_with}
use Rattle.ndc_world.specs.declared.summary.Summary.{Summary}
use Rattle.ndc_world.specs.Rest.{last_world}
use Rattle.ndc_tool_top.specs.Demo.{demo_text, summary_line}
use Rattle.ndc_world_queries.specs.Summaries.{added, are_one_table, cells_of, totals_in, totals_of, tables_alone}
use Rattle.ndc_world_queries.specs.declared.parts.Totals.{Totals}

-- what is mapped over clusters without reports
map-bare : {X : Type 0} (f : Cluster → X) → ((cluster : Cluster) → f (bare_cluster cluster) ≡ f cluster) → (clusters : List Cluster) → map f (map bare_cluster clusters) ≡ map f clusters
map-bare f same [] = refl
map-bare f same (cluster ∷ clusters) = ap (λ x. x ∷ map f (map bare_cluster clusters)) (same cluster) ∙ ap (λ l. f cluster ∷ l) (map-bare f same clusters)

-- a world comes to the same without reports
totals-bare : (header : Header) (w : World) → totals_of header (bare w) ≡ totals_of header w
unfolding totals_of
totals-bare header w =
    ap (λ (tables : List (List DomainRecord)). fold added (record { batches = 0; workflows = 0; branches = 0; same = are_one_table tables }) (map (λ shard. totals_in (cells_of (bare w) shard)) (shards_of header)))
    (map-bare (λ cluster. cluster.table) (λ cluster. refl) w.clusters)
    ∙ ap (λ (parts : List Totals). fold added (tables_alone w) parts)
    (map-same (λ shard. totals_in (cells_of (bare w) shard)) (λ shard. totals_in (cells_of w shard))
    (λ shard. ap (λ (cells : List Cell). totals_in cells) (map-bare (λ cluster. cell_for shard cluster.cells) (λ cluster. refl) w.clusters)) (shards_of header))

-- and so do clusters that represent it
pub totals_stand : (header : Header) (v w : World) (reports : List (List Report)) → StandFor v reports w → totals_of header v ≡ totals_of header w
totals_stand header v w reports stand = ap (totals_of header) stand.clusters ∙ totals-bare header w

-- what is shown of a script that was run
pub demo_is : (script made : Script) (value : WorldValue) (summary : Summary) → script ≡ made → value.header ≡ script.header → value.answers ≡ length (ran_of script) → value.refused ≡ refused_in (ran_of script)
    → StandFor value.world value.reports (last_world script) → summary ≡ summary_of value → summary_line summary ≡ demo_text made
demo_is script made value summary is headed answers refusals stand found =
    ap summary_line found
    ∙ ap (λ (n : ℕ). summary_line (summary_with n value.refused (totals_of value.header value.world))) answers
    ∙ ap (λ (n : ℕ). summary_line (summary_with (length (ran_of script)) n (totals_of value.header value.world))) refusals
    ∙ ap (λ (h : Header). summary_line (summary_with (length (ran_of script)) (refused_in (ran_of script)) (totals_of h value.world))) headed
    ∙ ap (λ (t : Totals). summary_line (summary_with (length (ran_of script)) (refused_in (ran_of script)) t)) (totals_stand script.header value.world (last_world script) value.reports stand)
    ∙ ap (λ (s : Script). demo_text s) is
