-- What is told unasked: that a member is late.
use Rattle.std.specs.Prelude.{ℕ, List, [], if◌then◌else◌}
use Rattle.std.specs.List.{flat_map, range_with_len}
use Rattle.ndc_domain.specs.Clusters.{cluster_no, count_of, name_of}
use Rattle.ndc_domain.specs.declared.clusters.ClusterNo.{ClusterNo}
use Rattle.ndc_event.specs.declared.name.Name.{Name}
use Rattle.ndc_model.specs.World.{World, is_late_in, link_at}
use Rattle.ndc_script_types.specs.declared.script.Act.{Act}
use Rattle.ndc_script_types.specs.declared.script.Act.TheVariants as act
use Rattle.ndc_script_types.specs.declared.script.Header.{Header}
use Rattle.ndc_probe.specs.Late.{late_line, late_lines}

-- a line, where a reader is late in a domain at the source of a number
abbrev pub late_from : Header → ClusterNo → Name → World → ℕ → List ℕ
late_from header reader domain w number =
    if is_late_in domain (link_at reader (cluster_no number) w) then late_line (name_of header.clusters reader) (name_of header.clusters (cluster_no number)) domain else []

-- where a reader is late in a domain, source by source
abbrev pub late_anywhere : Header → ClusterNo → Name → World → List ℕ
late_anywhere header reader domain w = flat_map (late_from header reader domain w) (range_with_len 0 (count_of header.clusters))

-- where a reader is late at a source, domain by domain
abbrev pub late_at : Header → ClusterNo → ClusterNo → World → List ℕ
late_at header reader source w = late_lines (name_of header.clusters reader) (name_of header.clusters source) (link_at reader source w).late

-- what is told after a line: of a member that is named, in the domain; of a reader, in all domains of the source
unfoldable pub noticed : Header → Act → World → List ℕ
noticed header (act.Join at domain member) w = late_anywhere header member domain w
noticed header (act.Failover at domain target) w = late_anywhere header target domain w
noticed header (act.Pull reader source) w = late_at header reader source w
noticed header (act.PullSome reader source shard count) w = late_at header reader source w
noticed header (act.LevelsOf reader source shard) w = late_at header reader source w
noticed header _ w = []
