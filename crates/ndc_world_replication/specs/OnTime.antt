-- Readers that are members late of no domain.
use Rattle.std.specs.Prelude.{◌≡◌, true, [], List}
use Rattle.std.specs.List.{AllByRecursion}
use Rattle.ndc_domain.specs.declared.clusters.ClusterNo.{ClusterNo}
use Rattle.ndc_model.specs.World.{Link}
use Rattle.ndc_model_cells.specs.Writing.{same_cluster}

-- a reader is a member late of no domain, as to any source
abbrev pub IsOnTime : ClusterNo → List Link → Type 0
IsOnTime reader links = AllByRecursion (λ link. same_cluster link.reader reader ≡ true → link.late ≡ []) links
