-- Where the links of a reader stand.
use Rattle.std.specs.Prelude.{◌≡◌, ◌+◌, ℕ, zero, suc, false, List}
use Rattle.std.specs.List.{AllByRecursion}
use Rattle.ndc_domain.specs.declared.clusters.ClusterNo.{ClusterNo}
use Rattle.ndc_model.specs.World.{Link}
use Rattle.ndc_model_cells.specs.Writing.{same_cluster}

-- none of the links is a reader's
abbrev pub AreOthers : ClusterNo → List Link → Type 0
AreOthers reader links = AllByRecursion (λ link. same_cluster link.reader reader ≡ false) links

-- how long so many blocks of one length are
abbrev pub blocks : ℕ → ℕ → ℕ
blocks zero len = 0
blocks (suc count) len = blocks count len + len
